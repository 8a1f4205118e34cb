-- After i turns the pages of the first i changes are shown.
use mathlib.Core.Path.{◌≡◌}
use Prim.Native.Nat.{◌+◌, ◌*◌, ◌≤◌}
use lib.ListN.{length}
use Rattle.sheet.specs.Sheet.{read_sheet}
use Rattle.asked.specs.Asked.{asked_from}
use Rattle.asked.proofs.Asking.{left}
use Rattle.command.specs.Listing.{change_pages}
use Rattle.command.proofs.Paging.{Going}
use Rattle.command.proofs.show.Show.changes.Given as goal

abbrev pub invariant-loop-i : goal.invariant-loop-i
invariant-loop-i l =
    (length l.results ≡ length l.initial.results) × (l.self.at ≤ l.initial.self.at + 131072 * l.i)
    × Going l.verbose (read_sheet l.sheet) (change_pages l.verbose (read_sheet l.sheet) l.initial.results (asked_from l.n l.line l.from)) l.initial.self l.self l.results (left l.line l.from l.n l.i)
