-- A bad word is no change; the three words of a good one are the change.
use mathlib.Core.Path.{sym, ap, ◌∙◌}
use mathlib.Core.Bool.{false}
use native.Mathlib.Omega.{arith}
use Rattle.sheet.specs.Sheet.{read_sheet}
use Rattle.command.specs.Listing.{change_page, after_change}
use Rattle.command.proofs.Shown.{added_as, nothing_added}
use Rattle.command.proofs.Paging.{bad_shown, bad_after}
use Rattle.command.proofs.show.Show.change_in.Goals as goal

pub returns-in_default : goal.returns-in_default
returns-in_default c =
    let bad = sym c.in_default.is ∙ c.change_at.ensures in
    (added_as (nothing_added _) (bad_shown _ _ _ _ _ bad), bad_after false _ _ _ _ bad, omega arith)

pub returns-in-Ok : goal.returns-in-Ok
returns-in-Ok c =
    let s = c.args in
    let asked = sym c.in-Ok.is ∙ c.change_at.ensures in (
      added_as c.change.ensures.0 (ap (change_page s.verbose (read_sheet s.sheet.now) s.results.now) asked),
      c.change.ensures.1 ∙ ap (after_change (read_sheet s.sheet.now) s.results.now) asked,
      c.change.ensures.2,
    )
