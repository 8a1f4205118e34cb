-- The number that the check tells, or none.
use mathlib.Core.Path.{◌≡◌, refl, ap, ◌∙◌}
use Prim.Native.Nat.{ℕ}
use native.Mathlib.Omega.{arith}
use Rattle.std.proofs.Common.{Result}
use Rattle.std.specs.Result.{result_unwrap_or}
use Rattle.low.specs.declared.Refused.{Refused}
use Rattle.sheet.specs.Sheet.{read_sheet}
use Rattle.command.specs.Listing.{entries_of}
use Rattle.command.proofs.Paging.{entries_told, few_entries}
use Rattle.command.proofs.pages.entries.Goals as goal

pub returns : goal.returns
returns c =
    let s = c.args.sheet.now in
    let e : c.unwrap_or.result ≡ entries_of (read_sheet s) =
    c.unwrap_or.ensures ∙ ap (λ (x : Result ℕ Refused). result_unwrap_or x 0) c.check.ensures ∙ entries_told (read_sheet s) in
    (e, omega (arith, e, few_entries s (read_sheet s) refl))
