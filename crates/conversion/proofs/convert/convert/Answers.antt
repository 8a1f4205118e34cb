-- `conversion::convert::convert` meets its contract. Assumes nothing.
use mathlib.Core.Path.{ap, ◌∙◌}
use mir.Syntax.{w64}
use mir.Val.{SFits}
use mir.ValLaws.{to_z-of_z}
use borrow.Author.Rules.{rules}
use Rattle.conversion.specs.Convert.{from_int}
use Rattle.conversion.proofs.convert.convert.Goals as goal

pub returns-in-AbstractInt : goal.returns-in-AbstractInt
returns-in-AbstractInt c =
    let g : SFits w64 c.in-AbstractInt.x = search rules in
    rw c.in-AbstractInt.is (c.from_int.ensures ∙ ap (from_int c.args.ty) (to_z-of_z w64 _ g))
