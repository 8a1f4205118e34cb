-- `cases::shapes::is_right` meets its contract. Assumes nothing.
use mathlib.Core.Path.{refl}
use lib.ListN.{replicate}
use Rattle.cases.specs.Judged.{shape_right}
use Rattle.cases.proofs.Records.{slot_over}
use borrow.Author.Rules.{rules}
use Rattle.cases.proofs.shapes.is_right.Goals as goal

pub returns : goal.returns
unfolding shape_right
returns c =
    rw (← c.asked.ensures, ← c.answer.ensures, ← slot_over (replicate 136 0) c.asked.result refl, ← c.put.ensures) c.holds.ensures
