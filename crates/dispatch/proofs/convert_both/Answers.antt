-- `dispatch::convert_both` meets its contract. Assumes nothing.
use Rattle.operand.proofs.Shapes.{formed_small, count_small}
use Rattle.dispatch.specs.Meaning.{converted_to}
use Rattle.dispatch.proofs.Checks.{on_refusal, on_components}
use Rattle.dispatch.proofs.Stands.{stands}
use Rattle.dispatch.proofs.convert_both.Goals as goal

pub work-requires : goal.work-requires
work-requires c = (formed_small _ c.requires.0, formed_small _ c.requires.1)

-- both have their types
pub returns-then-lt-x : goal.returns-then-lt-x
returns-then-lt-x c =
    let p = c.requires in
    stands _ _ _ _ p.0 p.1 _ _ _ p.2 c.if-lt-x.true c.work.ensures

pub count-requires : goal.count-requires
count-requires c = (formed_small _ c.requires.0)

pub converted-requires : goal.converted-requires
converted-requires c = rw c.count.ensures (count_small _ (formed_small _ c.requires.0))

pub returns-in-Err : goal.returns-in-Err
unfolding converted_to
returns-in-Err c =
    on_refusal _ _ _ _ (rw c.count.ensures at c.in-Err.ensures) c.refused_as.ensures

pub count-requires-2 : goal.count-requires-2
count-requires-2 c = (formed_small _ c.requires.1)

pub converted-requires-2 : goal.converted-requires-2
converted-requires-2 c = rw c.count-2.ensures (count_small _ (formed_small _ c.requires.1))

pub returns-in-Err-converted : goal.returns-in-Err-converted
unfolding converted_to
returns-in-Err-converted c =
    on_components _ _ _ _ (rw c.count.ensures at c.in-Ok.ensures)
    (on_refusal _ _ _ _ (rw c.count-2.ensures at c.in-Err-converted.ensures) c.refused_as-in-Err-converted.ensures)

pub work-requires-in-Ok-converted : goal.work-requires-in-Ok-converted
work-requires-in-Ok-converted c = (formed_small _ c.requires.0, formed_small _ c.requires.1)

pub returns-in-Ok-converted : goal.returns-in-Ok-converted
unfolding converted_to
returns-in-Ok-converted c =
    on_components _ _ _ _ (rw c.count.ensures at c.in-Ok.ensures)
    (on_components _ _ _ _ (rw c.count-2.ensures at c.in-Ok-converted.ensures)
    c.work-in-Ok-converted.ensures)
