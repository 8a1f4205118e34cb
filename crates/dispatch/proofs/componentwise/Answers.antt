-- `dispatch::componentwise` meets its contract. Assumes nothing.
use Prim.Native.Nat.{◌≤◌}
use Rattle.operand.proofs.Shapes.{count_small}
use Rattle.components.proofs.Places.{stride_inside}
use Rattle.pairing.specs.Pairing.{result_shape}
use Rattle.pairing.proofs.Picks.{result_small}
use Rattle.dispatch.specs.Meaning.{by_component}
use Rattle.dispatch.proofs.Checks.{answer_same}
use Rattle.dispatch.proofs.componentwise.Goals as goal

pub count-requires : goal.count-requires
count-requires c =
    rw c.result_shape-s.ensures (result_small _ _ c.requires.0 c.requires.1)

pub steps-run-requires : goal.steps-run-requires
steps-run-requires c =
    let p = c.requires in
    let g = c.args in
    let n : c.count.result ≤ 16 =
    rw (c.count.ensures, c.result_shape-s.ensures) (count_small (result_shape g.l.0 g.r.0) (result_small _ _ p.0 p.1)) in
    (rw c.stride.ensures (stride_inside g.l.0 _ n), rw c.stride-2.ensures (stride_inside g.r.0 _ n), n)

pub returns : goal.returns
unfolding by_component
returns c =
    let e = rw (c.stride.ensures, c.stride-2.ensures, c.count.ensures) at c.steps-run.ensures in
    rw (← c.result_shape-s.ensures) (answer_same _ _ _ _ _ _ _ c.answer_of.ensures e c.result_type.ensures)
