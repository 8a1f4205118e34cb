-- After the turns up to entry k the first k entries are marked as they should be.
use native.Mathlib.Omega.{arith}
use Rattle.entries.proofs.Turning.{here_bodied, here_few, turned, ready_few, marking_start, marking_here, marking_more, marking_few, marking_small, marking_next, marking_done}
use Rattle.entries.proofs.depend.dependents.Goals as goal

pub bounds-marks-i : goal.bounds-marks-i
bounds-marks-i c = ready_few _ _ _ _ c.requires

pub loop-k-init : goal.loop-k-init
loop-k-init c = marking_start _ _ _ _ _ c.requires c.span_at-at.ensures

pub names_marked-named-requires : goal.names_marked-named-requires
names_marked-named-requires c =
    here_bodied _ _ _ c.span_at-r.ensures _ c.body.ensures.bytes _ (marking_here _ _ _ _ _ _ _ c.loop-k.invariant c.loop-k-test.true)

pub bounds-marks-k : goal.bounds-marks-k
bounds-marks-k c = here_few _ _ _ (marking_here _ _ _ _ _ _ _ c.loop-k.invariant c.loop-k-test.true)

pub overflow_add-count : goal.overflow_add-count
overflow_add-count c =
    let f = c.loop-k.invariant in
    let t = c.loop-k-test.true in
    let w = turned _ _ _ c.span_at-r.ensures _ c.body.ensures.bytes f.accepted.sheet _ f.place (marking_more _ _ _ _ _ _ _ f t) _ _ c.names_marked-named.ensures _ c.from-count.ensures in
    omega (arith, marking_few _ _ _ _ _ _ _ f, marking_small _ _ _ _ _ _ _ f t _ _ _ w)

pub loop-k-preserved : goal.loop-k-preserved
loop-k-preserved c =
    let f = c.loop-k.invariant in
    let t = c.loop-k-test.true in
    let w = turned _ _ _ c.span_at-r.ensures _ c.body.ensures.bytes f.accepted.sheet _ f.place (marking_more _ _ _ _ _ _ _ f t) _ _ c.names_marked-named.ensures _ c.from-count.ensures in
    marking_next _ _ _ _ _ _ _ f t _ _ _ w

pub returns : goal.returns
returns c = marking_done _ _ _ _ _ _ _ c.loop-k.invariant (omega (arith, c.loop-k.auto.k-end)) c.loop-k-test.false
