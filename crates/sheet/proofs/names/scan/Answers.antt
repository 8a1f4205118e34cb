-- The invariant: the trees that stand from here to the end name a marked entry exactly if the body does, whichever expression fills it.
use native.Mathlib.Omega.{arith}
use Rattle.sheet.proofs.Passes.{all_start, all_end, all_there, all_whole, all_small, all_hit, all_on, all_later}
use Rattle.sheet.proofs.names.scan.Goals as goal

pub loop-at-init : goal.loop-at-init
loop-at-init c = all_start _ _ _

pub marked_at-requires : goal.marked_at-requires
marked_at-requires c =
    let y = c.requires in
    (all_there _ _ _ _ c.loop-at.invariant c.loop-at-test.true y, all_small _ _ _ _ c.loop-at.invariant c.loop-at-test.true y)

pub returns-then-marked_at : goal.returns-then-marked_at
returns-then-marked_at c =
    all_hit _ _ _ _ c.loop-at.invariant c.loop-at-test.true c.requires _ c.marked_at.ensures c.if-marked_at.true

pub after-at-requires : goal.after-at-requires
after-at-requires c =
    let y = c.requires in
    let test = c.loop-at-test.true in
    (all_there _ _ _ _ c.loop-at.invariant test y, all_whole _ _ _ _ c.loop-at.invariant test y)

pub loop-at-smaller : goal.loop-at-smaller
loop-at-smaller c =
    let test = c.loop-at-test.true in
    omega (arith, all_later _ _ _ _ c.loop-at.invariant test c.requires _ c.marked_at.ensures c.if-marked_at.false _ c.after-at.ensures)

pub loop-at-preserved : goal.loop-at-preserved
loop-at-preserved c =
    all_on _ _ _ _ c.loop-at.invariant c.loop-at-test.true c.requires _ c.marked_at.ensures c.if-marked_at.false _ c.after-at.ensures

pub returns : goal.returns
returns c = all_end _ _ _ _ c.loop-at.invariant c.loop-at-test.false
