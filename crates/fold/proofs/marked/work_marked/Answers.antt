-- After the turns up to entry k the marked ones before it are worked out.
use native.Mathlib.Omega.{arith}
use mathlib.Core.Path.{refl, ◌∙◌}
use Rattle.fold.proofs.Steps.{working_start, working_none, working_here, working_more, working_end}
use Rattle.fold.proofs.marked.work_marked.Goals as goal

pub loop-k-init : goal.loop-k-init
loop-k-init c = (working_none _ _ _ _ c.requires, refl, working_start _ _ _ _ _ _ c.requires)

pub turn-at-requires : goal.turn-at-requires
turn-at-requires c = working_here _ _ _ _ _ _ _ _ c.loop-k.invariant.2 c.loop-k-test.true

pub loop-k-preserved : goal.loop-k-preserved
loop-k-preserved c =
    (omega arith, c.turn-at.auto.results ∙ c.loop-k.invariant.1, working_more _ _ _ _ _ _ _ _ c.loop-k.invariant.2 c.loop-k-test.true _ _ c.turn-at.ensures)

pub returns : goal.returns
returns c = working_end _ _ _ _ _ _ _ _ c.loop-k.invariant.2 c.loop-k.invariant.0 c.loop-k-test.false
