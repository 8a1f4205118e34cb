-- `components::steps` meets its contract. Assumes nothing.
use Rattle.std.proofs.Common.{◌≤◌, ap, sym, ◌∙◌, arith}
use Rattle.std.proofs.lemmas.Result.{MatchResult-at_err}
use Rattle.components.specs.Components.{step_result}
use Rattle.components.proofs.Turns.{turn_first, turn_next, turn_stop, turn_last, step_at}
use Rattle.components.proofs.steps.Goals as goal

pub loop-i-init : goal.loop-i-init
loop-i-init c = turn_first _ _

pub entry-requires : goal.entry-requires
entry-requires c = omega (arith, c.requires.0 c.loop-i.i c.loop-i-test.true)

pub entry-requires-in-loop-i : goal.entry-requires-in-loop-i
entry-requires-in-loop-i c = omega (arith, c.requires.1 c.loop-i.i c.loop-i-test.true)

pub returns-in_default : goal.returns-in_default
returns-in_default c =
    let e = MatchResult-at_err _ _ _ c.in_default.is c.map.ensures.cases in
    rw e (turn_stop _ _ _ _ c.loop-i.invariant c.loop-i-test.true _ (step_at _ _ _ _ c.entry.ensures c.entry-in-loop-i.ensures (sym c.in_default.is ∙ c.binary_step-step.ensures)))

pub loop-i-preserved : goal.loop-i-preserved
loop-i-preserved c =
    turn_next _ _ _ _ c.loop-i.invariant c.loop-i-test.true c.requires.2 _ (step_at _ _ _ _ c.entry.ensures c.entry-in-loop-i.ensures (sym c.in-Ok.is ∙ c.binary_step-step.ensures))

pub returns : goal.returns
returns c =
    let e : c.args.n ≤ c.loop-i.i = omega arith in
    turn_last _ _ _ _ c.loop-i.invariant e
