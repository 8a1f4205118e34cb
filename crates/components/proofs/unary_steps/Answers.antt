-- `components::unary_steps` meets its contract. Assumes nothing.
use Rattle.std.proofs.Common.{◌≤◌, ap, sym, ◌∙◌, arith}
use Rattle.std.proofs.lemmas.Result.{MatchResult-at_err}
use Rattle.components.specs.Components.{step_result}
use Rattle.components.proofs.Turns.{turn_first, turn_next, turn_stop, turn_last, step_at}
use Rattle.components.proofs.unary_steps.Goals as goal

pub loop-i-init : goal.loop-i-init
loop-i-init c = turn_first _ _

pub returns-in_default : goal.returns-in_default
returns-in_default c =
    let e = MatchResult-at_err _ _ _ c.in_default.is c.map.ensures.cases in
    rw e (turn_stop _ _ _ _ c.loop-i.invariant c.loop-i-test.true _ (ap step_result (sym c.in_default.is ∙ c.unary_step-step.ensures)))

pub loop-i-preserved : goal.loop-i-preserved
loop-i-preserved c =
    turn_next _ _ _ _ c.loop-i.invariant c.loop-i-test.true c.requires _ (ap step_result (sym c.in-Ok.is ∙ c.unary_step-step.ensures))

pub returns : goal.returns
returns c =
    let e : c.args.n ≤ c.loop-i.i = omega arith in
    turn_last _ _ _ _ c.loop-i.invariant e
