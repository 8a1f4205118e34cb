-- `components::converted` meets its contract. Assumes nothing.
use Rattle.std.proofs.Common.{◌≤◌, ap, sym, ◌∙◌, arith}
use Rattle.components.specs.Components.{conv_result}
use Rattle.components.proofs.Turns.{turn_first, turn_next, turn_stop, turn_last}
use Rattle.components.proofs.converted.Goals as goal

pub loop-i-init : goal.loop-i-init
loop-i-init c = turn_first _ _

pub returns-in_default : goal.returns-in_default
returns-in_default c =
    rw c.refusal.ensures
    (turn_stop _ _ _ _ c.loop-i.invariant c.loop-i-test.true _ (ap conv_result (sym c.in_default.is ∙ c.convert_step.ensures)))

pub loop-i-preserved : goal.loop-i-preserved
loop-i-preserved c =
    turn_next _ _ _ _ c.loop-i.invariant c.loop-i-test.true c.requires _ (ap conv_result (sym c.in-Some.is ∙ c.convert_step.ensures))

pub returns : goal.returns
returns c =
    let e : c.args.n ≤ c.loop-i.i = omega arith in
    turn_last _ _ _ _ c.loop-i.invariant e
