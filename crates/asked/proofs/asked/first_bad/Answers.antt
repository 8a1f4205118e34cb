-- After i turns the first bad word is that of the changes that are left.
use native.Mathlib.Omega.{arith}
use mathlib.Core.Path.{ap, ◌∙◌}
use Rattle.asked.specs.Asked.{first_bad}
use Rattle.asked.proofs.Asking.{left_all, bad_here, bad_later, bad_none}
use Rattle.asked.proofs.asked.first_bad.Goals as goal

pub loop-i-init : goal.loop-i-init
loop-i-init c = ap first_bad (left_all c.args.line.now c.args.from c.args.n)

pub returns-in-Err : goal.returns-in-Err
returns-in-Err c =
    let s = c.args in
    bad_here s.line.now s.from s.n c.loop-i.i _ _ (omega arith) c.change_at.ensures c.in-Err.is ∙ c.loop-i.invariant

pub loop-i-preserved : goal.loop-i-preserved
loop-i-preserved c =
    let s = c.args in
    bad_later s.line.now s.from s.n c.loop-i.i _ _ (omega arith) c.change_at.ensures c.in_default.is ∙ c.loop-i.invariant

pub returns : goal.returns
returns c =
    let s = c.args in
    bad_none s.line.now s.from s.n c.loop-i.i (omega arith) ∙ c.loop-i.invariant
