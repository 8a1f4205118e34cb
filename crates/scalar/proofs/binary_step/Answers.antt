-- `scalar::binary_step` meets its contract. Assumes nothing.
use borrow.Author.Rules.{rules}
use Rattle.scalar.specs.Step.{step_of}
use Rattle.scalar.proofs.Steps.{by_pair}
use Rattle.scalar.proofs.binary_step.Goals as goal

pub returns-then-op-ge17 : goal.returns-then-op-ge17
unfolding step_of
returns-then-op-ge17 c = search rules

pub returns : goal.returns
returns c =
    let a = c.args in
    by_pair a.op a.stage a.ty a.l a.r c.stage_of-at.ensures c.if-op-ge17.false
    c.pair_of.ensures c.binary_op.ensures c.step_of-2.ensures
