-- `pairing::targets_of` meets its contract. Assumes nothing.
use Rattle.std.proofs.Common.{◌∙◌}
use Rattle.pairing.proofs.Meets.{shift_targets, shift_none, equal_types, common_none, common_code}
use Rattle.pairing.proofs.targets_of.Goals as goal

pub returns-then-known-y : goal.returns-then-known-y
returns-then-known-y c =
    shift_targets _ _ _ c.if-op-ge17.true _ _ c.known.ensures c.goes_to.ensures c.if-known-y.true

pub returns-then-op-ge17 : goal.returns-then-op-ge17
returns-then-op-ge17 c =
    shift_none _ _ _ c.if-op-ge17.true _ _ c.known.ensures c.goes_to.ensures c.if-known-y.false

pub returns-then-known-x : goal.returns-then-known-x
returns-then-known-x c = equal_types _ _ _ c.if-op-ge17.false _ c.known-2.ensures c.if-known-x.true

pub returns-in_err-t : goal.returns-in_err-t
returns-in_err-t c = c.from_residual.ensures ∙ common_none _ _ _ c.if-op-ge17.false _ c.common.ensures c.in_err-t.was

pub returns : goal.returns
returns c = common_code _ _ _ c.if-op-ge17.false _ c.common.ensures _ c.in_ok-t.was
