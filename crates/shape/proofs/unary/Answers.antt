-- `shape::unary` meets its contract. Assumes nothing.
use Rattle.std.proofs.Common.{ap, ◌∙◌}
use Rattle.operand.specs.Operand.{is_scalar}
use Rattle.shape.proofs.OnScalars.{scalar_stands}
use Rattle.shape.proofs.unary.Goals as goal

pub returns-then-is_scalar : goal.returns-then-is_scalar
returns-then-is_scalar c =
    scalar_stands _ _ _ _ _ (c.is_scalar.ensures ∙ ap is_scalar c.shape.ensures) c.if-is_scalar.true c.unary_scalar.ensures
