-- `shape::binary` meets its contract. Assumes nothing.
use Rattle.std.proofs.Common.{ap, ◌∙◌}
use Rattle.operand.specs.Operand.{is_scalar}
use Rattle.shape.proofs.OnScalars.{scalars_stand}
use Rattle.shape.proofs.binary.Goals as goal

pub returns-then-is_scalar : goal.returns-then-is_scalar
returns-then-is_scalar c =
    scalars_stand _ _ _ _ _ _ _ (c.is_scalar.ensures ∙ ap is_scalar c.shape.ensures) (c.is_scalar-2.ensures ∙ ap is_scalar c.shape-2.ensures)
    c.if-is_scalar.true c.binary_scalars.ensures
