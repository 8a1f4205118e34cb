-- `cases::scalars::scalar_in` meets its contract. Assumes nothing.
use mathlib.Core.Path.{◌∙◌}
use Rattle.cases.proofs.Codes.{scalar_found_lem}
use Rattle.cases.proofs.scalars.scalar_in.Goals as goal

pub returns : goal.returns
returns c =
    c.unwrap_or.ensures
    ∙ scalar_found_lem c.args.operand.now _ _ _ c.scalar_of.result c.byte.ensures c.part.ensures.bytes c.number-bits.ensures c.scalar_of.ensures
