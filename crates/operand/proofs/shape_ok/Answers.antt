-- `operand::shape_ok` meets its contract. Assumes nothing.
use Rattle.operand.proofs.shape_ok.Goals as goal

pub returns : goal.returns
returns c = cc
