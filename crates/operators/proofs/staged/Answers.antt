-- `operators::staged` meets its contract. Assumes nothing.
use Rattle.operators.proofs.staged.Goals as goal

pub returns : goal.returns
returns c = rw (← c.stage_code.ensures) c.binary.ensures
