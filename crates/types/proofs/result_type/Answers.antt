-- `types::result_type` meets its contract. Assumes nothing.
use Rattle.types.proofs.Choice.{picked, passed}
use Rattle.types.proofs.result_type.Goals as goal

pub returns-then-op : goal.returns-then-op
returns-then-op c = picked _ _ c.if-op.true

pub returns : goal.returns
returns c = passed _ _ c.if-op.false
