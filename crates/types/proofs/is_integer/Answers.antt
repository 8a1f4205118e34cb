-- `types::is_integer` meets its contract. Assumes nothing.
use Rattle.types.proofs.Rows.{signed_codes, unsigned_code}
use Rattle.types.proofs.is_integer.Goals as goal

pub returns : goal.returns
returns c = rw (signed_codes c.args.ty, unsigned_code c.args.ty)
