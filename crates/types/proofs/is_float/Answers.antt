-- `types::is_float` meets its contract. Assumes nothing.
use Rattle.types.proofs.Rows.{float_codes}
use Rattle.types.proofs.is_float.Goals as goal

pub returns : goal.returns
returns c = float_codes c.args.ty
