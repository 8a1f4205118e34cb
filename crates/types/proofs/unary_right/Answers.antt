-- `types::unary_right` meets its contract. Assumes nothing.
use Rattle.types.proofs.Rows.{truth_code, signed_codes}
use Rattle.types.proofs.unary_right.Goals as goal

pub returns : goal.returns
returns c = let ty = c.args.ty in rw (c.is_float.ensures, c.is_integer.ensures, truth_code ty, signed_codes ty)
