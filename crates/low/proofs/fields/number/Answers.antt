-- Eight bytes as std reads them.
use native.Mathlib.Omega.{arith}
use Rattle.low.proofs.Lows.{whole_part4, whole_part8}
use Rattle.low.proofs.fields.number.Goals as goal

pub returns : goal.returns
returns c = omega (arith, whole_part8 c.args.s.now 0, whole_part4 c.args.s.now 0, whole_part4 c.args.s.now 4)
