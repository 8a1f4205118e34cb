-- The bits of an F32, made of those of an F16 with a leading digit. Assumes nothing.
use Rattle.std.proofs.Common.{arith}
use lib.Ieee.{binary32}
use Rattle.rounding.proofs.Nan.{read_plain}
use Rattle.rounding.proofs.Wider.{same_half}
use Rattle.rounding.proofs.widen.normal.Goals as goal

pub float_from_bits-result : goal.float_from_bits-result
float_from_bits-result c = read_plain binary32 _ (omega arith)

pub returns : goal.returns
returns c = same_half c.args.h _ c.requires.0 c.requires.1 (omega arith) (omega arith)
