-- Finite by the bits without the sign. Assumes nothing.
use Rattle.rounding.specs.Kind.{half}
use Rattle.rounding.proofs.Finite.{finite_read}
use Rattle.rounding.proofs.patterns.finite_half.Goals as goal

pub returns : goal.returns
returns c = finite_read half c.args.b
