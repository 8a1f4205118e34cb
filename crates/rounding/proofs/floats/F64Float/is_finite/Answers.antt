-- Finite is what the library's own test tells. Assumes nothing.
use mathlib.Core.Path.{◌∙◌}
use Rattle.rounding.proofs.Finite.{finite_is}
use Rattle.rounding.proofs.floats.F64Float.is_finite.Goals as goal

pub returns : goal.returns
returns c = c.is_finite.ensures.value ∙ finite_is c.args.self
