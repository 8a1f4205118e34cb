-- Finite is what the library's own test tells. Assumes nothing.
use mathlib.Core.Path.{◌∙◌}
use Rattle.rounding.proofs.Finite.{finite_is}
use Rattle.value.proofs.is_finite.Goals as goal

pub returns-in-AbstractFloat : goal.returns-in-AbstractFloat
returns-in-AbstractFloat c = rw c.in-AbstractFloat.is (c.is_finite.ensures.value ∙ finite_is _)

pub returns-in-F32 : goal.returns-in-F32
returns-in-F32 c = rw c.in-F32.is (c.is_finite-in-F32.ensures.value ∙ finite_is _)
