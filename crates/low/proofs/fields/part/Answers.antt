-- What is left from the place on, or from the end where the place is past it, and of that the first n bytes.
use native.Mathlib.Omega.{arith}
use mathlib.Core.Path.{refl}
use Rattle.low.proofs.Parts.{part_min}
use Rattle.low.proofs.fields.part.Goals as goal

pub returns : goal.returns
returns c = record { bytes = part_min _ _ _ _ _ c.min.ensures c.min-2.ensures; block = refl; place = omega arith }
