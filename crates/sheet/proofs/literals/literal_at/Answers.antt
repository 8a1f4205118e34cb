-- The value of a literal that was accepted.
use native.Mathlib.Omega.{arith}
use Rattle.sheet.proofs.Inverse.{loads_head, loads_fits, is_loaded}
use Rattle.sheet.proofs.literals.literal_at.Goals as goal

pub literal_head-h-requires : goal.literal_head-h-requires
literal_head-h-requires c = loads_head _ _ _ _ _ c.requires.read

pub overflow_add-at : goal.overflow_add-at
overflow_add-at c = omega (arith, loads_head _ _ _ _ _ c.requires.read)

pub load-comps-requires : goal.load-comps-requires
load-comps-requires c = loads_fits _ _ _ _ _ c.requires.read _ c.literal_head-h.ensures _ c.area-n.ensures.0

pub overflow_add-result : goal.overflow_add-result
overflow_add-result c = omega (arith, loads_fits _ _ _ _ _ c.requires.read _ c.literal_head-h.ensures _ c.area-n.ensures.0)

pub overflow_add-result-2 : goal.overflow_add-result-2
overflow_add-result-2 c = omega (arith, loads_fits _ _ _ _ _ c.requires.read _ c.literal_head-h.ensures _ c.area-n.ensures.0)

pub returns : goal.returns
returns c =
    is_loaded _ _ _ _ _ c.requires.read _ c.literal_head-h.ensures _ c.area-n.ensures.0 _ c.load-comps.ensures
