-- The product by 136, where there is one, tells whether the size is right.
use Rattle.fold.proofs.Steps.{sized_found}
use Rattle.fold.proofs.turns.sized.Goals as goal

pub returns : goal.returns
returns c = sized_found _ _ _ c.ranges.size.fits c.checked_mul.ensures c.eq.ensures
