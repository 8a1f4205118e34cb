-- The place after as many records as there are entries before.
use Rattle.fold.proofs.Steps.{found_not, found_at}
use Rattle.fold.proofs.turns.find.Goals as goal

pub returns-then-n-i : goal.returns-then-n-i
returns-then-n-i c = found_not _ _ _ c.if-n-i.true

pub returns : goal.returns
returns c = found_at _ _ _ _ _ c.if-n-i.false c.begin.ensures c.place_after.ensures
