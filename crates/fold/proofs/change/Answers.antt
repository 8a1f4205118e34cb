-- A change is the change that marks, with marks of its own.
use Rattle.fold.proofs.change.Goals as goal

pub returns : goal.returns
returns c = (c.change_marking.ensures.0, c.change_marking.ensures.1)
