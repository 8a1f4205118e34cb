-- The kept bits are the one component in use.
use Rattle.fold.proofs.Answers.{content_is}
use Rattle.fold.proofs.turns.content.Goals as goal

pub returns : goal.returns
returns c = content_is _ _ _ _ c.kept.ensures c.scalar.ensures
