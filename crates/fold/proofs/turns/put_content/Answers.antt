-- The bytes put are those of the content.
use Rattle.fold.proofs.Steps.{put_content}
use Rattle.fold.proofs.turns.put_content.Goals as goal

pub returns : goal.returns
returns c =
    put_content _ _ _ _ _ _ _ c.content.ensures c.answered-o.ensures c.put.ensures
