-- The dependents are marked and counted, the content is put, and the marked entries after it are worked.
use Rattle.fold.proofs.Steps.{next_placed, applied}
use Rattle.fold.proofs.turns.apply.Goals as goal

pub work_marked-requires : goal.work_marked-requires
work_marked-requires c =
    next_placed _ _ _ _ _ c.requires c.span_at-own.ensures

pub returns : goal.returns
returns c =
    applied _ _ _ _ _ _ _ _ _ _ c.requires.among c.dependents-count.ensures c.put_content.ensures c.work_marked.ensures
