-- A marked entry's slot becomes what the body of its record means.
use Rattle.entries.proofs.Turning.{here_few, here_bodied}
use Rattle.fold.proofs.Steps.{works_not, works_is}
use Rattle.fold.proofs.marked.turn.Goals as goal

pub bounds-marks-k : goal.bounds-marks-k
bounds-marks-k c = here_few _ _ _ c.requires

pub returns-then-not-marks-k : goal.returns-then-not-marks-k
returns-then-not-marks-k c = works_not _ _ _ c.span_at-r.ensures _ _ _ c.if-not-marks-k.true

pub entry-o-requires : goal.entry-o-requires
entry-o-requires c =
    here_bodied _ _ _ c.span_at-r.ensures _ c.body-b.ensures.bytes _ c.requires

pub returns : goal.returns
returns c =
    works_is _ _ _ c.span_at-r.ensures _ _ _ c.if-not-marks-k.false _ c.body-b.ensures.bytes _ c.entry-o.ensures _ c.put.ensures
