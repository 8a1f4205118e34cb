-- Stage byte 3 is a setting's, any other an expression's.
use borrow.Author.Tests.{eq-eqb, ne_eqb}
use Rattle.sheet.specs.Stage.{kind_of}
use Rattle.sheet.proofs.stage.kind_of.Goals as goal

pub returns-then-stage-eq3 : goal.returns-then-stage-eq3
unfolding kind_of
returns-then-stage-eq3 c = simp (eq-eqb _ _ c.if-stage-eq3.true)

pub returns : goal.returns
unfolding kind_of
returns c = simp (ne_eqb _ _ c.if-stage-eq3.false)
