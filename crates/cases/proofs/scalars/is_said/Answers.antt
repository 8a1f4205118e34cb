-- `cases::scalars::is_said` meets its contract. Assumes nothing.
use Rattle.cases.specs.Judged.{result_said}
use borrow.Author.Rules.{rules}
use Rattle.cases.proofs.scalars.is_said.Goals as goal

pub returns : goal.returns
unfolding result_said
returns c = rw (c.answers.ensures, c.packed.ensures, c.value_said.ensures)
