-- `text::lines::entries` meets its contract.
use Rattle.text.specs.Text.{entries}
use borrow.Author.Rules.{rules}
use Rattle.text.proofs.lines.entries.Goals as goal

pub returns : goal.returns
unfolding entries
returns c = search rules
