-- Nothing of a refused change, and else what the crate `text` puts into a buffer of its own.
use mathlib.Core.Path.{◌∙◌}
use mathlib.Core.Bool.{true}
use native.Mathlib.Omega.{arith}
use Rattle.command.proofs.Shown.{added_as, nothing_added, page_text}
use Rattle.command.proofs.Paging.{moved_refused, moved_told}
use Rattle.command.proofs.show.Show.moved.Goals as goal

pub returns-in-Ok : goal.returns-in-Ok
returns-in-Ok c = (
  added_as c.text.ensures (page_text c.moved-n.ensures.put ∙ moved_told true _ _ _ _ c.in-Ok.is),
  omega (arith, c.text.ensures.shows.next, c.moved-n.ensures.prefix_len.1, c.moved-n.ensures.upper_bound),
)

pub returns-in_default : goal.returns-in_default
returns-in_default c = (added_as (nothing_added _) (moved_refused true _ _ _ _ c.in_default.is), omega arith)
