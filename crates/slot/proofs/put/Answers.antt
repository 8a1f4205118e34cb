-- The lent slot holds the outcome's bytes; past the last whole slot nothing is lent.
use mathlib.Core.Path.{refl, sym}
use Rattle.slot.proofs.Slots.{put_out, put_lent, bytes_long}
use borrow.Author.Rules.{rules}
use Rattle.slot.proofs.put.Goals as goal

pub returns-then-results-k : goal.returns-then-results-k
returns-then-results-k c = sym (put_out _ _ _ c.if-results-k.true)

pub returns : goal.returns
returns c =
    rw c.say.ensures (put_lent _ _ _ _ c.if-results-k.false refl (bytes_long c.args.o))
