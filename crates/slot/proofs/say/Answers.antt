-- Four stores, the detail's bytes and the components' are the outcome's 136 bytes.
use native.Mathlib.Omega.{arith}
use lib.ListN.{length-set}
use Rattle.slot.proofs.Slots.{bytes_written}
use borrow.Author.Rules.{rules}
use Rattle.slot.proofs.say.Goals as goal

pub put-requires : goal.put-requires
put-requires c = simp length-set (omega arith)

pub put_words-requires : goal.put_words-requires
put_words-requires c = omega (arith, simp length-set at c.put.auto.b)

pub shape_of-b : goal.shape_of-b
shape_of-b c = omega (arith, c.put_words.auto.b, simp length-set at c.put.auto.b)

pub returns : goal.returns
returns c =
    cc (bytes_written c.args.b.now c.args.o c.requires)
