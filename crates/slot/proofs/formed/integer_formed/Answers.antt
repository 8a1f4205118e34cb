-- A scalar of an integer type, with proper bits.
use Rattle.slot.proofs.Tests.{integer_formed_lem}
use borrow.Author.Rules.{rules}
use Rattle.slot.proofs.formed.integer_formed.Goals as goal

pub returns : goal.returns
returns c = integer_formed_lem _ _ _ c.is_integer.ensures c.value_formed.ensures
