-- `cases::scalars::value_said` meets its contract. Assumes nothing.
use Rattle.cases.proofs.Records.{number_at_lem}
use borrow.Author.Rules.{rules}
use Rattle.cases.proofs.scalars.value_said.Goals as goal

pub returns : goal.returns
returns c =
    rw (
      c.type_of-ty.ensures,
      c.bits_of-bits.ensures,
      c.scalar_in-s.ensures,
      c.byte.ensures,
      number_at_lem _ _ _ _ c.part.ensures.bytes c.number.ensures,
    )
