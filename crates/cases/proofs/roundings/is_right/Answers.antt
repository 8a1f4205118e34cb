-- `cases::roundings::is_right` meets its contract. Assumes nothing.
use Rattle.cases.specs.Judged.{rounding_right}
use Rattle.cases.proofs.Records.{number_at_lem}
use borrow.Author.Rules.{rules}
use Rattle.cases.proofs.roundings.is_right.Goals as goal

pub returns : goal.returns
unfolding rounding_right
returns c =
    rw (
      c.answer-found.ensures,
      number_at_lem _ _ _ _ c.part.ensures.bytes c.number.ensures,
      number_at_lem _ _ _ _ c.part-2.ensures.bytes c.number-2.ensures,
      c.byte-what.ensures,
    )
