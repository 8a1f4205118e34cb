-- Wrong programs that the contracts exclude: trees at which the definitions ask for another answer than such a program gives. Assumes nothing.
use mathlib.Core.Path.{◌≡◌, refl}
use mathlib.Core.List.{[], ◌∷◌}
use lib.ListN.{replicate}
use Rattle.types.specs.Edition.{plain}
use Rattle.operand.specs.declared.Instance.{Instance}
use Rattle.operand.specs.Outcome.{refused_with, value_of}
use Rattle.slot.specs.Slot.{said_by, slot, well_formed, reference_to, formed, value_formed}
use Rattle.low.specs.Bytes.{whole, part, numbers}
use Rattle.sheet.specs.Tree.{reference, binary, setting, expression}
use Rattle.work.specs.Meaning.{on_one, on_two, meaning, entry_meaning}

-- where both operands refuse, the left one's refusal stands, and a refusal ends a unary node
pub left_refusal_first : (on_two 3 0 (refused_with 7 0) (refused_with 4 0) ≡ refused_with 7 0) × (on_one 2 0 (refused_with 8 0) ≡ refused_with 8 0)
unfolding on_one on_two
left_refusal_first = (refl, refl)

-- a reference to an empty buffer is FromEntry of the entry named, in an expression too
pub nothing_there : entry_meaning plain [] (expression 1 (binary 0 3 (reference 4) (reference 5))) ≡ refused_with 11 4
unfolding on_two meaning entry_meaning reference_to well_formed formed value_formed said_by slot whole part numbers
nothing_there = refl

-- a setting's is its own value, whatever the buffer holds
abbrev five : Instance
five = record { ty = 4; cols = 1; rows = 1; comps = 5 ∷ replicate 15 0 }

pub setting_itself : entry_meaning plain [] (setting five) ≡ value_of five
unfolding entry_meaning
setting_itself = refl
