-- Records of the lists of fixed answers: where their fields stand, and what they ask and say. Assumes nothing.
use Rattle.std.specs.Prelude.{ℕ, ◌+◌, ◌*◌, List, ◌∷◌, ◌++◌, eqb, ltb, get_or, take, replicate}
use Rattle.low.specs.Bytes.{whole, part, numbers}
use Rattle.value.specs.Pattern.{pick}
use Rattle.operand.specs.declared.Instance.{Instance}
use Rattle.operand.specs.declared.Outcome.{Outcome}
use Rattle.dispatch.specs.Meaning.{unary_meaning, binary_meaning}
use Rattle.booth.specs.Answer.{packed_answer}
use Rattle.booth.specs.Operand.{operand_in}

-- the number in the eight bytes at a place
abbrev pub number_at : List ℕ → ℕ → ℕ
number_at s a = whole (part s a 8)

-- what a record says is answered: a number in one byte and its detail in the four after it, packed as C has them
abbrev pub answer_said : List ℕ → ℕ
answer_said s = packed_answer (get_or s 0 0) (whole (part s 1 4))

-- ---- a record of an operator: kind (1 unary, 2 binary), operator, stage, one or two operands, then status, detail and value
-- an operand: type, columns, rows, how many components follow, and those, of eight bytes each
unfoldable pub components_in : List ℕ → List ℕ
components_in o = part o 4 (8 * get_or o 3 0)

-- the operand itself, with zeros after the components that it was given
unfoldable pub instance_in : List ℕ → Instance
instance_in o = record { ty = get_or o 0 0; cols = get_or o 1 0; rows = get_or o 2 0; comps = numbers 16 (components_in o) 0 }

-- the first n bytes of a string that zeros follow
abbrev pub filled : ℕ → List ℕ → List ℕ
filled n s = take n (s ++ replicate n 0)

-- the operand's bytes as C takes them: type, columns, rows, and as many components as the shape has
unfoldable pub laid_out : List ℕ → List ℕ
laid_out o = get_or o 0 0 ∷ get_or o 1 0 ∷ get_or o 2 0 ∷ filled 128 (components_in o)

abbrev pub area_in : List ℕ → ℕ
area_in o = get_or o 1 0 * get_or o 2 0

unfoldable pub bytes_for_c : List ℕ → List ℕ
bytes_for_c o = take (3 + 8 * area_in o) (laid_out o)

-- the operand that C's functions read from them
unfoldable pub operand_of_c : List ℕ → Instance
operand_of_c o = operand_in (bytes_for_c o)

-- the first operand, and the place after it
abbrev pub first_in : List ℕ → List ℕ
first_in c = part c 3 132

unfoldable pub second_place : List ℕ → ℕ
second_place c = 7 + 8 * get_or c 6 0

-- the second operand
abbrev pub second_in : List ℕ → List ℕ
second_in c = part c (second_place c) 132

-- what must come out, after the last operand
unfoldable pub answer_in : List ℕ → List ℕ
answer_in c = pick (eqb (get_or c 0 0) 1) (part c (second_place c) 137) (part c (second_place c + 4 + 8 * get_or c (second_place c + 3) 0) 137)

-- its status, detail and value, which is written as an operand is
unfoldable pub outcome_in : List ℕ → Outcome
outcome_in a = record { status = get_or a 0 0; detail = whole (part a 1 4); value = instance_in (part a 5 132) }

-- what the operator gives on the operands, as they are read from their bytes
unfoldable pub asked_by : (List ℕ → Instance) → List ℕ → Outcome
asked_by read c =
    pick (eqb (get_or c 0 0) 1)
    (unary_meaning (get_or c 1 0) (get_or c 2 0) (read (first_in c)))
    (binary_meaning (get_or c 1 0) (get_or c 2 0) (read (first_in c)) (read (second_in c)))

-- ---- for the contracts of private functions
-- how many of an operand's bytes C takes, of 131 that are there
abbrev pub used_in : List ℕ → ℕ
used_in o = pick (ltb (area_in o) 16) (3 + 8 * area_in o) 131
