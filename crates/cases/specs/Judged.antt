-- Which records of the lists of fixed answers are answered as they say. Assumes nothing.
use Rattle.std.specs.Prelude.{ℕ, ◌%◌, Bool, true, false, ◌&&◌, List, [], ◌∷◌, eqb, leb, get_or, replicate}
use Rattle.std.specs.Bool.{beq}
use Rattle.std.specs.Int.{w64}
use Rattle.std.proofs.Common.{to_z}
use Rattle.low.specs.Bytes.{part}
use Rattle.types.specs.Edition.{plain}
use Rattle.value.specs.Answer.{Result, stage_of}
use Rattle.value.specs.Pattern.{pick}
use Rattle.rounding.specs.Kind.{half, single, double, convert, of_integer}
use Rattle.rounding.specs.Bits.{to_bits, of_bits, finite}
use Rattle.slot.specs.Slot.{slot, bytes_of, well_formed}
use Rattle.booth.specs.Operand.{direct_answer, direct_bytes}
use Rattle.cases.specs.Scalars.{unary_by, binary_by, scalar_read, packed_result, value_said}
use Rattle.cases.specs.Record.{number_at, answer_said, instance_in, operand_of_c, answer_in, outcome_in, asked_by}

-- a packed answer is what a record says
abbrev pub answered_so : ℕ → List ℕ → Bool
answered_so answer said = eqb answer (answer_said said)

-- slots: 136 bytes, and 1 where they are well formed
unfoldable pub slot_right : List ℕ → Bool
slot_right c = beq (well_formed plain (slot c 0)) (eqb (get_or c 136 0) 1)

-- what the codes 1 to 12 ask of eight bytes: a number in another format, the bits under which one is kept, or whether it is finite
abbrev pub conversions : ℕ → List ℕ
conversions x =
    to_bits half (convert half (of_bits double x))
    ∷ to_bits single (convert single (of_bits double x))
    ∷ to_bits half (convert half (of_bits single (x % 4294967296)))
    ∷ to_bits single (of_bits half (x % 65536))
    ∷ to_bits half (of_integer half (to_z w64 x))
    ∷ to_bits single (of_integer single (to_z w64 x))
    ∷ to_bits double (of_integer double (to_z w64 x))
    ∷ to_bits single (of_bits single (x % 4294967296))
    ∷ to_bits double (of_bits double x)
    ∷ pick (finite (of_bits single (x % 4294967296))) 1 0
    ∷ pick (finite (of_bits double x)) 1 0
    ∷ pick (finite (of_bits half (x % 65536))) 1 0
    ∷ []

-- the answer to a code
unfoldable pub conversion_of : ℕ → ℕ → ℕ
conversion_of what x = get_or (0 ∷ conversions x) what 0

-- conversions: what is asked, seven zeros, eight bytes in and the eight that must come out
unfoldable pub rounding_right : List ℕ → Bool
rounding_right c = leb 1 (get_or c 0 0) && leb (get_or c 0 0) 12 && eqb (conversion_of (get_or c 0 0) (number_at c 8)) (number_at c 16)

-- two strings are the same, byte for byte
unfoldable pub same : List ℕ → List ℕ → Bool
same [] [] = true
same [] (y ∷ ys) = false
same (x ∷ xs) [] = false
same (x ∷ xs) (y ∷ ys) = eqb x y && same xs ys

-- shapes: the outcome's slot is that of the outcome that the record says
unfoldable pub shape_right : List ℕ → Bool
shape_right c = same (bytes_of (asked_by instance_in c)) (bytes_of (outcome_in (answer_in c)))

-- a result is the one that the rest of a record says: status, detail and value
unfoldable pub result_said : Result → List ℕ → Bool
result_said x rest = answered_so (packed_result x) rest && value_said x rest

-- scalars: kind (1 unary, 2 binary), operator, stage, one or two scalars of twelve bytes, and what must come out
unfoldable pub scalar_right : List ℕ → Bool
scalar_right c =
    pick (eqb (get_or c 0 0) 1)
    (result_said (unary_by (get_or c 1 0) (scalar_read (part c 3 12))) (part c 15 17))
    (result_said (binary_by (get_or c 1 0) (stage_of (get_or c 2 0)) (scalar_read (part c 3 12)) (scalar_read (part c 15 12))) (part c 27 17))

-- the bytes that a slot has before it is lent
abbrev pub untouched : List ℕ
untouched = replicate 136 170

-- operators on bytes: C's answer is what the record says, and so is every byte of the slot; where a refusal does not fill it, as it was
unfoldable pub operator_right : List ℕ → Bool
operator_right c =
    answered_so (direct_answer untouched (asked_by operand_of_c c)) (answer_in c)
    && same (direct_bytes untouched (asked_by operand_of_c c)) (direct_bytes untouched (outcome_in (answer_in c)))
