-- The operands and answers of the direct calls, as bytes.
use Rattle.std.specs.Prelude.{ℕ, ◌+◌, ◌*◌, Bool, ◌&&◌, ◌||◌, List, eqb, length, get_or, replicate, Option, Some, None}
use Rattle.low.specs.Bytes.{whole, part, numbers}
use Rattle.types.specs.Types.{known_of}
use Rattle.value.specs.Answer.{carries}
use Rattle.value.specs.Pattern.{pick}
use Rattle.value.specs.Refusals as No
use Rattle.operand.specs.declared.Instance.{Instance}
use Rattle.operand.specs.declared.Outcome.{Outcome}
use Rattle.operand.specs.Operand.{shape_ok}
use Rattle.dispatch.specs.Meaning.{refuse_unless}
use Rattle.slot.specs.Slot.{bytes_of}
use Rattle.booth.specs.Answer.{packed_answer}

-- no operand: its type is unknown and it has no shape, so that it is malformed
abbrev pub no_operand : Instance
no_operand = record { ty = 255; cols = 0; rows = 0; comps = replicate 16 0 }

-- type, columns, rows, then 8 bytes a component, low byte first, as many as the shape has; unused components are 0
unfoldable pub operand_in : List ℕ → Instance
operand_in b =
    pick (shape_ok (get_or b 0 0) (get_or b 1 0) (get_or b 2 0))
    (pick (eqb (length b) (3 + 8 * (get_or b 1 0 * get_or b 2 0)))
    (record { ty = get_or b 0 0; cols = get_or b 1 0; rows = get_or b 2 0; comps = numbers 16 b 3 })
    no_operand)
    no_operand

-- "BadNode and BadStage for an unknown operator or stage, judged first in that order", and then BadValue for a malformed operand, left first: the
-- refusals of the call and not of the operator, whose own are 1 to 10
abbrev pub call_refused : ℕ → Bool
call_refused status = eqb status No.BadNode || eqb status No.BadStage || eqb status No.BadValue

-- those come first; then ResultsSize if the slot is not 136 bytes; then what the operator answers
unfoldable pub into_slot : List ℕ → Outcome → Outcome
into_slot slot o = pick (call_refused o.status) o (refuse_unless (eqb (length slot) 136) No.ResultsSize o)

-- its status and detail
unfoldable pub direct_answer : List ℕ → Outcome → ℕ
direct_answer slot o = packed_answer (into_slot slot o).status (into_slot slot o).detail

-- the slot is written on success, and with the refusals 9 and 10, which carry an operand (02 §5)
abbrev pub fills : ℕ → Bool
fills status = eqb status 0 || carries status

unfoldable pub direct_bytes : List ℕ → Outcome → List ℕ
direct_bytes slot o = pick (fills (into_slot slot o).status) (bytes_of o) slot

-- ---- for the contracts of private functions
-- a scalar by its type and pattern: 11 bytes, a known type, one column and one row
unfoldable pub scalar_in : List ℕ → Option (ℕ × ℕ)
scalar_in b =
    pick (eqb (length b) 11)
    (pick (known_of (get_or b 0 0) && eqb (get_or b 1 0) 1 && eqb (get_or b 2 0) 1)
    (Some (get_or b 0 0, whole (part b 3 8)))
    None)
    None
