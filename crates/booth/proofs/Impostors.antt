-- Wrong programs that the contracts of the exported functions exclude, each at a witness. Assumes nothing.
use mathlib.Core.Path.{◌≡◌, refl}
use mathlib.Core.List.{List, [], ◌∷◌, map}
use Prim.Native.Nat.{ℕ}
use lib.ListN.{replicate}
use Rattle.low.specs.Bytes.{up_to, lows, eights}
use Rattle.low.specs.Read.{must, then_read, read_as}
use Rattle.operand.specs.declared.Instance.{Instance}
use Rattle.operand.specs.Operand.{a_scalar}
use Rattle.operand.specs.Outcome.{refused_with, refused_on, value_of}
use Rattle.dispatch.specs.Meaning.{unary_meaning, binary_meaning}
use Rattle.slot.specs.Slot.{bytes_of}
use Rattle.sheet.specs.Tree.{names, names_of}
use Rattle.sheet.specs.Record.{read_head, read_record}
use Rattle.sheet.specs.Sheet.{read_records, read_from, read_sheet, counted_of}
use Rattle.sheet.proofs.Example.{bytes, example}
use Rattle.entries.specs.Entries.{entry_at, refs_of, is_setting, setting_type}
use Rattle.entries.specs.Depend.{any, chain}
use Rattle.fold.specs.Fresh.{fresh_answer}
use Rattle.fold.specs.Change.{fault_of, change_answer}
use Rattle.booth.specs.Answer.{packed_answer, packed_fold}
use Rattle.booth.specs.Marks.{other_size, marks_answer, marks_bytes}
use Rattle.booth.specs.Operand.{operand_in, into_slot, direct_answer, direct_bytes}

-- not every sheet is refused, and the place of a sheet that is cut short is not lost
pub check_answers : map (λ (s : List ℕ). packed_fold (counted_of (read_sheet s))) ([] ∷ (213 ∷ []) ∷ []) ≡ 0 ∷ packed_answer 22 1 ∷ []
unfolding must then_read read_as read_head read_record read_records read_from read_sheet
check_answers = refl

-- results of another size than the sheet asks for are not taken
pub fresh_answers : map (λ (l : List ℕ). packed_fold (fresh_answer (read_sheet []) l)) ([] ∷ (7 ∷ []) ∷ []) ≡ 0 ∷ packed_answer 30 0 ∷ []
unfolding must read_as read_records read_from read_sheet fresh_answer
fresh_answers = refl

-- an entry that is not there is not changed
pub change_answer_lem : packed_fold (change_answer (read_sheet []) [] 0 4 5) ≡ packed_answer 31 0
unfolding must read_as read_records read_from read_sheet entry_at is_setting fault_of change_answer
change_answer_lem = refl

-- marks of 127 or 129 bytes are not taken, and with 128 bytes the change is judged
pub marks_sizes : map (λ (n : ℕ). packed_fold (marks_answer (read_sheet []) [] 0 4 5 (replicate n 7))) (127 ∷ 128 ∷ 129 ∷ [])
    ≡ packed_answer 30 0 ∷ packed_answer 31 0 ∷ packed_answer 30 0 ∷ []
unfolding must read_as read_records read_from read_sheet entry_at is_setting fault_of change_answer other_size marks_answer
marks_sizes = refl

-- nor is their size judged before the sheet
pub sheet_before_marks : packed_fold (marks_answer (read_sheet (213 ∷ [])) [] 0 4 5 []) ≡ packed_answer 22 1
unfolding must then_read read_as read_head read_record read_records read_from read_sheet other_size marks_answer
sheet_before_marks = refl

-- of the example the setting and both dependents are marked, and no other entry
pub marks_written : marks_bytes (read_sheet bytes) (replicate 408 0) 0 4 32 (replicate 128 7) ≡ 1 ∷ 1 ∷ 1 ∷ replicate 125 0
unfolding marks_bytes fault_of is_setting setting_type entry_at must refs_of names names_of any chain up_to
marks_written = rw example

-- a refused change marks nothing
pub marks_kept : marks_bytes (read_sheet []) [] 0 4 5 (replicate 128 7) ≡ replicate 128 7
unfolding must read_as read_records read_from read_sheet entry_at is_setting fault_of marks_bytes
marks_kept = refl

-- a slot of 135 or 137 bytes is not taken, whatever the operator answers: a value, or a refusal of its own
pub slot_sizes : (v : Instance) → map (λ (n : ℕ). map (direct_answer (replicate n 7)) (value_of v ∷ refused_on 9 32 v ∷ [])) (135 ∷ 137 ∷ [])
    ≡ (packed_answer 30 0 ∷ packed_answer 30 0 ∷ []) ∷ (packed_answer 30 0 ∷ packed_answer 30 0 ∷ []) ∷ []
unfolding into_slot direct_answer
slot_sizes v = refl

-- nor is its size judged before the operator, the stage and the operands
pub size_last : map (λ (n : ℕ). direct_answer [] (refused_with n 0)) (25 ∷ 23 ∷ 26 ∷ []) ≡ packed_answer 25 0 ∷ packed_answer 23 0 ∷ packed_answer 26 0 ∷ []
unfolding into_slot direct_answer
size_last = refl

-- the slot takes no refusal but those that carry an operand, all of their bytes
pub slot_kept : map (direct_bytes (replicate 136 7)) (refused_with 7 0 ∷ refused_with 25 0 ∷ []) ≡ replicate 136 7 ∷ replicate 136 7 ∷ []
unfolding into_slot direct_bytes
slot_kept = refl

pub slot_filled : map (λ (n : ℕ). direct_bytes (replicate 136 7) (refused_on n 32 (a_scalar 4 1))) (9 ∷ 10 ∷ [])
    ≡ (9 ∷ 4 ∷ 1 ∷ 1 ∷ 32 ∷ 0 ∷ 0 ∷ 0 ∷ 1 ∷ replicate 127 0) ∷ (10 ∷ 4 ∷ 1 ∷ 1 ∷ 32 ∷ 0 ∷ 0 ∷ 0 ∷ 1 ∷ replicate 127 0) ∷ []
unfolding into_slot direct_bytes bytes_of lows eights
slot_filled = refl

-- a vector with one component's bytes and a scalar with one byte more are no operands; the U32 0 is one
pub operand_types : map (λ (b : List ℕ). (operand_in b).ty) (
    (4 ∷ 1 ∷ 2 ∷ replicate 8 0)
    ∷ (4 ∷ 1 ∷ 1 ∷ replicate 9 0)
    ∷ (4 ∷ 1 ∷ 1 ∷ replicate 8 0)
    ∷ [])
    ≡ 255 ∷ 255 ∷ 4 ∷ []
unfolding operand_in
operand_types = refl

-- an operator that is not known is refused before the operands and the slot are looked at
pub unary_unknown : direct_answer [] (unary_meaning 4 0 (operand_in [])) ≡ packed_answer 25 0
unfolding into_slot direct_answer unary_meaning
unary_unknown = refl

pub binary_unknown : direct_answer [] (binary_meaning 19 0 (operand_in []) (operand_in [])) ≡ packed_answer 25 0
unfolding into_slot direct_answer binary_meaning
binary_unknown = refl
