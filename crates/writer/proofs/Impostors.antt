-- The example of 59 bytes as it is written; wrong writers, by what the reader makes of their bytes, so that none is its inverse; and bytes that a refusal
-- waits for. Assumes nothing.
use mathlib.Core.Path.{◌≡◌, refl}
use mathlib.Core.List.{List, [], ◌∷◌, ◌++◌}
use Prim.Native.Nat.{ℕ, ◌^◌, ◌<◌}
use native.Mathlib.Omega.{arith}
use lib.ListN.{replicate}
use borrow.Author.Tests.{lt-ltb}
use Rattle.value.specs.Pattern.{kept_of}
use Rattle.types.specs.Edition.{plain}
use Rattle.operand.specs.Operand.{every, a_scalar}
use Rattle.low.specs.Bytes.{lows, whole, part, numbers, eights}
use Rattle.low.specs.Read.{found, refused, must, then_read, read_as, placed_from}
use Rattle.sheet.specs.Tree.{literal, reference, binary, Entry, setting, expression, entry_stage}
use Rattle.sheet.specs.Node.{all_proper, components, read_literal, operands, read_operator, tag_of, on_tag, read_node}
use Rattle.sheet.specs.Stage.{kind_of}
use Rattle.sheet.specs.Record.{read_head, read_setting, read_kind, read_body, read_record}
use Rattle.sheet.specs.Sheet.{sheet_of, read_records, read_from, read_sheet}
use Rattle.sheet.proofs.Example as example
use Rattle.writer.specs.Write.{write_literal, write_node, write_body, stage_byte, write_record, write_sheet, settled_value, settled_node, settled_entry, settled}
use Rattle.writer.specs.Write.{WritableValue, depth, WritableNode, WritableEntry, WritableEntries, Writable}

-- ---- the example: a setting, a shift of 1 by it, and that less 1
abbrev pub entries : List Entry
entries =
    setting (a_scalar 4 5)
    ∷ expression 1 (binary 0 17 (literal (a_scalar 4 1)) (reference 0))
    ∷ expression 1 (binary 0 4 (reference 1) (literal (a_scalar 4 1)))
    ∷ []

pub example_bytes : write_sheet entries ≡ example.bytes
unfolding write_sheet write_record write_body stage_byte write_node write_literal eights lows
example_bytes = refl

pub example_settled : settled entries ≡ entries
unfolding settled_entry settled_node settled_value kept_of
example_settled = refl

small : (k : ℕ) → k < 8 → WritableValue (a_scalar 4 k)
small k h = record { shape = refl; proper = λ i l. let e : i ≡ 0 = omega arith in rw e (lt-ltb k (2 ^ 32) (omega arith)); sixteen = refl }

pub example_writable : Writable entries
unfolding WritableEntries WritableEntry WritableNode depth entry_stage write_sheet write_record write_body stage_byte write_node write_literal eights lows
example_writable =
    record {
      few = omega arith;
      short = omega arith;
      each = (
        record { value = small 5 (omega arith); concrete = refl; column = refl; row = refl },
        (
          (omega arith, omega arith, (omega arith, omega arith, small 1 (omega arith), (omega arith, omega arith))),
          ((omega arith, omega arith, (omega arith, omega arith, (omega arith, omega arith), small 1 (omega arith))), tt),
        ),
      );
    }

-- ---- wrong writers, by the bytes that they give for an entry: the reader refuses them, or reads another entry
-- the length's high byte first
pub length_high_first : read_sheet (0xD5 ∷ 0x17 ∷ 3 ∷ 0 ∷ 12 ∷ write_literal (a_scalar 4 5)) ≡ refused 22 17
unfolding whole part must read_head read_record read_records read_from read_sheet then_read read_as write_literal eights lows
length_high_first = refl

-- a component's high byte first
pub component_high_first : read_sheet (0xD5 ∷ 0x17 ∷ 3 ∷ 12 ∷ 0 ∷ 1 ∷ 4 ∷ 1 ∷ 1 ∷ replicate 7 0 ++ 5 ∷ []) ≡ refused 26 5
unfolding every whole part numbers must then_read read_as placed_from all_proper read_literal kind_of read_head read_setting read_kind read_body read_record read_records read_from read_sheet
component_high_first = refl

-- a setting's stage byte as the stage that it counts as
pub setting_as_override : read_sheet (0xD5 ∷ 0x17 ∷ 1 ∷ 12 ∷ 0 ∷ write_literal (a_scalar 4 5)) ≡ found (sheet_of plain 0 (expression 1 (literal (a_scalar 4 5)) ∷ [])) 17
unfolding every whole part numbers must then_read read_as placed_from all_proper components read_literal tag_of on_tag read_node
    kind_of read_head read_kind read_body read_record read_records read_from read_sheet kept_of write_literal eights lows
setting_as_override = refl

-- the right operand before the left
pub right_before_left : read_sheet (0xD5 ∷ 0x17 ∷ 0 ∷ 26 ∷ 0 ∷ 4 ∷ 4 ∷ write_literal (a_scalar 4 1) ++ write_literal (a_scalar 4 2))
    ≡ found (sheet_of plain 0 (expression 0 (binary 0 4 (literal (a_scalar 4 1)) (literal (a_scalar 4 2))) ∷ [])) 31
unfolding every whole part numbers must then_read read_as placed_from all_proper components read_literal operands read_operator tag_of on_tag read_node
    kind_of read_head read_kind read_body read_record read_records read_from read_sheet kept_of write_literal eights lows
right_before_left = refl

-- ---- a refusal is not decided by its node's head alone: a Bool literal of 2 and one of 1 agree up to there
pub component_decides : read_sheet (0xD5 ∷ 0x17 ∷ 3 ∷ 12 ∷ 0 ∷ 1 ∷ 0 ∷ 1 ∷ 1 ∷ 2 ∷ replicate 7 0) ≡ refused 26 5
unfolding every whole part numbers must then_read read_as placed_from all_proper read_literal kind_of read_head read_setting read_kind read_body read_record read_records read_from read_sheet
component_decides = refl

pub component_taken : read_sheet (0xD5 ∷ 0x17 ∷ 3 ∷ 12 ∷ 0 ∷ 1 ∷ 0 ∷ 1 ∷ 1 ∷ 1 ∷ replicate 7 0) ≡ found (sheet_of plain 0 (setting (a_scalar 0 1) ∷ [])) 17
unfolding every whole part numbers must then_read read_as placed_from all_proper components read_literal kind_of read_head read_setting read_kind read_body read_record read_records read_from read_sheet kept_of
component_taken = refl
