-- The example of 59 bytes, read by the definition: a setting, a shift of 1 by it, and that less 1.
use mathlib.Core.Path.{◌≡◌, refl}
use mathlib.Core.List.{List, [], ◌∷◌}
use Prim.Native.Nat.{ℕ}
use lib.ListN.{replicate}
use Rattle.value.specs.Pattern.{kept_of}
use Rattle.operand.specs.declared.Instance.{Instance}
use Rattle.low.specs.Bytes.{whole, part, numbers}
use Rattle.low.specs.Read.{found, must, then_read, read_as, placed_from}
use Rattle.types.specs.Edition.{plain}
use Rattle.operand.specs.Operand.{every}
use Rattle.sheet.specs.Tree.{literal, reference, binary, setting, expression, entry_stage}
use Rattle.sheet.specs.Stage.{kind_of}
use Rattle.sheet.specs.Node.{all_proper, components, read_literal, read_reference, operands, read_operator, tag_of, on_tag, read_node}
use Rattle.sheet.specs.Record.{read_head, read_setting, read_kind, read_body, read_record}
use Rattle.sheet.specs.Sheet.{sheet_of, read_records, read_from, read_sheet}

abbrev pub bytes : List ℕ
bytes =
    213 ∷ 23 ∷ 3 ∷ 12 ∷ 0 ∷ 1 ∷ 4 ∷ 1 ∷ 1 ∷ 5 ∷ 0 ∷ 0 ∷ 0 ∷ 0 ∷ 0 ∷ 0 ∷ 0 ∷
    213 ∷ 23 ∷ 1 ∷ 16 ∷ 0 ∷ 4 ∷ 17 ∷ 1 ∷ 4 ∷ 1 ∷ 1 ∷ 1 ∷ 0 ∷ 0 ∷ 0 ∷ 0 ∷ 0 ∷ 0 ∷ 0 ∷ 2 ∷ 0 ∷
    213 ∷ 23 ∷ 1 ∷ 16 ∷ 0 ∷ 4 ∷ 4 ∷ 2 ∷ 1 ∷ 1 ∷ 4 ∷ 1 ∷ 1 ∷ 1 ∷ 0 ∷ 0 ∷ 0 ∷ 0 ∷ 0 ∷ 0 ∷ 0 ∷ []

-- a U32 scalar as it is kept
abbrev pub u32 : ℕ → Instance
u32 k = record { ty = 4; cols = 1; rows = 1; comps = kept_of 4 k ∷ replicate 15 0 }

pub example : read_sheet bytes ≡ found (sheet_of plain 0 (
    setting (u32 5) ∷
    expression 1 (binary 0 17 (literal (u32 1)) (reference 0)) ∷
    expression 1 (binary 0 4 (reference 1) (literal (u32 1))) ∷ [])) 59
unfolding every whole part numbers must then_read read_as placed_from all_proper components read_literal read_reference operands read_operator tag_of on_tag read_node
    kind_of read_head read_setting read_kind read_body read_record read_records read_from read_sheet entry_stage
example = refl
