-- 01, The sheet, the other way round: entries as bytes, which entries can be written, and what reading makes of them.
use Rattle.std.specs.Prelude.{ℕ, ◌+◌, ◌-◌, ◌≤◌, ◌<◌, max, ◌≡◌, true, List, [], ◌∷◌, ◌++◌, map, length, get_or, take, replicate}
use Rattle.types.specs.Types.{concrete_of}
use Rattle.value.specs.Pattern.{proper_of, kept_of}
use Rattle.operand.specs.declared.Instance.{Instance}
use Rattle.operand.specs.Operand.{shape_ok, shape_of, in_shape, component_count, component_at}
use Rattle.low.specs.Bytes.{lows, eights}
use Rattle.sheet.specs.Tree.{Expr, literal, reference, unary, binary, Entry, setting, expression, entry_stage}

-- ---- entries as bytes
-- "01, type, columns, rows, components": columns times rows of them, each 8 bytes, low byte first
unfoldable pub write_literal : Instance → List ℕ
write_literal v = 1 ∷ v.ty ∷ v.cols ∷ v.rows ∷ eights (component_count (shape_of v)) v.comps

-- "one expression in prefix order"; "02, number of an earlier entry", "03, operator, node", "04, operator, left, right". A tree's places are not written
unfoldable pub write_node : Expr → List ℕ
write_node (literal v) = write_literal v
write_node (reference k) = 2 ∷ k ∷ []
write_node (unary place op t) = 3 ∷ op ∷ write_node t
write_node (binary place op l r) = 4 ∷ op ∷ write_node l ++ write_node r

unfoldable pub write_body : Entry → List ℕ
write_body (setting v) = write_literal v
write_body (expression stage t) = write_node t

-- "stage byte (0, 1, 2, or 3 for a setting)"
unfoldable pub stage_byte : Entry → ℕ
stage_byte (setting v) = 3
stage_byte (expression stage t) = stage

-- "Record: mark D5 17, stage byte, body length as two bytes low first, body"
unfoldable pub write_record : Entry → List ℕ
write_record e = 0xD5 ∷ 0x17 ∷ stage_byte e ∷ lows 2 (length (write_body e)) ++ write_body e

-- one record after another; "empty is good"
unfoldable pub write_sheet : List Entry → List ℕ
write_sheet [] = []
write_sheet (e ∷ es) = write_record e ++ write_sheet es

-- ---- which entries can be written
-- a known type and shape, and patterns of the type, any NaN's too, as the components in use, columns times rows of the 16
pub record WritableValue (v : Instance) : Type 0 where
  pub shape : shape_ok v.ty v.cols v.rows ≡ true
  pub proper : (i : ℕ) → i < component_count (shape_of v) → proper_of v.ty (component_at v.comps i) ≡ true
  pub sixteen : length v.comps ≡ 16

-- "a scalar of type 0, 3, 4, 5 or 6"
pub record WritableSetting (v : Instance) : Type 0 where
  pub value : WritableValue v
  pub concrete : concrete_of v.ty ≡ true
  pub column : v.cols ≡ 1
  pub row : v.rows ≡ 1

-- "(a lone node is 1)"
unfoldable pub depth : Expr → ℕ
depth (literal v) = 1
depth (reference k) = 1
depth (unary place op t) = 1 + depth t
depth (binary place op l r) = 1 + max (depth l) (depth r)

-- where the entries before it count as these stages and its own is own: a reference is to "an earlier entry, whose stage is not above this one's";
-- operators 1 to 3 stand before one node, 1 to 18 before two
unfoldable pub WritableNode : List ℕ → ℕ → Expr → Type 0
WritableNode stages own (literal v) = WritableValue v
WritableNode stages own (reference k) = (k < length stages) × (get_or stages k 0 ≤ own)
WritableNode stages own (unary place op t) = (1 ≤ op) × (op ≤ 3) × WritableNode stages own t
WritableNode stages own (binary place op l r) = (1 ≤ op) × (op ≤ 18) × WritableNode stages own l × WritableNode stages own r

-- a setting, or an expression of stage 0, 1 or 2, "at most 32 deep"
unfoldable pub WritableEntry : List ℕ → Entry → Type 0
WritableEntry stages (setting v) = WritableSetting v
WritableEntry stages (expression stage t) = (stage ≤ 2) × (depth t ≤ 32) × WritableNode stages stage t

-- each entry, where those before the first count as these stages; "(a setting counts as 1)"
unfoldable pub WritableEntries : List ℕ → List Entry → Type 0
WritableEntries stages [] = Unit
WritableEntries stages (e ∷ es) = WritableEntry stages e × WritableEntries (stages ++ entry_stage e ∷ []) es

-- "At most 16,384 bytes and 128 entries"; so a body's length is below 65,536 and two bytes hold it
pub record Writable (es : List Entry) : Type 0 where
  pub few : length es ≤ 128
  pub short : length (write_sheet es) ≤ 16384
  pub each : WritableEntries [] es

-- ---- what is read back
-- "A NaN read .. is kept", and unused components are 0
unfoldable pub settled_value : Instance → Instance
settled_value v =
    in_shape v.ty (shape_of v) (map (kept_of v.ty) (take (component_count (shape_of v)) v.comps) ++ replicate (16 - component_count (shape_of v)) 0)

-- a node that stands at a place of its body; operator nodes have theirs
unfoldable pub settled_node : ℕ → Expr → Expr
settled_node at (literal v) = literal (settled_value v)
settled_node at (reference k) = reference k
settled_node at (unary place op t) = unary at op (settled_node (at + 2) t)
settled_node at (binary place op l r) = binary at op (settled_node (at + 2) l) (settled_node (at + 2 + length (write_node l)) r)

unfoldable pub settled_entry : Entry → Entry
settled_entry (setting v) = setting (settled_value v)
settled_entry (expression stage t) = expression stage (settled_node 0 t)

abbrev pub settled : List Entry → List Entry
settled es = map settled_entry es

-- ---- a sheet that was written
-- numbers that are bytes
abbrev pub Bytes : List ℕ → Type 0
Bytes b = (i : ℕ) → i < length b → get_or b i 0 < 256

-- s is the bytes of entries that can be written, es is those entries, settled, and n their end
pub record Written (s : List ℕ) (es : List Entry) (n : ℕ) : Type 0 where
  pub raw : List Entry
  pub writable : Writable raw
  pub bytes : write_sheet raw ≡ s
  pub same : settled raw ≡ es
  pub ends : n ≡ length s

-- where the 8 bytes of a setting's content start: past the records before it, the 5 bytes before its body, and tag, type, columns and rows
unfoldable pub content_place : List Entry → ℕ
content_place before = length (write_sheet before) + 9
