-- What is written is bytes: each number below 256.
use mathlib.Core.List.{List, [], ◌∷◌, ◌++◌}
use Prim.Native.Nat.{ℕ, zero, suc, ◌+◌, ◌*◌, ◌/◌, ◌<◌, ◌≤◌}
use native.Mathlib.Omega.{arith}
use lib.ListN.{length, get_or, drop, length-append}
use borrow.Author.Tests.{ltb-true}
use Rattle.operand.specs.declared.Instance.{Instance}
use Rattle.operand.specs.Operand.{shape_of}
use Rattle.operand.proofs.Shapes.{shaped, shape_small}
use Rattle.low.specs.Bytes.{lows, eights}
use Rattle.sheet.specs.Tree.{Expr, literal, reference, unary, binary, Entry, setting, expression, entry_stage}
use Rattle.writer.specs.Write.{write_literal, write_node, write_body, stage_byte, write_record, write_sheet, WritableValue, WritableNode, WritableEntry, WritableEntries, Writable, Bytes}

abbrev Byte : ℕ → Type 0
Byte x = x < 256

-- P holds of each
unfoldable Each : (ℕ → Type 0) → List ℕ → Type 0
Each P [] = Unit
Each P (x ∷ xs) = P x × Each P xs

each_append : (xs ys : List ℕ) → Each Byte xs → Each Byte ys → Each Byte (xs ++ ys)
unfolding Each
each_append [] ys f g = g
each_append (x ∷ xs) ys f g = (f.0, each_append xs ys f.1 g)

each_lows : (n x : ℕ) → Each Byte (lows n x)
unfolding Each lows
each_lows zero x = tt
each_lows (suc n) x = (omega arith, each_lows n (x / 256))

each_eights : (n : ℕ) (xs : List ℕ) → Each Byte (eights n xs)
unfolding Each eights
each_eights zero xs = tt
each_eights (suc n) xs = each_append (lows 8 (get_or xs 0 0)) (eights n (drop 1 xs)) (each_lows 8 (get_or xs 0 0)) (each_eights n (drop 1 xs))

literal_bytes : (v : Instance) → WritableValue v → Each Byte (write_literal v)
unfolding Each write_literal
literal_bytes v g =
    let s = shape_small v.ty v.cols v.rows g.shape in
    let ty = ltb-true v.ty 7 (shaped v.ty (shape_of v) g.shape).known in
    (omega arith, (omega arith, (omega (arith, s.1), (omega (arith, s.3), each_eights (v.cols * v.rows) v.comps))))

node_bytes : (stages : List ℕ) (own : ℕ) (t : Expr) → length stages ≤ 128 → WritableNode stages own t → Each Byte (write_node t)
unfolding Each WritableNode write_node
node_bytes stages own (literal v) l g = literal_bytes v g
node_bytes stages own (reference k) l g = (omega arith, (omega (arith, g.0), tt))
node_bytes stages own (unary place op t) l g = (omega arith, (omega (arith, g.1), node_bytes stages own t l g.2))
node_bytes stages own (binary place op x y) l g =
    (omega arith, (omega (arith, g.1), each_append (write_node x) (write_node y) (node_bytes stages own x l g.2) (node_bytes stages own y l g.3)))

body_bytes : (stages : List ℕ) (e : Entry) → length stages ≤ 128 → WritableEntry stages e → (stage_byte e < 256) × Each Byte (write_body e)
unfolding WritableEntry stage_byte write_body
body_bytes stages (setting v) l g = (omega arith, literal_bytes v g.value)
body_bytes stages (expression stage t) l g = (omega (arith, g.0), node_bytes stages stage t l g.2)

records_bytes : (stages : List ℕ) (es : List Entry) → length stages + length es ≤ 128 → WritableEntries stages es → Each Byte (write_sheet es)
unfolding Each WritableEntries write_sheet write_record
records_bytes stages [] l g = tt
records_bytes stages (e ∷ es) l g =
    let b = body_bytes stages e (omega arith) g.0 in
    each_append (write_record e) (write_sheet es)
    (omega arith, (omega arith, (b.0, each_append (lows 2 (length (write_body e))) (write_body e) (each_lows 2 (length (write_body e))) b.1)))
    (records_bytes (stages ++ entry_stage e ∷ []) es (omega (arith, length-append stages (entry_stage e ∷ []))) g.1)

each_at : (l : List ℕ) → Each Byte l → Bytes l
unfolding Each
each_at [] g i h = absurd (omega arith)
each_at (x ∷ l) g zero h = g.0
each_at (x ∷ l) g (suc i) h = each_at l g.1 i (omega arith)

-- so what was written can be lent to the reader
pub written_bytes : (es : List Entry) → Writable es → Bytes (write_sheet es)
written_bytes es g = each_at (write_sheet es) (records_bytes [] es (omega (arith, g.few)) g.each)
