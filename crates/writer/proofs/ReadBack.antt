-- A sheet that was written is read back: what the reader makes of the bytes of entries is those entries, settled.
use mathlib.Core.Path.{◌≡◌, refl, sym, ap, subst, ◌∙◌}
use mathlib.Core.Bool.{Bool, true, false, or-true}
use mathlib.Core.List.{List, [], ◌∷◌, ◌++◌, map, map-append, append_assoc, append-nil}
use Prim.Native.Nat.{ℕ, zero, suc, ◌+◌, ◌*◌, ◌-◌, ◌/◌, ◌%◌, ◌^◌, ◌<◌, ◌≤◌}
use native.Mathlib.Omega.{arith}
use lib.Dec.{leb}
use lib.ListN.{length, get_or, take, replicate, length-append}
use borrow.Author.Tests.{le-leb, eq-eqb, ne_eqb}
use Rattle.types.specs.Types.{width_of}
use Rattle.types.specs.Edition.{plain}
use Rattle.types.proofs.Rows.{by_code}
use Rattle.value.specs.Pattern.{proper_of, kept_of}
use Rattle.value.proofs.Widths.{proper_below}
use Rattle.value.specs.Refusals as No
use Rattle.operand.specs.declared.Instance.{Instance}
use Rattle.operand.specs.Operand.{shape_of, in_shape, component_count, shape_in, every}
use Rattle.low.proofs.Tests.{both_true}
use Rattle.operand.proofs.Shapes.{shape_small, shape_in_lem, count_small}
use Rattle.low.specs.Bytes.{lows, whole, part, numbers, eights}
use Rattle.low.proofs.Lows.{lows_long}
use Rattle.low.proofs.Eights.{eights_long}
use Rattle.std.specs.Prelude.{Result}
use Rattle.low.specs.declared.Refused.{Refused}
use Rattle.sheet.specs.Record.{headed}
use Rattle.sheet.specs.declared.Head.{Head}
use Rattle.low.specs.Read.{Read, found, refused, must, then_read, read_as, placed_from}
use Rattle.sheet.specs.Tree.{Expr, literal, reference, unary, binary, Entry, setting, expression, entry_stage}
use Rattle.sheet.specs.Node.{all_proper, components, literal_head, value_at, literal_ok, read_literal, operator_known, operands, read_operator}
use Rattle.sheet.specs.Node.{Tag, is_literal, is_reference, is_operator, tag_of, on_tag, read_node}
use Rattle.sheet.specs.declared.Kind.{Kind}
use Rattle.sheet.specs.declared.Kind.TheVariants.{Expression}
use Rattle.sheet.specs.Stage.{stage_known, kind_of}
use Rattle.sheet.specs.Record.{body_len, read_head, read_setting, read_kind, read_body, on_head, read_record}
use Rattle.sheet.specs.Sheet.{sheet_of, read_records, read_from, read_sheet}
use Rattle.low.proofs.Reading.{must_is}
use Rattle.sheet.proofs.Nodes.{node_at, reference_good}
use Rattle.sheet.proofs.Records.{head_record}
use Rattle.sheet.proofs.Sheets.{records_end, records_next}
use Rattle.writer.specs.Write.{write_literal, write_node, write_body, stage_byte, write_record, write_sheet}
use Rattle.writer.specs.Write.{WritableValue, WritableSetting, depth, WritableNode, WritableEntry, WritableEntries, Writable, settled_value, settled_node, settled_entry, settled}
use Rattle.writer.proofs.Lying.{Lies, all_lies, lies_end, lies_left, lies_right, lies_at, lies_first, lies_rest, lies_part, word_lies}

-- the same thing, its end said in another way
ends : {A : Type 0} (a : A) (m n : ℕ) → m ≡ n → found a m ≡ found a n
ends a m n e = ap (found a) e

-- ---- components
-- the first n numbers are patterns of the type
abbrev pub Proper : ℕ → ℕ → List ℕ → Type 0
Proper ty n xs = (i : ℕ) → i < n → proper_of ty (get_or xs i 0) ≡ true

-- a pattern has 8 bytes
pub proper_small : (ty x : ℕ) → proper_of ty x ≡ true → x < 256 ^ 8
proper_small ty x p = omega (arith, proper_below ty x p, wide ty)
  where
    wide : (ty : ℕ) → 2 ^ width_of ty ≤ 2 ^ 64
    wide =
        by_code (λ ty. 2 ^ width_of ty ≤ 2 ^ 64) (omega arith) (omega arith) (omega arith) (omega arith) (omega arith) (omega arith) (omega arith) (λ n. omega arith)

-- one of 8 bytes, and those after it
module _ (n x : ℕ) (xs b : List ℕ) (at : ℕ) (s : Lies b at (eights (suc n) (x ∷ xs))) where
  eight_first : x < 256 ^ 8 → whole (part b at 8) ≡ x
  unfolding eights
  eight_first h = word_lies 8 x b at h (lies_left b at (lows 8 x) (eights n xs) s)

  eight_rest : Lies b (at + 8) (eights n xs)
  unfolding eights
  eight_rest = lies_at b (at + length (lows 8 x)) (at + 8) (eights n xs) (ap (λ (k : ℕ). at + k) (lows_long 8 x)) (lies_right b at (lows 8 x) (eights n xs) s)

eights_numbers : (ty n : ℕ) (xs b : List ℕ) (at : ℕ) → n ≤ length xs → Lies b at (eights n xs) → Proper ty n xs → numbers n b at ≡ take n xs
unfolding numbers
eights_numbers ty zero xs b at l s g = refl
eights_numbers ty (suc n) [] b at l s g = absurd (omega arith)
eights_numbers ty (suc n) (x ∷ xs) b at l s g =
    ap (λ (w : ℕ). w ∷ numbers n b (at + 8)) (eight_first n x xs b at s (proper_small ty x (g 0 (omega arith))))
    ∙ ap {B = List ℕ} (λ (l : List ℕ). x ∷ l) (eights_numbers ty n xs b (at + 8) (omega arith) (eight_rest n x xs b at s) (λ i h. g (suc i) (omega arith)))

taken_proper : (ty n : ℕ) (xs : List ℕ) → n ≤ length xs → Proper ty n xs → every (proper_of ty) (take n xs) ≡ true
unfolding every
taken_proper ty zero xs l g = refl
taken_proper ty (suc n) [] l g = absurd (omega arith)
taken_proper ty (suc n) (x ∷ xs) l g = both_true _ _ (g 0 (omega arith)) (taken_proper ty n xs (omega arith) (λ i h. g (suc i) (omega arith)))

eights_proper : (ty n : ℕ) (xs b : List ℕ) (at : ℕ) → n ≤ length xs → Lies b at (eights n xs) → Proper ty n xs → all_proper ty n b at ≡ true
unfolding all_proper
eights_proper ty n xs b at l s g = ap (every (proper_of ty)) (eights_numbers ty n xs b at l s g) ∙ taken_proper ty n xs l g

eights_read : (ty n : ℕ) (xs b : List ℕ) (at : ℕ) → n ≤ length xs → Lies b at (eights n xs) → Proper ty n xs → components ty n b at ≡ map (kept_of ty) (take n xs)
unfolding components
eights_read ty n xs b at l s g = ap (map (kept_of ty)) (eights_numbers ty n xs b at l s g)

-- ---- a literal
-- whose four first bytes are known
module _ (only : Bool) (b : List ℕ) (at ty cols rows : ℕ) (t : get_or b (at + 1) 0 ≡ ty) (c : get_or b (at + 2) 0 ≡ cols) (r : get_or b (at + 3) 0 ≡ rows) where
  head_is : literal_head b at ≡ record { ty = ty; cols = cols; rows = rows }
  head_is = rw (t, c, r)

  literal_is : at + 4 + 8 * (cols * rows) ≤ length b → literal_ok plain only (record { ty = ty; cols = cols; rows = rows }) ≡ true
      → all_proper ty (cols * rows) b (at + 4) ≡ true
      → read_literal plain only b at ≡ found (value_at ty cols rows (cols * rows) b (at + 4)) (at + 4 + 8 * (cols * rows))
  unfolding read_literal
  literal_is l k p =
      must_is _ _ _ _ _ (le-leb (at + 4) (length b) (omega arith))
      (must_is _ _ _ _ _ (ap (literal_ok plain only) head_is ∙ k)
      (rw (t, c, r) (must_is _ _ _ _ _ (le-leb (at + 4 + 8 * (cols * rows)) (length b) l) (must_is _ _ _ _ _ p refl))))

module _ (v : Instance) (g : WritableValue v) where
  -- its type is one of the plain edition's
  pub shape_fits : shape_in plain v.ty v.cols v.rows ≡ true
  shape_fits = shape_in_lem plain v.ty v.cols v.rows ∙ g.shape

  pub count_few : component_count (shape_of v) ≤ length v.comps
  count_few = omega (arith, count_small (shape_of v) (shape_small v.ty v.cols v.rows g.shape), g.sixteen)

  pub length_literal : length (write_literal v) ≡ 4 + 8 * (v.cols * v.rows)
  unfolding write_literal
  length_literal = omega (arith, eights_long (component_count (shape_of v)) v.comps)

  pub literal_back : (only : Bool) (b : List ℕ) (at : ℕ) → literal_ok plain only (record { ty = v.ty; cols = v.cols; rows = v.rows }) ≡ true → Lies b at (write_literal v)
      → read_literal plain only b at ≡ found (settled_value v) (at + length (write_literal v))
  unfolding write_literal settled_value
  literal_back only b at k s =
      let n = v.cols * v.rows in
      let s₁ = lies_rest b at 1 _ s in
      let s₂ : Lies b (at + 2) (v.cols ∷ v.rows ∷ eights n v.comps) = lies_at b (at + 1 + 1) (at + 2) _ (omega arith) (lies_rest b (at + 1) v.ty _ s₁) in
      let s₃ : Lies b (at + 3) (v.rows ∷ eights n v.comps) = lies_at b (at + 2 + 1) (at + 3) _ (omega arith) (lies_rest b (at + 2) v.cols _ s₂) in
      let s₄ : Lies b (at + 4) (eights n v.comps) = lies_at b (at + 3 + 1) (at + 4) _ (omega arith) (lies_rest b (at + 3) v.rows _ s₃) in
      literal_is only b at v.ty v.cols v.rows
      (lies_first b (at + 1) v.ty _ s₁) (lies_first b (at + 2) v.cols _ s₂) (lies_first b (at + 3) v.rows _ s₃)
      (omega (arith, lies_end b (at + 4) (eights n v.comps) s₄, eights_long n v.comps))
      k
      (eights_proper v.ty n v.comps b (at + 4) count_few s₄ g.proper)
      ∙ ap (λ (l : List ℕ). found (in_shape v.ty (shape_of v) (l ++ replicate (16 - n) 0)) (at + 4 + 8 * n))
      (eights_read v.ty n v.comps b (at + 4) count_few s₄ g.proper)
      ∙ ends _ (at + 4 + 8 * n) (at + length (write_literal v)) (omega (arith, eights_long n v.comps))

-- ---- a node
-- by its tag, where a level is left
tagged : (levels : ℕ) (stages : List ℕ) (own : ℕ) (b : List ℕ) (at x : ℕ) (xs : List ℕ) → Lies b at (x ∷ xs) → 1 ≤ levels → (g : Tag) → tag_of x ≡ g
    → read_node plain levels stages own b at ≡ on_tag plain g (read_node plain (levels - 1) stages own b) stages own b at
tagged levels stages own b at x xs s l g e =
    node_at plain levels stages own b at (λ (z : levels ≡ 0). omega arith) (omega (arith, lies_end b at (x ∷ xs) s)) g (ap tag_of (lies_first b at x xs s) ∙ e)

known_one : (op : ℕ) → 1 ≤ op → op ≤ 3 → operator_known false op ≡ true
known_one op h k = simp (le-leb 1 op h, le-leb op 3 k)

known_two : (op : ℕ) → 1 ≤ op → op ≤ 18 → operator_known true op ≡ true
known_two op h k = simp (le-leb 1 op h, le-leb op 18 k) (or-true (leb op 3))

operator_is : (two : Bool) (below : ℕ → Read Expr) (b : List ℕ) (at x op : ℕ) (xs : List ℕ) → Lies b at (x ∷ op ∷ xs) → operator_known two op ≡ true
    → read_operator two below b at ≡ operands two at op below (at + 2)
unfolding read_operator
operator_is two below b at x op xs s k =
    let e : get_or b (at + 1) 0 ≡ op = lies_first b (at + 1) op xs (lies_rest b at x (op ∷ xs) s) in
    must_is _ _ _ _ _ (le-leb (at + 2) (length b) (omega (arith, lies_end b at (x ∷ op ∷ xs) s)))
    (must_is _ _ _ _ _ (ap (operator_known two) e ∙ k) (ap (λ (o : ℕ). operands two at o below (at + 2)) e))

-- what lies after a tag and a byte
after_two : (b : List ℕ) (at x y : ℕ) (xs : List ℕ) → Lies b at (x ∷ y ∷ xs) → Lies b (at + 2) xs
after_two b at x y xs s = lies_at b (at + 1 + 1) (at + 2) xs (omega arith) (lies_rest b (at + 1) y xs (lies_rest b at x (y ∷ xs) s))

-- a literal's bytes one by one
opened : (v : Instance) (b : List ℕ) (at : ℕ) → Lies b at (write_literal v) → Lies b at (1 ∷ v.ty ∷ v.cols ∷ v.rows ∷ eights (v.cols * v.rows) v.comps)
unfolding write_literal
opened v b at s = s

node_back : (stages : List ℕ) (own : ℕ) (b : List ℕ) (t : Expr) (levels at : ℕ) → WritableNode stages own t → depth t ≤ levels → Lies b at (write_node t)
    → read_node plain levels stages own b at ≡ found (settled_node at t) (at + length (write_node t))
unfolding WritableNode depth write_node settled_node tag_of on_tag operands read_as then_read
node_back stages own b (literal v) levels at g d s =
    tagged levels stages own b at 1 _ (opened v b at s) d is_literal refl
    ∙ ap (read_as literal) (literal_back v g false b at (both_true _ _ (shape_fits v g) refl) s)
node_back stages own b (reference k) levels at g d s =
    let e : get_or b (at + 1) 0 ≡ k = lies_first b (at + 1) k [] (lies_rest b at 2 (k ∷ []) s) in
    tagged levels stages own b at 2 (k ∷ []) s d is_reference refl
    ∙ reference_good stages own b at (lies_end b at (2 ∷ k ∷ []) s) (omega (arith, g.0)) (rw e (omega (arith, g.1)))
    ∙ ap (λ (j : ℕ). found (reference j) (at + 2)) e
node_back stages own b (unary place op t) levels at g d s =
    tagged levels stages own b at 3 (op ∷ write_node t) s (omega arith) (is_operator false) refl
    ∙ operator_is false (read_node plain (levels - 1) stages own b) b at 3 op (write_node t) s (known_one op (omega (arith, g.0)) (omega (arith, g.1)))
    ∙ ap (read_as (unary at op)) (node_back stages own b t (levels - 1) (at + 2) g.2 (omega arith) (after_two b at 3 op (write_node t) s))
    ∙ ends _ (at + 2 + length (write_node t)) (at + length (write_node (unary place op t))) (omega arith)
node_back stages own b (binary place op l r) levels at g d s =
    let u : Lies b (at + 2) (write_node l ++ write_node r) = after_two b at 4 op (write_node l ++ write_node r) s in
    tagged levels stages own b at 4 (op ∷ (write_node l ++ write_node r)) s (omega arith) (is_operator true) refl
    ∙ operator_is true (read_node plain (levels - 1) stages own b) b at 4 op (write_node l ++ write_node r) s (known_two op (omega (arith, g.0)) (omega (arith, g.1)))
    ∙ ap (λ (x : Read Expr). then_read x (λ y m. read_as (binary at op y) (read_node plain (levels - 1) stages own b m)))
    (node_back stages own b l (levels - 1) (at + 2) g.2 (omega arith) (lies_left b (at + 2) (write_node l) (write_node r) u))
    ∙ ap (read_as (binary at op (settled_node (at + 2) l)))
    (node_back stages own b r (levels - 1) (at + 2 + length (write_node l)) g.3 (omega arith) (lies_right b (at + 2) (write_node l) (write_node r) u))
    ∙ ends _ (at + 2 + length (write_node l) + length (write_node r)) (at + length (write_node (binary place op l r)))
    (omega (arith, length-append (write_node l) (write_node r)))

-- ---- a body
expression_kind : (stage : ℕ) → stage ≤ 2 → kind_of stage ≡ Expression
unfolding kind_of
expression_kind stage h = rw (ne_eqb stage 3 (λ (z : stage ≡ 3). omega arith))

setting_fits : (v : Instance) → WritableSetting v → literal_ok plain true (record { ty = v.ty; cols = v.cols; rows = v.rows }) ≡ true
setting_fits v g = both_true _ _ (shape_fits v g.value) (both_true _ _ (both_true _ _ g.concrete (eq-eqb v.cols 1 g.column)) (eq-eqb v.rows 1 g.row))

expression_back : (stages : List ℕ) (e : Entry) → WritableEntry stages e
    → read_kind plain (kind_of (stage_byte e)) stages (stage_byte e) (write_body e) ≡ found (settled_entry e) (length (write_body e))
unfolding WritableEntry stage_byte write_body settled_entry kind_of read_kind read_setting read_as
expression_back stages (setting v) g =
    let b = write_literal v in
    let s = opened v b 0 (all_lies b) in
    must_is _ _ _ _ _ (le-leb (0 + 1) (length b) (omega (arith, lies_end b 0 _ s)))
    (must_is _ _ _ _ _ (eq-eqb (get_or b 0 0) 1 (lies_first b 0 1 _ s))
    (ap (read_as setting) (literal_back v g.value true b 0 (setting_fits v g) (all_lies b)) ∙ ends _ (0 + length b) (length b) (omega arith)))
expression_back stages (expression stage t) g =
    let b = write_node t in
    ap (λ (k : Kind). read_kind plain k stages stage b) (expression_kind stage g.0)
    ∙ ap (read_as (expression stage)) (node_back stages stage b t 32 0 g.2 (omega (arith, g.1)) (all_lies b))
    ∙ ends _ (0 + length b) (length b) (omega arith)

body_back : (stages : List ℕ) (e : Entry) → WritableEntry stages e → read_body plain stages (stage_byte e) (write_body e) ≡ found (settled_entry e) (length (write_body e))
unfolding read_body then_read
body_back stages e g =
    ap (λ (x : Read Entry). then_read x (λ y n. must (leb (length (write_body e)) n) (refused No.Leftover n) (found y n))) (expression_back stages e g)
    ∙ must_is _ _ _ _ _ (le-leb (length (write_body e)) (length (write_body e)) (omega arith)) refl

-- ---- a record
pub stage_small : (stages : List ℕ) (e : Entry) → WritableEntry stages e → stage_byte e ≤ 3
unfolding WritableEntry stage_byte
stage_small stages (setting v) g = omega arith
stage_small stages (expression stage t) g = omega (arith, g.0)

pub length_record : (e : Entry) → length (write_record e) ≡ 5 + length (write_body e)
unfolding write_record lows
length_record e = omega arith

record_back : (stages s : List ℕ) (at : ℕ) (e : Entry) → WritableEntry stages e → length (write_body e) < 65536 → Lies s at (write_record e)
    → read_record plain stages s at ≡ found (settled_entry e) (at + length (write_record e))
unfolding read_record write_record lows placed_from
record_back stages s at e g l w =
    let b = write_body e in
    let n = length b in
    let w₁ : Lies s (at + 1) (23 ∷ stage_byte e ∷ n % 256 ∷ n / 256 % 256 ∷ b) = lies_rest s at 213 _ w in
    let w₂ : Lies s (at + 2) (stage_byte e ∷ n % 256 ∷ n / 256 % 256 ∷ b) = after_two s at 213 23 _ w in
    let w₃ : Lies s (at + 3) (n % 256 ∷ n / 256 % 256 ∷ b) = lies_at s (at + 2 + 1) (at + 3) _ (omega arith) (lies_rest s (at + 2) (stage_byte e) _ w₂) in
    let w₄ : Lies s (at + 4) (n / 256 % 256 ∷ b) = lies_at s (at + 3 + 1) (at + 4) _ (omega arith) (lies_rest s (at + 3) (n % 256) _ w₃) in
    let w₅ : Lies s (at + 5) b = lies_at s (at + 4 + 1) (at + 5) _ (omega arith) (lies_rest s (at + 4) (n / 256 % 256) _ w₄) in
    let k : get_or s (at + 2) 0 ≡ stage_byte e = lies_first s (at + 2) (stage_byte e) _ w₂ in
    let m : n ≡ body_len s at = sym (word_lies 2 n s (at + 3) l (lies_left s (at + 3) (n % 256 ∷ n / 256 % 256 ∷ []) b w₃)) in
    let f : at + 5 + n ≤ length s = lies_end s (at + 5) b w₅ in
    let known : stage_known (get_or s (at + 2) 0) ≡ true = le-leb (get_or s (at + 2) 0) 3 (omega (arith, stage_small stages e g)) in
    let mark = both_true _ _ (eq-eqb (get_or s at 0) 213 (lies_first s at 213 _ w)) (eq-eqb (get_or s (at + 1) 0) 23 (lies_first s (at + 1) 23 _ w₁)) in
    let h : read_head s at ≡ headed (stage_byte e) (at + 5) n =
    sym (head_record s at (omega arith) mark known n m f) ∙ ap (λ (x : ℕ). headed x (at + 5) n) k in
    ap (λ (x : Result Head Refused). on_head plain x stages s) h
    ∙ ap (λ (x : List ℕ). placed_from (at + 5) (read_body plain stages (stage_byte e) x)) (lies_part s (at + 5) b w₅)
    ∙ ap (placed_from (at + 5)) (body_back stages e g)
    ∙ ends _ (at + 5 + n) (at + length (write_record e)) (omega arith)

-- ---- a sheet
pub stage_kept : (e : Entry) → entry_stage (settled_entry e) ≡ entry_stage e
unfolding settled_entry entry_stage
stage_kept (setting v) = refl
stage_kept (expression stage t) = refl

-- the stages of the entries done, one more
pub stages_more : (done : List Entry) (x y : Entry) → entry_stage y ≡ entry_stage x → map entry_stage done ++ entry_stage x ∷ [] ≡ map entry_stage (done ++ y ∷ [])
stages_more done x y e = ap (λ (k : ℕ). map entry_stage done ++ k ∷ []) (sym e) ∙ sym (map-append entry_stage done (y ∷ []))

-- records that were written are passed, from where they stand on
pub records_pass : (s : List ℕ) (es done : List Entry) (room at : ℕ) → length s ≤ 16384 → WritableEntries (map entry_stage done) es → length es ≤ room
    → Lies s at (write_sheet es) → read_records plain room s done at ≡ read_records plain (room - length es) s (done ++ settled es) (at + length (write_sheet es))
unfolding WritableEntries write_sheet
records_pass s [] done room at short g few w =
    ap (λ (k : ℕ). read_records plain k s done at) (omega arith) ∙ ap (λ (l : List Entry). read_records plain (room - 0) s l at) (sym (append-nil done))
    ∙ ap (read_records plain (room - 0) s (done ++ [])) (omega arith)
records_pass s (x ∷ es) done room at short g few w =
    let l = length-append (write_record x) (write_sheet es) in
    let r = length_record x in
    let inside = lies_end s at (write_record x ++ write_sheet es) w in
    let n = at + length (write_record x) in
    let here = record_back (map entry_stage done) s at x g.0 (omega arith) (lies_left s at (write_record x) (write_sheet es) w) in
    let more = subst (λ (k : List ℕ). WritableEntries k es) (stages_more done x (settled_entry x) (stage_kept x)) g.1 in
    records_next plain room s done at (map entry_stage done) (omega arith) (omega arith) refl (settled_entry x) n here
    ∙ records_pass s es (done ++ settled_entry x ∷ []) (room - 1) n short more (omega arith) (lies_right s at (write_record x) (write_sheet es) w)
    ∙ ap (λ (k : ℕ). read_records plain k s ((done ++ settled_entry x ∷ []) ++ settled es) (n + length (write_sheet es))) (omega arith)
    ∙ ap (λ (k : List Entry). read_records plain (room - suc (length es)) s k (n + length (write_sheet es))) (append_assoc done (settled_entry x ∷ []) (settled es))
    ∙ ap (read_records plain (room - suc (length es)) s (done ++ settled_entry x ∷ settled es)) (omega arith)

-- what was written is read back
pub read_back : (es : List Entry) → Writable es → read_sheet (write_sheet es) ≡ found (sheet_of plain 0 (settled es)) (length (write_sheet es))
unfolding read_sheet read_from read_as
read_back es g =
    let s = write_sheet es in
    must_is _ _ _ _ _ (le-leb (length s) 16384 (omega (arith, g.short)))
    (ap (read_as (sheet_of plain 0))
    (records_pass s es [] 128 0 (omega (arith, g.short)) g.each (omega (arith, g.few)) (all_lies s)
    ∙ records_end plain (128 - length es) s (settled es) (0 + length s) (omega arith)
    ∙ ends (settled es) (0 + length s) (length s) (omega arith)))

-- and as it was, where every NaN is as kept, unused components are 0, and operators have the places that they are written at
pub read_same : (es : List Entry) → Writable es → settled es ≡ es → read_sheet (write_sheet es) ≡ found (sheet_of plain 0 es) (length (write_sheet es))
read_same es g e = read_back es g ∙ ap (λ (k : List Entry). found (sheet_of plain 0 k) (length (write_sheet es))) e
