-- A node that was accepted was written: its bytes are those of a tree that can be written, and what was found is that tree, settled.
use mathlib.Core.Path.{◌≡◌, refl, sym, ap, ◌∙◌}
use mathlib.Core.Bool.{Bool, true, false, ◌&&◌, ◌||◌, false≢true}
use mathlib.Core.List.{List, [], ◌∷◌, ◌++◌, map}
use Prim.Native.Nat.{ℕ, zero, suc, ◌+◌, ◌*◌, ◌-◌, ◌<◌, ◌≤◌}
use native.Mathlib.Numerals.{sub-one}
use native.Mathlib.Omega.{arith}
use lib.Dec.{leb, eqb}
use lib.ListN.{length, get_or, replicate, length-append, length-replicate, get_or-append}
use lib.Seq.{take_at}
use borrow.Author.Tests.{leb-true, ltb-true, eqb-true, eqb-false}
use Rattle.types.specs.Edition.{plain}
use Rattle.value.specs.Pattern.{proper_of, kept_of}
use Rattle.operand.specs.declared.Instance.{Instance}
use Rattle.operand.specs.Operand.{shape_ok, shape_in, shape_of, in_shape, every}
use Rattle.low.proofs.Tests.{both}
use Rattle.operand.proofs.Shapes.{shape_small, shape_in_lem, count_small}
use Rattle.low.specs.Bytes.{lows, whole, part, numbers, eights}
use Rattle.low.proofs.Lows.{lows_long}
use Rattle.low.specs.Read.{found}
use Rattle.sheet.specs.Tree.{Expr, literal, reference, unary, binary}
use Rattle.sheet.specs.Node.{all_proper, components, value_at, literal_ok, read_literal, read_reference, operator_known, operands, read_operator}
use Rattle.sheet.specs.Node.{Tag, is_reference, is_operator, tag_of, on_tag, read_node}
use Rattle.low.proofs.Reading.{must_found, then_found, as_found}
use Rattle.sheet.proofs.Nodes.{node_at}
use Rattle.sheet.proofs.Inverse.{some_level, tag_there, tag_four, literal_read}
use Rattle.writer.specs.Write.{write_literal, write_node, WritableValue, depth, WritableNode, settled_value, settled_node, Bytes}
use Rattle.writer.proofs.Lying.{Lies, lies_at, lies_none, lies_join, lies_cons, word_there}
use Rattle.writer.proofs.ReadBack.{Proper, length_literal}

-- ---- components
record EightsFrom (ty n : ℕ) (b : List ℕ) (at : ℕ) : Type 0 where
  raw : List ℕ
  count : length raw ≡ n
  proper : Proper ty n raw
  same : map (kept_of ty) raw ≡ components ty n b at
  lies : (rest : List ℕ) → Lies b at (eights n (raw ++ rest))

first_more : (ty n x : ℕ) (xs : List ℕ) → proper_of ty x ≡ true → Proper ty n xs → Proper ty (suc n) (x ∷ xs)
first_more ty n x xs p g zero h = p
first_more ty n x xs p g (suc i) h = g i (omega arith)

eights_from : (ty n : ℕ) (b : List ℕ) (at : ℕ) → Bytes b → at + 8 * n ≤ length b → all_proper ty n b at ≡ true → EightsFrom ty n b at
unfolding all_proper every components numbers eights
eights_from ty zero b at h l p = record { raw = []; count = refl; proper = λ i k. absurd (omega arith); same = refl; lies = λ rest. lies_none b at (omega arith) }
eights_from ty (suc n) b at h l p =
    let q = both (proper_of ty (whole (part b at 8))) (all_proper ty n b (at + 8)) p in
    let w = eights_from ty n b (at + 8) h (omega arith) q.1 in
    let x = word_there 8 b at h (omega arith) in
    let e : at + 8 ≡ at + length (lows 8 (whole (part b at 8))) = ap (λ (k : ℕ). at + k) (sym (lows_long 8 (whole (part b at 8)))) in
    record {
      raw = whole (part b at 8) ∷ w.raw;
      count = ap suc w.count;
      proper = first_more ty n (whole (part b at 8)) w.raw q.0 w.proper;
      same = ap {B = List ℕ} (λ (k : List ℕ). kept_of ty (whole (part b at 8)) ∷ k) w.same;
      lies = λ rest.
          lies_join b at (lows 8 (whole (part b at 8))) (eights n (w.raw ++ rest)) x.1 (lies_at b (at + 8) _ (eights n (w.raw ++ rest)) e (w.lies rest));
    }

-- ---- a literal
pub record LiteralFrom (only : Bool) (b : List ℕ) (at : ℕ) (v : Instance) (n : ℕ) : Type 0 where
  pub raw : Instance
  pub value : WritableValue raw
  pub fits : literal_ok plain only (record { ty = raw.ty; cols = raw.cols; rows = raw.rows }) ≡ true
  pub same : settled_value raw ≡ v
  pub lies : Lies b at (write_literal raw)
  pub next : n ≡ at + length (write_literal raw)

-- its four bytes and its components, given
module _ (only : Bool) (b : List ℕ) (at ty cols rows : ℕ) (w : EightsFrom ty (cols * rows) b (at + 4))
    (ok : literal_ok plain only (record { ty = ty; cols = cols; rows = rows }) ≡ true) where
  abbrev zeros : List ℕ
  zeros = replicate (16 - cols * rows) 0

  abbrev raw_literal : Instance
  raw_literal = in_shape ty (record { cols = cols; rows = rows }) (w.raw ++ zeros)

  shape : shape_ok ty cols rows ≡ true
  shape = sym (shape_in_lem plain ty cols rows) ∙ (both (shape_in plain ty cols rows) _ ok).0

  raw_value : WritableValue raw_literal
  raw_value =
      record {
        shape = shape;
        proper = λ i h. ap (proper_of ty) (get_or-append w.raw zeros 0 i (omega (arith, w.count))) ∙ w.proper i h;
        sixteen = length-append w.raw zeros
            ∙ omega (arith, w.count, length-replicate {A = ℕ} (16 - cols * rows) 0, count_small (shape_of raw_literal) (shape_small ty cols rows shape));
      }

  raw_same : settled_value raw_literal ≡ value_at ty cols rows (cols * rows) b (at + 4)
  unfolding settled_value
  raw_same =
      ap (λ (k : List ℕ). in_shape ty (shape_of raw_literal) (map (kept_of ty) k ++ zeros)) (take_at w.raw zeros (cols * rows) w.count)
      ∙ ap (λ (k : List ℕ). in_shape ty (shape_of raw_literal) (k ++ zeros)) w.same

  raw_lies : at + 4 ≤ length b → get_or b at 0 ≡ 1 → get_or b (at + 1) 0 ≡ ty → get_or b (at + 2) 0 ≡ cols → get_or b (at + 3) 0 ≡ rows
      → Lies b at (write_literal raw_literal)
  unfolding write_literal
  raw_lies l e₀ e₁ e₂ e₃ =
      let xs = eights (cols * rows) (w.raw ++ zeros) in
      let w₄ : Lies b (at + 3 + 1) xs = lies_at b (at + 4) (at + 3 + 1) _ (omega arith) (w.lies zeros) in
      let w₃ : Lies b (at + 2 + 1) (rows ∷ xs) = lies_at b (at + 3) (at + 2 + 1) _ (omega arith) (lies_cons b (at + 3) rows _ (omega arith) e₃ w₄) in
      let w₂ : Lies b (at + 1 + 1) (cols ∷ rows ∷ xs) = lies_at b (at + 2) (at + 1 + 1) _ (omega arith) (lies_cons b (at + 2) cols _ (omega arith) e₂ w₃) in
      lies_cons b at 1 _ (omega arith) e₀ (lies_cons b (at + 1) ty _ (omega arith) e₁ w₂)

pub literal_from : (only : Bool) (b : List ℕ) (at : ℕ) (v : Instance) (n : ℕ) → Bytes b → get_or b at 0 ≡ 1 → read_literal plain only b at ≡ found v n
    → LiteralFrom only b at v n
unfolding read_literal
literal_from only b at v n h tag e =
    let a = must_found _ _ _ _ v n e in
    let c = must_found _ _ _ _ v n a.1 in
    let d = must_found _ _ _ _ v n c.1 in
    let f = must_found _ _ _ _ v n d.1 in
    let ty = get_or b (at + 1) 0 in
    let cols = get_or b (at + 2) 0 in
    let rows = get_or b (at + 3) 0 in
    let g : found (value_at ty cols rows (cols * rows) b (at + 4)) (at + 4 + 8 * (cols * rows)) ≡ found v n = f.1 in
    let same : value_at ty cols rows (cols * rows) b (at + 4) ≡ v = cc in
    let next : at + 4 + 8 * (cols * rows) ≡ n = cc in
    let l : at + 4 + 8 * (cols * rows) ≤ length b = leb-true _ _ d.0 in
    let w = eights_from ty (cols * rows) b (at + 4) h l f.0 in
    record {
      raw = raw_literal only b at ty cols rows w c.0;
      value = raw_value only b at ty cols rows w c.0;
      fits = c.0;
      same = raw_same only b at ty cols rows w c.0 ∙ same;
      lies = raw_lies only b at ty cols rows w c.0 (leb-true _ _ a.0) tag refl refl refl;
      next = omega (arith, length_literal (raw_literal only b at ty cols rows w c.0) (raw_value only b at ty cols rows w c.0));
    }

-- ---- a node
pub record NodeFrom (levels : ℕ) (stages : List ℕ) (own : ℕ) (b : List ℕ) (at : ℕ) (t : Expr) (n : ℕ) : Type 0 where
  pub raw : Expr
  pub node : WritableNode stages own raw
  pub deep : depth raw ≤ levels
  pub same : settled_node at raw ≡ t
  pub lies : Lies b at (write_node raw)
  pub next : n ≡ at + length (write_node raw)

-- the operands' own, a level down
abbrev Below : ℕ → List ℕ → ℕ → List ℕ → Type 0
Below levels stages own b = (a : ℕ) (u : Expr) (m : ℕ) → read_node plain levels stages own b a ≡ found u m → NodeFrom levels stages own b a u m

-- the numbers that an operator can have
known_from : (two : Bool) (op : ℕ) → operator_known two op ≡ true → (1 ≤ op) × (op ≤ 18) × (two ≡ false → op ≤ 3)
known_from two op e =
    let k = both (leb 1 op) _ e in
    let w = go two (leb op 3) refl k.1 in
    (leb-true 1 op k.0, w.0, w.1)
  where
    go : (two x : Bool) → leb op 3 ≡ x → x || (two && leb op 18) ≡ true → (op ≤ 18) × (two ≡ false → op ≤ 3)
    go two true q h = let z = leb-true op 3 q in (omega arith, λ _. z)
    go true false q h = (leb-true op 18 h, λ (r : true ≡ false). absurd (false≢true (sym r)))
    go false false q h = absurd (false≢true h)

module _ (levels : ℕ) (stages : List ℕ) (own : ℕ) (b : List ℕ) (at : ℕ) (t : Expr) (n : ℕ) (bytes : Bytes b)
    (e : read_node plain (suc levels) stages own b at ≡ found t n) where
  here : at < length b
  here = tag_there plain (suc levels) stages own b at t n e

  by_tag : (g : Tag) → tag_of (get_or b at 0) ≡ g → on_tag plain g (read_node plain levels stages own b) stages own b at ≡ found t n
  by_tag g q =
      ap (λ (k : ℕ). on_tag plain g (read_node plain k stages own b) stages own b at) (sym (sub-one (suc levels)))
      ∙ sym (node_at plain (suc levels) stages own b at (some_level plain (suc levels) stages own b at t n e) (omega (arith, here)) g q) ∙ e

  from_literal : get_or b at 0 ≡ 1 → NodeFrom (suc levels) stages own b at t n
  unfolding on_tag tag_of WritableNode depth settled_node write_node
  from_literal q =
      let m = literal_read plain (suc levels) stages own b at t n e q in
      let w = literal_from false b at m.0 n bytes q m.1 in
      record { raw = literal w.raw; node = w.value; deep = omega arith; same = ap literal w.same ∙ sym m.2; lies = w.lies; next = w.next }

  from_reference : get_or b at 0 ≡ 2 → NodeFrom (suc levels) stages own b at t n
  unfolding on_tag tag_of read_reference WritableNode depth settled_node write_node
  from_reference q =
      let a = must_found _ _ _ _ t n (by_tag is_reference (ap tag_of q)) in
      let c = must_found _ _ _ _ t n a.1 in
      let d = must_found _ _ _ _ t n c.1 in
      let f : found (reference (get_or b (at + 1) 0)) (at + 2) ≡ found t n = d.1 in
      let l : at + 2 ≤ length b = leb-true (at + 2) (length b) a.0 in
      let same : reference (get_or b (at + 1) 0) ≡ t = cc in
      let next : at + 2 ≡ n = cc in
      record {
        raw = reference (get_or b (at + 1) 0);
        node = (omega (arith, ltb-true (get_or b (at + 1) 0) (length stages) c.0), omega (arith, leb-true (get_or stages (get_or b (at + 1) 0) 0) own d.0));
        deep = omega arith;
        same = same;
        lies = lies_cons b at 2 _ here q (lies_cons b (at + 1) _ _ (omega arith) refl (lies_none b (at + 1 + 1) (omega arith)));
        next = sym next;
      }

  -- an operator byte, and its operands
  operator_from : (two : Bool) → tag_of (get_or b at 0) ≡ is_operator two
      → (at + 2 ≤ length b) × (operator_known two (get_or b (at + 1) 0) ≡ true)
      × (operands two at (get_or b (at + 1) 0) (read_node plain levels stages own b) (at + 2) ≡ found t n)
  unfolding on_tag read_operator
  operator_from two q =
      let a = must_found _ _ _ _ t n (by_tag (is_operator two) q) in
      let c = must_found _ _ _ _ t n a.1 in
      (leb-true (at + 2) (length b) a.0, c.0, c.1)

  after_operator : (x : ℕ) (xs : List ℕ) → get_or b at 0 ≡ x → at + 2 ≤ length b → Lies b (at + 2) xs → Lies b at (x ∷ get_or b (at + 1) 0 ∷ xs)
  after_operator x xs q l s = lies_cons b at x _ here q (lies_cons b (at + 1) _ xs (omega arith) refl (lies_at b (at + 2) (at + 1 + 1) xs (omega arith) s))

  from_unary : get_or b at 0 ≡ 3 → Below levels stages own b → NodeFrom (suc levels) stages own b at t n
  unfolding tag_of operands WritableNode depth settled_node write_node
  from_unary q ih =
      let o = operator_from false (ap tag_of q) in
      let m = as_found (unary at (get_or b (at + 1) 0)) (read_node plain levels stages own b (at + 2)) t n o.2 in
      let w = ih (at + 2) m.0 n m.1 in
      let k = known_from false (get_or b (at + 1) 0) o.1 in
      record {
        raw = unary at (get_or b (at + 1) 0) w.raw;
        node = (omega (arith, k.0), omega (arith, k.2 refl), w.node);
        deep = omega (arith, w.deep);
        same = ap (unary at (get_or b (at + 1) 0)) w.same ∙ sym m.2;
        lies = after_operator 3 (write_node w.raw) q o.0 w.lies;
        next = omega (arith, w.next);
      }

  from_binary : get_or b at 0 ≡ 4 → Below levels stages own b → NodeFrom (suc levels) stages own b at t n
  unfolding tag_of operands WritableNode depth settled_node write_node
  from_binary q ih =
      let o = operator_from true (ap tag_of q) in
      let c = then_found _ _ t n o.2 in
      let m = as_found _ _ t n c.3 in
      let x = ih (at + 2) c.0 c.1 c.2 in
      let y = ih c.1 m.0 n m.1 in
      let k = known_from true (get_or b (at + 1) 0) o.1 in
      let z : c.1 ≡ at + 2 + length (write_node x.raw) = x.next in
      record {
        raw = binary at (get_or b (at + 1) 0) x.raw y.raw;
        node = (omega (arith, k.0), omega (arith, k.1), x.node, y.node);
        deep = omega (arith, x.deep, y.deep);
        same = ap (λ (u : Expr). binary at (get_or b (at + 1) 0) u (settled_node (at + 2 + length (write_node x.raw)) y.raw)) x.same
            ∙ ap (λ (i : ℕ). binary at (get_or b (at + 1) 0) c.0 (settled_node i y.raw)) (sym z)
            ∙ ap (binary at (get_or b (at + 1) 0) c.0) y.same ∙ sym m.2;
        lies = after_operator 4 (write_node x.raw ++ write_node y.raw) q o.0
            (lies_join b (at + 2) (write_node x.raw) (write_node y.raw) x.lies (lies_at b c.1 _ _ z y.lies));
        next = omega (arith, x.next, y.next, length-append (write_node x.raw) (write_node y.raw));
      }

pub node_from : (levels : ℕ) (stages : List ℕ) (own : ℕ) (b : List ℕ) → Bytes b → Below levels stages own b
node_from zero stages own b bytes at t n e = absurd (some_level plain 0 stages own b at t n e refl)
node_from (suc levels) stages own b bytes at t n e =
    go (eqb (get_or b at 0) 1) (eqb (get_or b at 0) 2) (eqb (get_or b at 0) 3) refl refl refl (node_from levels stages own b bytes)
  where
    go : (x y z : Bool) → eqb (get_or b at 0) 1 ≡ x → eqb (get_or b at 0) 2 ≡ y → eqb (get_or b at 0) 3 ≡ z
        → Below levels stages own b → NodeFrom (suc levels) stages own b at t n
    go true y z p q r ih = from_literal levels stages own b at t n bytes e (eqb-true _ _ p)
    go false true z p q r ih = from_reference levels stages own b at t n bytes e (eqb-true _ _ q)
    go false false true p q r ih = from_unary levels stages own b at t n bytes e (eqb-true _ _ r) ih
    go false false false p q r ih =
        let four = tag_four plain (suc levels) stages own b at t n e (eqb-false _ _ p) (eqb-false _ _ q) (eqb-false _ _ r) in
        from_binary levels stages own b at t n bytes e four ih
