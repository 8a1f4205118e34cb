-- Laws of the nodes: what a node answers by its tag, and that a node that is read ends past its start and within the body.
use mathlib.Core.Path.{◌≡◌, refl, sym, ap, ◌∙◌}
use mathlib.Core.Bool.{Bool, true, false}
use mathlib.Core.List.{List}
use Prim.Native.Nat.{ℕ, zero, suc, ◌+◌, ◌*◌, ◌-◌, ◌<◌, ◌≤◌}
use native.Mathlib.Numerals.{sub-one}
use native.Mathlib.Omega.{arith}
use lib.ListN.{length, get_or}
use lib.Dec.{leb}
use borrow.Author.Tests.{leb-true, leb-false, le-leb, lt-leb, lt-ltb, le-ltb, ne_eqb}
use Rattle.std.specs.Prelude.{Result, Ok, Err, ⊤}
use Rattle.low.specs.declared.Refused.{Refused}
use Rattle.sheet.specs.declared.literals.LiteralHead.{LiteralHead}
use Rattle.low.specs.Read.{Read, found, refused, must, then_read, read_as, there, refusal, seen_of}
use Rattle.sheet.specs.Node.{cut, literal_head, literal_count, literal_ok, all_proper, read_components, read_literal, read_reference, operator_known, operands, read_operator}
use Rattle.sheet.specs.Tree.{Expr, literal, reference, unary, binary}
use Rattle.sheet.specs.Node.{Tag, is_literal, is_reference, is_operator, unknown, tag_of, on_tag, read_node}
use Rattle.low.proofs.Reading.{was_read, was_refused, seen_as, must_is}
use Rattle.value.specs.Refusals as No
use Rattle.types.specs.Edition.{Edition}

-- ---- a refusal by the test of the bytes left: n bytes are asked for of m, in so many
pub not_there : (n m len : ℕ) (r : Refused) → ◌≡◌ {A = Result ⊤ Refused} (Err r) (must (leb n m) (refusal No.CutShort len) (Ok tt)) → (m < n) × (r ≡ record { number = No.CutShort; place = len })
unfolding must
not_there n m len r = go (leb n m) refl
  where
    go : (v : Bool) → leb n m ≡ v → ◌≡◌ {A = Result ⊤ Refused} (Err r) (must v (refusal No.CutShort len) (Ok tt)) → (m < n) × (r ≡ record { number = No.CutShort; place = len })
    go true w e = absurd (let z : ◌≡◌ {A = ℕ} 0 1 = cc in omega arith)
    go false w e = (leb-false n m w, cc)

-- ---- what is read from a place on ends past it and within the body, and a refusal's place is in the body or just past it
unfoldable pub Within : {A : Type 0} → List ℕ → ℕ → Read A → Type 0
Within b at (found a n) = (at < n) × (n ≤ length b)
Within b at (refused k p) = p ≤ length b

module _ {A : Type 0} (b : List ℕ) (at : ℕ) where
  pub within_must : (g : Bool) (k p : ℕ) (x : Read A) → p ≤ length b → (g ≡ true → Within b at x) → Within b at (must g (refused k p) x)
  unfolding Within must
  within_must true k p x l h = h refl
  within_must false k p x l h = l

  pub past : (a : A) (n : ℕ) → at < n → n ≤ length b → Within b at (found a n)
  unfolding Within
  past a n l u = (l, u)

within_no : (b : List ℕ) (at k p : ℕ) → p ≤ length b → Within {A = Expr} b at (refused k p)
unfolding Within
within_no b at k p l = l

pub within_then : {A B : Type 0} (b : List ℕ) (at to : ℕ) (x : Read A) (f : A → ℕ → Read B) → Within b at x
    → ((a : A) (n : ℕ) → at < n → n ≤ length b → Within b to (f a n)) → Within b to (then_read x f)
unfolding Within then_read
within_then b at to (found a n) f h g = g a n h.0 h.1
within_then b at to (refused k p) f h g = h

pub within_as : {A B : Type 0} (b : List ℕ) (at to : ℕ) (f : A → B) (x : Read A) → to ≤ at → Within b at x → Within b to (read_as f x)
unfolding Within read_as
within_as b at to f (found a n) l h = (omega (arith, h.0), h.1)
within_as b at to f (refused k p) l h = h

within_components : (h : LiteralHead) (n : ℕ) (b : List ℕ) (at : ℕ) → at ≤ length b → Within b at (read_components h n b at)
within_components h n b at l = within_must b at _ _ _ _ (omega arith) (λ e. within_must b at _ _ _ _ l (λ _. past b at _ _ (omega arith) (leb-true _ _ e)))

within_reference : (stages : List ℕ) (own : ℕ) (b : List ℕ) (at : ℕ) → at ≤ length b → Within b at (read_reference stages own b at)
unfolding read_reference
within_reference stages own b at l =
    within_must b at _ _ _ _ (omega arith) (λ e. within_must b at _ _ _ _ l (λ _. within_must b at _ _ _ _ l (λ _. past b at _ _ (omega arith) (leb-true _ _ e))))

-- below reads every node within the body
abbrev AllWithin : List ℕ → (ℕ → Read Expr) → Type 0
AllWithin b below = (at : ℕ) → at ≤ length b → Within b at (below at)

pub tag_unknown : (t : ℕ) → (t ≡ 1 → ⊥) → (t ≡ 2 → ⊥) → (t ≡ 3 → ⊥) → (t ≡ 4 → ⊥) → tag_of t ≡ unknown
unfolding tag_of
tag_unknown t z a b c = simp (ne_eqb t 1 z, ne_eqb t 2 a, ne_eqb t 3 b, ne_eqb t 4 c)

-- ---- an operator and its operands, as the code sees them
module _ (place op : ℕ) (below : ℕ → Read Expr) (at : ℕ) where
  seen_one : seen_of (operands false place op below at) ≡ seen_of (below at)
  unfolding operands
  seen_one = seen_as (unary place op) (below at)

  seen_two : (m : ℕ) → Ok m ≡ seen_of (below at) → seen_of (operands true place op below at) ≡ seen_of (below m)
  unfolding operands then_read
  seen_two m e = let w = was_read (below at) m e in rw w.1 (seen_as (binary place op w.0) (below m))

  -- a refusal of the first operand is the operator's, before one operand and before two
  seen_not : (two : Bool) (z : Refused) → Err z ≡ seen_of (below at) → Err z ≡ seen_of (operands two place op below at)
  unfolding operands then_read
  seen_not false z e = e ∙ sym seen_one
  seen_not true z e = rw (was_refused (below at) z e)

module _ (two : Bool) (below : ℕ → Read Expr) (b : List ℕ) (at : ℕ) where
  pub operator_cut : length b < at + 2 → refusal No.CutShort (length b) ≡ seen_of (read_operator two below b at)
  unfolding read_operator must
  operator_cut l = simp (lt-leb (at + 2) (length b) l)

  -- g is the answer of the test of the operator
  module _ (l : at + 2 ≤ length b) (g : Bool) (q : g ≡ operator_known two (get_or b (at + 1) 0)) where
    by_operator_lem : read_operator two below b at ≡ must g (refused No.BadNode at) (operands two at (get_or b (at + 1) 0) below (at + 2))
    unfolding read_operator
    by_operator_lem =
        must_is _ _ _ _ _ (le-leb (at + 2) (length b) l)
        (ap (λ (x : Bool). must x (refused No.BadNode at) (operands two at (get_or b (at + 1) 0) below (at + 2))) (sym q))

    pub operator_bad : g ≡ false → refusal No.BadNode at ≡ seen_of (read_operator two below b at)
    unfolding must
    operator_bad f = sym (ap seen_of by_operator_lem ∙ rw f)

    module _ (f : g ≡ true) where
      by_operands : (v : Bool) → two ≡ v → read_operator two below b at ≡ operands v at (get_or b (at + 1) 0) below (at + 2)
      by_operands v e = by_operator_lem ∙ must_is _ _ _ _ _ f (ap (λ (x : Bool). operands x at (get_or b (at + 1) 0) below (at + 2)) e)

      pub operator_one : two ≡ false → seen_of (below (at + 2)) ≡ seen_of (read_operator two below b at)
      operator_one e = sym (ap seen_of (by_operands false e) ∙ seen_one at (get_or b (at + 1) 0) below (at + 2))

      -- r is what the first operand answered
      module _ (r : Result ℕ Refused) (h : r ≡ seen_of (below (at + 2))) where
        pub operator_not : (z : Refused) → r ≡ Err z → Err z ≡ seen_of (read_operator two below b at)
        operator_not z i = seen_not at (get_or b (at + 1) 0) below (at + 2) two z (sym i ∙ h) ∙ sym (ap seen_of (by_operands two refl))

        module _ (m : ℕ) (i : r ≡ Ok m) where
          pub operator_two : two ≡ true → seen_of (below m) ≡ seen_of (read_operator two below b at)
          operator_two e = sym (ap seen_of (by_operands true e) ∙ seen_two at (get_or b (at + 1) 0) below (at + 2) m (sym i ∙ h))

-- ---- a reference, as the code goes
module _ (stages : List ℕ) (own : ℕ) (b : List ℕ) (at : ℕ) where
  pub reference_cut : length b < at + 2 → read_reference stages own b at ≡ cut b
  unfolding read_reference must
  reference_cut l = simp (lt-leb (at + 2) (length b) l)

  module _ (l : at + 2 ≤ length b) where
    pub reference_late : length stages ≤ get_or b (at + 1) 0 → read_reference stages own b at ≡ refused No.BadRef at
    unfolding read_reference must
    reference_late h = simp (le-leb (at + 2) (length b) l, le-ltb _ _ h)

    pub reference_above : get_or b (at + 1) 0 < length stages → own < get_or stages (get_or b (at + 1) 0) 0 → read_reference stages own b at ≡ refused No.BadStage at
    unfolding read_reference must
    reference_above h k = simp (le-leb (at + 2) (length b) l, lt-ltb _ _ h, lt-leb _ _ k)

    pub reference_good : get_or b (at + 1) 0 < length stages → get_or stages (get_or b (at + 1) 0) 0 ≤ own → read_reference stages own b at ≡ found (reference (get_or b (at + 1) 0)) (at + 2)
    unfolding read_reference must
    reference_good h k = simp (le-leb (at + 2) (length b) l, lt-ltb _ _ h, le-leb _ _ k)

module _ (ed : Edition) where
  pub within_literal : (setting : Bool) (b : List ℕ) (at : ℕ) → at ≤ length b → Within b at (read_literal ed setting b at)
  unfolding read_literal
  within_literal setting b at l =
      within_must b at _ _ _ _ (omega arith) (λ _. within_must b at _ _ _ _ l (λ _. within_components (literal_head b at) (literal_count b at) b at l))

  module _ (b : List ℕ) (below : ℕ → Read Expr) (h : AllWithin b below) (at : ℕ) where
    within_operands : (two : Bool) (place op : ℕ) → at + 2 ≤ length b → Within b at (operands two place op below (at + 2))
    unfolding operands
    within_operands false place op l = within_as b (at + 2) at _ _ (omega arith) (h _ l)
    within_operands true place op l = within_then b (at + 2) at _ _ (h _ l) (λ t n k u. within_as b n at _ _ (omega arith) (h _ u))

    within_operator : (two : Bool) → at ≤ length b → Within b at (read_operator two below b at)
    unfolding read_operator
    within_operator two l = within_must b at _ _ _ _ (omega arith) (λ e. within_must b at _ _ _ _ l (λ _. within_operands two _ _ (leb-true _ _ e)))

    within_tag : (g : Tag) (stages : List ℕ) (own : ℕ) → at ≤ length b → Within b at (on_tag ed g below stages own b at)
    unfolding on_tag
    within_tag is_literal stages own l = within_as b at at _ _ (omega arith) (within_literal false b at l)
    within_tag is_reference stages own l = within_reference stages own b at l
    within_tag (is_operator two) stages own l = within_operator two l
    within_tag unknown stages own l = within_no b at No.BadNode at l

  pub within_node : (levels : ℕ) (stages : List ℕ) (own : ℕ) (b : List ℕ) → AllWithin b (read_node ed levels stages own b)
  unfolding read_node
  within_node zero stages own b at l = within_no b at No.TooDeep at l
  within_node (suc levels) stages own b at l =
      within_must b at _ _ _ _ (omega arith) (λ _. within_tag b (read_node ed levels stages own b) (within_node levels stages own b) at _ stages own l)

  -- where the code goes on from
  pub read_past : (levels : ℕ) (stages : List ℕ) (own : ℕ) (b : List ℕ) (at n : ℕ) → at ≤ length b → Ok n ≡ seen_of (read_node ed levels stages own b at)
      → (at < n) × (n ≤ length b)
  unfolding Within
  read_past levels stages own b at n l e = rw (was_read (read_node ed levels stages own b at) n e).1 at (within_node levels stages own b at l)

  -- ---- a node by its tag, where a level is left
  pub open_node : (levels : ℕ) (stages : List ℕ) (own : ℕ) (b : List ℕ) (at : ℕ) → (levels ≡ 0 → ⊥)
      → read_node ed levels stages own b at ≡ must (there b at 1) (cut b) (on_tag ed (tag_of (get_or b at 0)) (read_node ed (levels - 1) stages own b) stages own b at)
  unfolding read_node
  open_node zero stages own b at h = absurd (h refl)
  open_node (suc levels) stages own b at h = simp (sub-one (suc levels))

  module _ (levels : ℕ) (stages : List ℕ) (own : ℕ) (b : List ℕ) (at : ℕ) (h : levels ≡ 0 → ⊥) where
    pub node_cut : length b < at + 1 → read_node ed levels stages own b at ≡ cut b
    unfolding must
    node_cut l = open_node levels stages own b at h ∙ simp (lt-leb (at + 1) (length b) l)

    pub node_at : at + 1 ≤ length b → (g : Tag) → tag_of (get_or b at 0) ≡ g → read_node ed levels stages own b at ≡ on_tag ed g (read_node ed (levels - 1) stages own b) stages own b at
    unfolding must
    node_at l g e = open_node levels stages own b at h ∙ simp (le-leb (at + 1) (length b) l, e)

  -- ---- a node by its tag byte, as the code sees it
  module _ (levels : ℕ) (stages : List ℕ) (own : ℕ) (b : List ℕ) (at : ℕ) (h : levels ≡ 0 → ⊥) (l : at + 1 ≤ length b) where
    pub seen_literal : get_or b at 0 ≡ 1 → seen_of (read_node ed levels stages own b at) ≡ seen_of (read_literal ed false b at)
    unfolding on_tag tag_of
    seen_literal q = ap seen_of (node_at levels stages own b at h l is_literal (ap tag_of q)) ∙ seen_as literal (read_literal ed false b at)

    pub seen_reference : get_or b at 0 ≡ 2 → seen_of (read_node ed levels stages own b at) ≡ seen_of (read_reference stages own b at)
    unfolding on_tag tag_of
    seen_reference q = ap seen_of (node_at levels stages own b at h l is_reference (ap tag_of q))

    pub seen_unary : get_or b at 0 ≡ 3 → seen_of (read_node ed levels stages own b at) ≡ seen_of (read_operator false (read_node ed (levels - 1) stages own b) b at)
    unfolding on_tag tag_of
    seen_unary q = ap seen_of (node_at levels stages own b at h l (is_operator false) (ap tag_of q))

    pub seen_binary : get_or b at 0 ≡ 4 → seen_of (read_node ed levels stages own b at) ≡ seen_of (read_operator true (read_node ed (levels - 1) stages own b) b at)
    unfolding on_tag tag_of
    seen_binary q = ap seen_of (node_at levels stages own b at h l (is_operator true) (ap tag_of q))

    pub seen_unknown : (get_or b at 0 ≡ 1 → ⊥) → (get_or b at 0 ≡ 2 → ⊥) → (get_or b at 0 ≡ 3 → ⊥) → (get_or b at 0 ≡ 4 → ⊥)
        → seen_of (read_node ed levels stages own b at) ≡ refusal No.BadNode at
    unfolding on_tag
    seen_unknown w x y z = ap seen_of (node_at levels stages own b at h l unknown (tag_unknown (get_or b at 0) w x y z))

  -- ---- a literal, as the code goes: h is its head, n its number of components, g and p answer the tests of its head and of its components
  module _ (setting : Bool) (b : List ℕ) (at : ℕ) where
    pub literal_cut : length b < at + 4 → refusal No.CutShort (length b) ≡ seen_of (read_literal ed setting b at)
    unfolding read_literal must
    literal_cut l = simp (lt-leb (at + 4) (length b) l)

    module _ (h : LiteralHead) (e : h ≡ literal_head b at) (l : at + 4 ≤ length b) (g : Bool) (ok : g ≡ literal_ok ed setting h) where
      by_head : read_literal ed setting b at ≡ must g (refused No.BadValue at) (read_components h (h.cols * h.rows) b at)
      unfolding read_literal
      by_head =
          must_is _ _ _ _ _ (le-leb (at + 4) (length b) l)
          (ap (λ (x : LiteralHead). must (literal_ok ed setting x) (refused No.BadValue at) (read_components x (x.cols * x.rows) b at)) (sym e)
          ∙ ap (λ (x : Bool). must x (refused No.BadValue at) (read_components h (h.cols * h.rows) b at)) (sym ok))

      pub literal_shape : g ≡ false → refusal No.BadValue at ≡ seen_of (read_literal ed setting b at)
      unfolding must
      literal_shape f = sym (ap seen_of by_head ∙ rw f)

      module _ (f : g ≡ true) (n : ℕ) (q : n ≡ h.cols * h.rows) where
        by_components : read_literal ed setting b at ≡ read_components h n b at
        by_components = by_head ∙ must_is _ _ _ _ _ f (ap (λ (k : ℕ). read_components h k b at) (sym q))

        pub literal_short : length b < at + 4 + 8 * n → refusal No.CutShort (length b) ≡ seen_of (read_literal ed setting b at)
        unfolding must
        literal_short k = sym (ap seen_of by_components ∙ simp (lt-leb (at + 4 + 8 * n) (length b) k))

        module _ (k : at + 4 + 8 * n ≤ length b) (p : Bool) (w : p ≡ all_proper h.ty n b (at + 4)) where
          pub literal_bad : p ≡ false → refusal No.BadValue at ≡ seen_of (read_literal ed setting b at)
          unfolding must
          literal_bad z = sym (ap seen_of by_components ∙ simp (le-leb (at + 4 + 8 * n) (length b) k, ← w, z))

          pub literal_good : p ≡ true → Ok (at + 4 + 8 * n) ≡ seen_of (read_literal ed setting b at)
          unfolding must
          literal_good z = sym (ap seen_of by_components ∙ simp (le-leb (at + 4 + 8 * n) (length b) k, ← w, z))
