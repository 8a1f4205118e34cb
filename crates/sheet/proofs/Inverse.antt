-- What an accepted node holds: the definition read backwards, for whoever walks a body that was accepted.
use mathlib.Core.Path.{◌≡◌, refl, sym, ap, ◌∙◌}
use mathlib.Core.Bool.{Bool, true, false}
use mathlib.Core.List.{List}
use Prim.Native.Nat.{ℕ, ◌+◌, ◌*◌, ◌-◌, ◌<◌, ◌≤◌}
use native.Mathlib.Omega.{arith}
use lib.ListN.{length, get_or}
use lib.Dec.{eqb}
use borrow.Author.Tests.{ltb-true, leb-true, eqb-true, eqb-false}
use Rattle.value.specs.Refusals as No
use Rattle.operand.specs.declared.Instance.{Instance}
use Rattle.sheet.specs.declared.Literal.{Literal}
use Rattle.sheet.specs.declared.literals.LiteralHead.{LiteralHead}
use Rattle.low.specs.Read.{found, there}
use Rattle.sheet.specs.Tree.{Expr, literal, reference, unary, binary}
use Rattle.sheet.specs.Node.{literal_head, literal_count, literal_end, literal_ok, value_at, read_literal, read_reference, operands, read_operator, literal_in}
use Rattle.sheet.specs.Node.{Tag, is_literal, is_reference, is_operator, unknown, tag_of, on_tag, read_node}
use Rattle.low.proofs.Reading.{never, must_found, then_found, as_found}
use Rattle.sheet.proofs.Components.{loaded, literal_small}
use Rattle.sheet.proofs.Nodes.{Within, within_node, open_node, tag_unknown}
use Rattle.types.specs.Edition.{Edition}

-- the value of the literal at a place
abbrev literal_value : List ℕ → ℕ → Instance
literal_value b at = value_at (get_or b (at + 1) 0) (get_or b (at + 2) 0) (get_or b (at + 3) 0) (literal_count b at) b (at + 4)

-- ---- a literal that was accepted: its head is there, its shape is one, its components are there, and this is its value
pub record LiteralThere (ed : Edition) (setting : Bool) (b : List ℕ) (at : ℕ) (v : Instance) (n : ℕ) : Type 0 where
  pub head : at + 4 ≤ length b
  pub shape : literal_ok ed setting (literal_head b at) ≡ true
  pub whole : literal_end b at ≤ length b
  pub value : v ≡ literal_value b at
  pub next : n ≡ literal_end b at

-- an operand that was accepted, a level down
abbrev OperandAt : Edition → ℕ → List ℕ → ℕ → List ℕ → ℕ → Expr → ℕ → Type 0
OperandAt ed levels stages own b at t n = read_node ed (levels - 1) stages own b at ≡ found t n

-- ---- the same by cases: what stands where a node was accepted
pub data Stands (ed : Edition) (levels : ℕ) (stages : List ℕ) (own : ℕ) (b : List ℕ) (at : ℕ) (t : Expr) (n : ℕ) : Type 0 where
  a_literal : get_or b at 0 ≡ 1 → (v : Instance) → t ≡ literal v → LiteralThere ed false b at v n → Stands ed levels stages own b at t n
  a_reference : get_or b at 0 ≡ 2 → at + 1 < length b → get_or b (at + 1) 0 < length stages → t ≡ reference (get_or b (at + 1) 0) → n ≡ at + 2 → Stands ed levels stages own b at t n
  a_unary : get_or b at 0 ≡ 3 → at + 1 < length b → (l : Expr) → OperandAt ed levels stages own b (at + 2) l n
      → t ≡ unary at (get_or b (at + 1) 0) l → Stands ed levels stages own b at t n
  a_binary : get_or b at 0 ≡ 4 → at + 1 < length b → (l : Expr) (m : ℕ) (r : Expr) → OperandAt ed levels stages own b (at + 2) l m → OperandAt ed levels stages own b m r n
      → t ≡ binary at (get_or b (at + 1) 0) l r → Stands ed levels stages own b at t n

-- a literal of this head with these components
abbrev literal_with : LiteralHead → List ℕ → ℕ → Literal
literal_with h comps n = record { value = record { ty = h.ty; cols = h.cols; rows = h.rows; comps = comps }; next = n }

module _ (ed : Edition) where
  pub literal_holds : (setting : Bool) (b : List ℕ) (at : ℕ) (v : Instance) (n : ℕ) → read_literal ed setting b at ≡ found v n → LiteralThere ed setting b at v n
  unfolding read_literal
  literal_holds setting b at v n e =
      let a = must_found _ _ _ _ v n e in
      let c = must_found _ _ _ _ v n a.1 in
      let d = must_found _ _ _ _ v n c.1 in
      let f = must_found _ _ _ _ v n d.1 in
      let g : found (literal_value b at) (literal_end b at) ≡ found v n = f.1 in
      record { head = leb-true _ _ a.0; shape = c.0; whole = leb-true _ _ d.0; value = cc; next = cc }

  -- ---- a node that was accepted: a level was left, and its tag is there
  module _ (levels : ℕ) (stages : List ℕ) (own : ℕ) (b : List ℕ) (at : ℕ) (t : Expr) (n : ℕ) (e : read_node ed levels stages own b at ≡ found t n) where
    pub some_level : levels ≡ 0 → ⊥
    unfolding read_node
    some_level q = never No.TooDeep at t n (sym (ap (λ (k : ℕ). read_node ed k stages own b at) q) ∙ e)

    opened : (there b at 1 ≡ true) × (on_tag ed (tag_of (get_or b at 0)) (read_node ed (levels - 1) stages own b) stages own b at ≡ found t n)
    opened = must_found _ _ _ _ t n (sym (open_node ed levels stages own b at some_level) ∙ e)

    pub tag_there : at < length b
    tag_there = omega (arith, leb-true (at + 1) (length b) opened.0)

    pub node_ends : (at < n) × (n ≤ length b)
    unfolding Within
    node_ends = rw e at (within_node ed levels stages own b at (omega (arith, tag_there)))

    tagged : (g : Tag) → tag_of (get_or b at 0) ≡ g → on_tag ed g (read_node ed (levels - 1) stages own b) stages own b at ≡ found t n
    tagged g q = ap (λ (h : Tag). on_tag ed h (read_node ed (levels - 1) stages own b) stages own b at) (sym q) ∙ opened.1

    pub tag_four : (get_or b at 0 ≡ 1 → ⊥) → (get_or b at 0 ≡ 2 → ⊥) → (get_or b at 0 ≡ 3 → ⊥) → get_or b at 0 ≡ 4
    unfolding on_tag
    tag_four x y z = go (eqb (get_or b at 0) 4) refl
      where
        go : (g : Bool) → eqb (get_or b at 0) 4 ≡ g → get_or b at 0 ≡ 4
        go true q = eqb-true (get_or b at 0) 4 q
        go false q = absurd (never No.BadNode at t n (tagged unknown (tag_unknown (get_or b at 0) x y z (eqb-false (get_or b at 0) 4 q))))

    pub literal_read : get_or b at 0 ≡ 1 → (v : Instance) × (read_literal ed false b at ≡ found v n) × (t ≡ literal v)
    unfolding on_tag tag_of
    literal_read q = as_found literal (read_literal ed false b at) t n (tagged is_literal (ap tag_of q))

    pub literal_there : get_or b at 0 ≡ 1 → (v : Instance) × (t ≡ literal v) × (literal_in (read_literal ed false b at) ≡ record { value = v; next = n })
    unfolding literal_in
    literal_there q = let w = literal_read q in (w.0, w.2, rw w.1)

    pub reference_there : get_or b at 0 ≡ 2 → (at + 1 < length b) × (get_or b (at + 1) 0 < length stages) × (t ≡ reference (get_or b (at + 1) 0)) × (n ≡ at + 2)
    unfolding on_tag tag_of read_reference
    reference_there q =
        let a = must_found _ _ _ _ t n (tagged is_reference (ap tag_of q)) in
        let c = must_found _ _ _ _ t n a.1 in
        let d = must_found _ _ _ _ t n c.1 in
        let f : found (reference (get_or b (at + 1) 0)) (at + 2) ≡ found t n = d.1 in
        (omega (arith, leb-true (at + 2) (length b) a.0), ltb-true _ _ c.0, cc, cc)

    operands_there : (two : Bool) → tag_of (get_or b at 0) ≡ is_operator two
        → (at + 1 < length b) × (operands two at (get_or b (at + 1) 0) (read_node ed (levels - 1) stages own b) (at + 2) ≡ found t n)
    unfolding on_tag read_operator
    operands_there two q =
        let a = must_found _ _ _ _ t n (tagged (is_operator two) q) in
        let c = must_found _ _ _ _ t n a.1 in
        (omega (arith, leb-true (at + 2) (length b) a.0), c.1)

    pub one_there : get_or b at 0 ≡ 3 → (at + 1 < length b) × ((l : Expr) × (read_node ed (levels - 1) stages own b (at + 2) ≡ found l n) × (t ≡ unary at (get_or b (at + 1) 0) l))
    unfolding tag_of operands
    one_there q =
        let a = operands_there false (ap tag_of q) in
        (a.0, as_found (unary at (get_or b (at + 1) 0)) (read_node ed (levels - 1) stages own b (at + 2)) t n a.1)

    pub two_there : get_or b at 0 ≡ 4 → (at + 1 < length b)
        × ((l : Expr) × (m : ℕ) × (r : Expr) × OperandAt ed levels stages own b (at + 2) l m × OperandAt ed levels stages own b m r n × (t ≡ binary at (get_or b (at + 1) 0) l r))
    unfolding tag_of operands
    two_there q =
        let a = operands_there true (ap tag_of q) in
        let c = then_found _ _ t n a.1 in
        let d = as_found _ _ t n c.3 in
        (a.0, (c.0, c.1, d.0, c.2, d.1, d.2))

  pub stands : (levels : ℕ) (stages : List ℕ) (own : ℕ) (b : List ℕ) (at : ℕ) (t : Expr) (n : ℕ) → read_node ed levels stages own b at ≡ found t n
      → Stands ed levels stages own b at t n
  stands levels stages own b at t n e = go (eqb (get_or b at 0) 1) (eqb (get_or b at 0) 2) (eqb (get_or b at 0) 3) refl refl refl
    where
      go : (x y z : Bool) → eqb (get_or b at 0) 1 ≡ x → eqb (get_or b at 0) 2 ≡ y → eqb (get_or b at 0) 3 ≡ z → Stands ed levels stages own b at t n
      go true y z p q r =
          let w = literal_read levels stages own b at t n e (eqb-true _ _ p) in
          a_literal (eqb-true _ _ p) w.0 w.2 (literal_holds false b at w.0 n w.1)
      go false true z p q r =
          let w = reference_there levels stages own b at t n e (eqb-true _ _ q) in
          a_reference (eqb-true _ _ q) w.0 w.1 w.2 w.3
      go false false true p q r =
          let w = one_there levels stages own b at t n e (eqb-true _ _ r) in
          a_unary (eqb-true _ _ r) w.0 w.1.0 w.1.1 w.1.2
      go false false false p q r =
          let f = tag_four levels stages own b at t n e (eqb-false _ _ p) (eqb-false _ _ q) (eqb-false _ _ r) in
          let w = two_there levels stages own b at t n e f in
          a_binary f w.0 w.1.0 w.1.1 w.1.2 w.1.3 w.1.4 w.1.5

  -- ---- a literal that was accepted, as the code that loads it goes: h is its head, k its number of components
  module _ (b : List ℕ) (at : ℕ) (v : Instance) (n : ℕ) (e : read_literal ed false b at ≡ found v n) where
    it : LiteralThere ed false b at v n
    it = literal_holds false b at v n e

    pub loads_head : at + 4 ≤ length b
    loads_head = it.head

    module _ (h : LiteralHead) (i : h ≡ literal_head b at) (k : ℕ) (j : k ≡ h.cols * h.rows) where
      counted : k ≡ literal_count b at
      counted = j ∙ ap (λ (x : LiteralHead). x.cols * x.rows) i

      pub loads_fits : (k ≤ 16) × (at + 4 + 8 * k ≤ length b)
      loads_fits = (omega (arith, counted, literal_small ed false (literal_head b at) it.shape), omega (arith, counted, it.whole))

      pub is_loaded : (comps : List ℕ) → comps ≡ loaded h.ty k b (at + 4) → literal_with h comps (at + 4 + 8 * k) ≡ literal_in (read_literal ed false b at)
      unfolding literal_in
      is_loaded comps f =
          ap (λ (x : List ℕ). literal_with h x (at + 4 + 8 * k)) f
          ∙ ap (λ (x : LiteralHead). literal_with x (loaded x.ty k b (at + 4)) (at + 4 + 8 * k)) i
          ∙ ap (λ (x : ℕ). literal_with (literal_head b at) (loaded (get_or b (at + 1) 0) x b (at + 4)) (at + 4 + 8 * x)) counted
          ∙ ap (λ (x : ℕ). record { value = literal_value b at; next = x }) (sym it.next)
          ∙ ap (λ (x : Instance). record { value = x; next = n }) (sym it.value)
          ∙ sym (ap literal_in e)
