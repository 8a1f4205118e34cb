-- Laws of the walk: what stands below a node that was accepted, and what the node means.
use mathlib.Core.Path.{◌≡◌, refl, sym, ap, ap₂, ◌∙◌}
use mathlib.Core.List.Memᴰ
use mathlib.Core.List.{List, Memᴰ}
use mathlib.Core.Bool.{Bool, true, false}
use Prim.Native.Nat.{ℕ, ◌+◌, ◌-◌, ◌<◌, ◌≤◌}
use native.Mathlib.Omega.{arith}
use lib.Dec.{eqb}
use lib.ListN.{length, get_or}
use Rattle.operand.specs.declared.Outcome.{Outcome}
use Rattle.operand.specs.Outcome.{value_of}
use Rattle.slot.specs.Slot.{slot, reference_to}
use Rattle.sheet.specs.declared.Literal.{Literal}
use Rattle.low.specs.Read.{found}
use Rattle.sheet.specs.Tree.{Expr, literal, reference, unary, binary, Entry, setting, expression, names, names_of}
use Rattle.sheet.specs.Node.{read_node, read_literal, literal_in}
use Rattle.sheet.proofs.Inverse.{literal_read, tag_there, tag_four, node_ends, literal_there, reference_there, one_there, two_there}
use Rattle.work.specs.declared.Walked.{Walked}
use Rattle.work.specs.Meaning.{on_one, on_two, meaning, entry_meaning}
use Rattle.sheet.specs.Accepted.{Parsed, NodeAt, LiteralAt}
use Rattle.work.specs.Inside.{NodeMeans, tag_byte}
use Rattle.types.specs.Edition.{Edition}

-- ---- a refusal ends a node, the left one first
module _ (op stage : ℕ) (l r : Outcome) where
  pub left_ends : eqb l.status 0 ≡ false → l ≡ on_two op stage l r
  unfolding on_two
  left_ends q = rw q

  pub right_ends : eqb l.status 0 ≡ true → eqb r.status 0 ≡ false → r ≡ on_two op stage l r
  unfolding on_two
  right_ends q h = rw (q, h)

module _ (ed : Edition) where
  -- ---- what stands below a node
  module _ (b : List ℕ) (at : ℕ) (t : Expr) (n : ℕ) (p : Parsed ed b at t n) where
    pub starts : at < length b
    starts = tag_there ed p.levels p.stages p.own b at t n p.read

    ends : (at < n) × (n ≤ length b)
    ends = node_ends ed p.levels p.stages p.own b at t n p.read

    pub four : (get_or b at 0 ≡ 1 → ⊥) → (get_or b at 0 ≡ 2 → ⊥) → (get_or b at 0 ≡ 3 → ⊥) → get_or b at 0 ≡ 4
    four = tag_four ed p.levels p.stages p.own b at t n p.read

    pub literal_stands : get_or b at 0 ≡ 1 → LiteralAt ed b at
    literal_stands q =
        let w = literal_read ed p.levels p.stages p.own b at t n p.read q in
        record { value = w.0; next = n; read = w.1 }

    pub reference_fits : get_or b at 0 ≡ 2 → at + 1 < length b
    reference_fits q = (reference_there ed p.levels p.stages p.own b at t n p.read q).0

    -- the node below, by the same stages and one level less
    below : (a : ℕ) (l : Expr) (m : ℕ) → read_node ed (p.levels - 1) p.stages p.own b a ≡ found l m → Parsed ed b a l m
    below a l m e = record { levels = p.levels - 1; stages = p.stages; own = p.own; read = e }

    one_below : get_or b at 0 ≡ 3 → (at + 1 < length b) × ((l : Expr) × Parsed ed b (at + 2) l n × (t ≡ unary at (get_or b (at + 1) 0) l))
    one_below q =
        let w = one_there ed p.levels p.stages p.own b at t n p.read q in
        (w.0, (w.1.0, below (at + 2) w.1.0 n w.1.1, w.1.2))

    two_below : get_or b at 0 ≡ 4 → (at + 1 < length b) × ((l : Expr) × (m : ℕ) × (r : Expr) × Parsed ed b (at + 2) l m × Parsed ed b m r n × (t ≡ binary at (get_or b (at + 1) 0) l r))
    two_below q =
        let w = two_there ed p.levels p.stages p.own b at t n p.read q in
        (w.0, (w.1.0, w.1.1, w.1.2, below (at + 2) w.1.0 w.1.1 w.1.3, below w.1.1 w.1.2 n w.1.4, w.1.5))

  module _ (b : List ℕ) (at : ℕ) (s : NodeAt ed b at) where
    pub operator_there : (two : Bool) → get_or b at 0 ≡ tag_byte two → at + 1 < length b
    operator_there false q = (one_below b at s.tree s.next s.parsed q).0
    operator_there true q = (two_below b at s.tree s.next s.parsed q).0

    pub first_stands : (two : Bool) → get_or b at 0 ≡ tag_byte two → NodeAt ed b (at + 2)
    first_stands false q =
        let w = (one_below b at s.tree s.next s.parsed q).1 in
        record { tree = w.0; next = s.next; parsed = w.1 }
    first_stands true q =
        let w = (two_below b at s.tree s.next s.parsed q).1 in
        record { tree = w.0; next = w.1; parsed = w.3 }

    module _ (stage : ℕ) (results : List ℕ) (q : get_or b at 0 ≡ 4) (first : Walked) (h : NodeMeans ed stage b results (at + 2) first) where
      second_at : (m : ℕ) → first.next ≡ m → NodeAt ed b m → NodeAt ed b first.next
      second_at m e x = rw e x

      pub second_stands : NodeAt ed b first.next
      unfolding NodeMeans
      second_stands =
          let w = (two_below b at s.tree s.next s.parsed q).1 in
          second_at w.1 (h w.0 w.1 w.3).1 (record { tree = w.2; next = s.next; parsed = w.4 })

      pub second_later : at + 2 < first.next
      unfolding NodeMeans
      second_later =
          let w = (two_below b at s.tree s.next s.parsed q).1 in
          omega (arith, (h w.0 w.1 w.3).1, (ends b (at + 2) w.0 w.1 w.3).0)

  -- ---- what a node means, from what the walk found
  module _ (stage : ℕ) (b results : List ℕ) (at : ℕ) (r : Walked) where
    pub literal_means : get_or b at 0 ≡ 1 → (r.answer ≡ value_of (literal_in (read_literal ed false b at)).value) × (r.next ≡ (literal_in (read_literal ed false b at)).next)
        → NodeMeans ed stage b results at r
    unfolding NodeMeans meaning
    literal_means q e = λ t n p.
        let w = literal_there ed p.levels p.stages p.own b at t n p.read q in
        (e.0 ∙ ap (λ (x : Literal). value_of x.value) w.2 ∙ sym (ap (meaning ed stage results) w.1), e.1 ∙ ap (λ (x : Literal). x.next) w.2)

    pub reference_means : get_or b at 0 ≡ 2 → (r.answer ≡ reference_to ed results (get_or b (at + 1) 0)) × (r.next ≡ at + 2) → NodeMeans ed stage b results at r
    unfolding NodeMeans meaning
    reference_means q e = λ t n p.
        let w = reference_there ed p.levels p.stages p.own b at t n p.read q in
        (e.0 ∙ sym (ap (meaning ed stage results) w.2), e.1 ∙ sym w.3)

    module _ (first : Walked) (h : NodeMeans ed stage b results (at + 2) first) where
      pub one_means : get_or b at 0 ≡ 3 → r.answer ≡ on_one (get_or b (at + 1) 0) stage first.answer → r.next ≡ first.next → NodeMeans ed stage b results at r
      unfolding NodeMeans meaning
      one_means q v e = λ t n p.
          let w = (one_below b at t n p q).1 in
          let f = h w.0 n w.1 in
          (v ∙ ap (on_one (get_or b (at + 1) 0) stage) f.0 ∙ sym (ap (meaning ed stage results) w.2), e ∙ f.1)

      pub two_means : get_or b at 0 ≡ 4 → (second : Walked) → NodeMeans ed stage b results first.next second
          → r.answer ≡ on_two (get_or b (at + 1) 0) stage first.answer second.answer → r.next ≡ second.next → NodeMeans ed stage b results at r
      unfolding NodeMeans meaning
      two_means q second h' v e = λ t n p.
          let w = (two_below b at t n p q).1 in
          let f = h w.0 w.1 w.3 in
          let g = h' w.2 n (rw f.1 w.4) in
          (v ∙ ap₂ (on_two (get_or b (at + 1) 0) stage) f.0 g.0 ∙ sym (ap (meaning ed stage results) w.5), e ∙ g.1)

  -- ---- a meaning ed looks only at the slots of the entries that it names
  module _ (l r : List ℕ) where
    reference_same : (k : ℕ) → slot l k ≡ slot r k → reference_to ed l k ≡ reference_to ed r k
    unfolding reference_to
    reference_same k e = rw e

    meaning_same : (stage : ℕ) (t : Expr) → ((j : ℕ) → Memᴰ j (names t) → slot l j ≡ slot r j) → meaning ed stage l t ≡ meaning ed stage r t
    unfolding names meaning
    meaning_same stage (literal v) f = refl
    meaning_same stage (reference k) f = reference_same k (f k (Memᴰ.head refl))
    meaning_same stage (unary place op t) f = ap (on_one op stage) (meaning_same stage t f)
    meaning_same stage (binary place op x y) f =
        ap₂ (on_two op stage) (meaning_same stage x (λ j u. f j (Memᴰ.append_left (names y) u))) (meaning_same stage y (λ j u. f j (Memᴰ.append_right (names x) u)))

    pub entry_same : (e : Entry) → ((j : ℕ) → Memᴰ j (names_of e) → slot l j ≡ slot r j) → entry_meaning ed l e ≡ entry_meaning ed r e
    unfolding names_of entry_meaning
    entry_same (setting v) f = refl
    entry_same (expression stage t) f = meaning_same stage t f
