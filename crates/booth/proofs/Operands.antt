-- When bytes are an operand, and when they are a scalar.
use Prim.Native.Nat.{ℕ, ◌+◌, ◌*◌, ◌≤◌}
use mathlib.Core.Path.{◌≡◌, refl, sym, ap, ◌∙◌}
use mathlib.Core.Bool.{Bool, true, false, ◌&&◌}
use mathlib.Core.List.{List, ◌∷◌}
use native.Mathlib.Omega.{arith}
use lib.Dec.{eqb, leb}
use lib.ListN.{length, get_or, replicate, length-take, length-drop}
use borrow.Author.Tests.{eq-eqb, ne_eqb, eqb-true, ltb-true, le-leb}
use Rattle.low.specs.Bytes.{whole, part, numbers}
use Rattle.low.proofs.Parts.{part_part, part_again}
use Rattle.low.proofs.Eights.{numbers_one, numbers_part}
use Rattle.types.specs.Types.{known_of}
use Rattle.value.specs.Pattern.{pick}
use Rattle.operand.specs.declared.Instance.{Instance}
use Rattle.operand.specs.Operand.{shape_ok, a_scalar}
use Rattle.low.proofs.Tests.{both}
use Rattle.booth.specs.Operand.{no_operand, operand_in, scalar_in}
use Rattle.std.specs.Prelude.{Option, Some, None}

module _ (b : List ℕ) (t c r : ℕ) (et : t ≡ get_or b 0 0) (ec : c ≡ get_or b 1 0) (er : r ≡ get_or b 2 0) (q : Bool) (s : q ≡ shape_ok t c r) where
  pub no_shape : q ≡ false → (x : Instance) → x ≡ no_operand → x ≡ operand_in b
  unfolding operand_in
  no_shape f x e = rw (← et, ← ec, ← er, ← s, f) e

  module _ (g : q ≡ true) where
    pub no_length : (n : ℕ) → n ≡ c * r → (length b ≡ 3 + 8 * n → ⊥) → (x : Instance) → x ≡ no_operand → x ≡ operand_in b
    unfolding operand_in
    no_length n a f x e = rw (← et, ← ec, ← er, ← s, g, ← a, ne_eqb (length b) (3 + 8 * n) f) e

    pub operand_there : (n : ℕ) → n ≡ c * r → length b ≡ 3 + 8 * n → (xs p : List ℕ) → xs ≡ numbers 16 p 0 → p ≡ part b 3 128
        → ◌≡◌ {A = Instance} (record { ty = t; cols = c; rows = r; comps = xs }) (operand_in b)
    unfolding operand_in
    operand_there n a l xs p e z = rw (← et, ← ec, ← er, ← s, g, ← a, eq-eqb (length b) (3 + 8 * n) l, e, z, numbers_part 16 b 3 128 0 (omega arith))

-- ---- scalars
-- the first three bytes are a known type, one column and one row
abbrev headed : List ℕ → Bool
headed b = known_of (get_or b 0 0) && eqb (get_or b 1 0) 1 && eqb (get_or b 2 0) 1

-- bytes of another length are no scalar
pub other_length : (b : List ℕ) → (length b ≡ 11 → ⊥) → None ≡ scalar_in b
unfolding scalar_in
other_length b f = rw (ne_eqb (length b) 11 f)

module _ (b : List ℕ) (l : length b ≡ 11) where
  -- k is the answer of the test of the type
  module _ (k : Bool) (q : k ≡ known_of (get_or b 0 0)) where
    tested : k && eqb (get_or b 1 0) 1 && eqb (get_or b 2 0) 1 ≡ headed b
    tested = ap (λ (x : Bool). x && eqb (get_or b 1 0) 1 && eqb (get_or b 2 0) 1) q

    -- nor are bytes of another type or shape
    pub other_head : (k && eqb (get_or b 1 0) 1 && eqb (get_or b 2 0) 1) ≡ false → None ≡ scalar_in b
    unfolding scalar_in
    other_head f = rw (eq-eqb (length b) 11 l, sym tested ∙ f)

    -- any others are one
    pub the_scalar : (k && eqb (get_or b 1 0) 1 && eqb (get_or b 2 0) 1) ≡ true → (x : ℕ) (p : List ℕ) → x ≡ whole (part p 0 8) → p ≡ part b 3 8
        → Some (get_or b 0 0, x) ≡ scalar_in b
    unfolding scalar_in
    the_scalar g x p e z = rw (eq-eqb (length b) 11 l, sym tested ∙ g, e, z, part_again b 3 8)

  -- the components in the bytes of a scalar are its pattern and fifteen zeros
  one_component : numbers 16 b 3 ≡ whole (part b 3 8) ∷ replicate 15 0
  unfolding part
  one_component =
      let n : length (part b 3 128) ≤ 8 = simp (length-take, length-drop) (omega arith) in
      sym (numbers_part 16 b 3 128 0 (omega arith)) ∙ sym (numbers_one (part b 3 128) n)
      ∙ ap (λ (s : List ℕ). whole s ∷ replicate 15 0) (part_part b 3 128 0 8 (omega arith))

  -- they are the operand of that type and pattern
  operand_one : headed b ≡ true → operand_in b ≡ a_scalar (get_or b 0 0) (whole (part b 3 8))
  unfolding operand_in
  operand_one h =
      let k = both (known_of (get_or b 0 0) && eqb (get_or b 1 0) 1) (eqb (get_or b 2 0) 1) h in
      let j = both (known_of (get_or b 0 0)) (eqb (get_or b 1 0) 1) k.0 in
      let t : leb (get_or b 0 0) 6 ≡ true = le-leb (get_or b 0 0) 6 (omega (arith, ltb-true (get_or b 0 0) 7 j.0)) in
      let c : get_or b 1 0 ≡ 1 = eqb-true _ _ j.1 in
      let r : get_or b 2 0 ≡ 1 = eqb-true _ _ k.1 in
      simp (c, r, j.0, t, l, one_component)

-- the operand in bytes that are a scalar
scalar_operand : (b : List ℕ) (t x : ℕ) → scalar_in b ≡ Some (t, x) → operand_in b ≡ a_scalar t x
unfolding scalar_in
scalar_operand b t x h = go (eqb (length b) 11) (headed b) refl refl h
  where
    go : (p q : Bool) → eqb (length b) 11 ≡ p → headed b ≡ q → pick {A = Option (ℕ × ℕ)} p (pick {A = Option (ℕ × ℕ)} q (Some (get_or b 0 0, whole (part b 3 8))) None) None ≡ Some (t, x)
        → operand_in b ≡ a_scalar t x
    go true true l k e =
        let same : ◌≡◌ {A = ℕ × ℕ} (get_or b 0 0, whole (part b 3 8)) (t, x) = cc in
        operand_one b (eqb-true (length b) 11 l) k ∙ ap (λ (p : ℕ × ℕ). a_scalar p.0 p.1) same
    go true false l k e = absurd (let y : ◌≡◌ {A = ℕ} 0 1 = cc in omega arith)
    go false q l k e = absurd (let y : ◌≡◌ {A = ℕ} 0 1 = cc in omega arith)

-- the same of bytes in which the code has found a scalar
pub scalar_found_lem : (b : List ℕ) (p : Option (ℕ × ℕ)) → p ≡ scalar_in b → (t x : ℕ) → p ≡ Some (t, x) → operand_in b ≡ a_scalar t x
scalar_found_lem b p e t x h = scalar_operand b t x (sym e ∙ h)
