-- What a test picks, and what a table gives past its keys. Assumes nothing.
use Prim.Native.Nat.{ℕ, zero, suc, ◌+◌, ◌<◌, ◌≤◌}
use mathlib.Core.Path.{◌≡◌, refl, sym, ap}
use mathlib.Core.Bool.{Bool, true, false}
use mathlib.Core.List.{List, ◌∷◌}
use mathlib.Core.Logic.{◌⊎◌, inl, inr}
use native.Mathlib.Omega.{arith}
use lib.ListN.{length, get_or, get_or-eq_default}
use Rattle.integer.specs.Range.{pick}

module _ {A : Type 0} {t : Bool} (a b : A) where
  pub picked : t ≡ true → a ≡ pick t a b
  picked e = sym (ap (λ (t : Bool). pick t a b) e)

  pub passed : t ≡ false → b ≡ pick t a b
  passed e = sym (ap (λ (t : Bool). pick t a b) e)

-- i is none of n keys from a on, as a match leaves it
abbrev pub Misses : ℕ → ℕ → ℕ → Type 0
Misses a zero i = Unit {0}
Misses a (suc n) i = Misses a n i × (i ≡ a + n → ⊥)

outside : (a n i : ℕ) → Misses a n i → (i < a) ⊎ (a + n ≤ i)
outside zero zero i m = inr (omega arith)
outside (suc a) zero zero m = inl (omega arith)
outside (suc a) zero (suc i) m = elim (outside a zero i tt) [ inl h ↦ inl (omega arith) | inr h ↦ inr (omega arith) ]
outside a (suc n) i m = elim (outside a n i m.0) [ inl h ↦ inl h | inr h ↦ inr (omega (arith, m.1)) ]

module _ {A : Type 0} (l : List A) (d : A) where
  pub past_all : (i : ℕ) → Misses 0 (length l) i → d ≡ get_or l i d
  past_all i m = elim (outside 0 (length l) i m) [ inl h ↦ absurd (omega arith) | inr h ↦ sym (get_or-eq_default l d {n = i} (omega arith)) ]

  pub past_one : (i : ℕ) → Misses 1 (length l) i → d ≡ get_or (d ∷ l) i d
  past_one zero m = refl
  past_one (suc i) m = elim (outside 1 (length l) (suc i) m) [ inl h ↦ absurd (omega arith) | inr h ↦ sym (get_or-eq_default l d {n = i} (omega arith)) ]
