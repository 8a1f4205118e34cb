-- Quotients and remainders of signed numbers, over the width. Assumes nothing.
use mathlib.Core.Path.{◌≡◌, refl, sym, ap, ◌∙◌}
use mathlib.Core.Bool.{Bool, true, false, ◌&&◌, ◌||◌}
use Prim.Native.Nat.{ℕ, zero, suc, ◌-◌, ◌/◌, ◌^◌, ◌≤◌, ◌<◌, zero-le, suc-le-suc}
use native.Mathlib.Omega.{arith}
use native.Mathlib.Nat.{div-le_self, div-lt_self, div-one, le_of_suc-le-suc, lt_of_le_of_lt, lt_of_lt_of_le}
use Rattle.std.proofs.Common.{Option, Some, None, SomeIff}
use Rattle.std.specs.Int.{CanDivide}
use borrow.Author.Tests.{eqb-false, ne_eqb}
use lib.IntN.{ℤ, pos, negsuc, neg_ℤ}
use lib.Signed.{mag, quot_z, rem_z, mag_rem}
use mir.Syntax.{Width}
use mir.Val.{SFits, hbits, to_z, of_z}
use mir.ValLaws.{to_z-of_z, pow-bits, sfits_le}
use Rattle.integer.specs.Range.{pick, minimum}
use Rattle.integer.specs.Equal.{eq_z}
use Rattle.integer.proofs.Range.{found_unless}
use Rattle.quotient.specs.Quotient.{no_quotient}

or_l : (a b : Bool) → a || b ≡ false → a ≡ false
or_l true b e = e
or_l false b e = refl

module _ (w : Width) (x y : ℤ) (f : SFits w x) (g : SFits w y) (q : no_quotient w x y ≡ false) where
  divisor : zero < of_z w y
  divisor = go y g (or_l (eq_z y (pos 0)) (eq_z y (negsuc 0) && eq_z x (minimum w)) q)
    where
      go : (y : ℤ) → SFits w y → eq_z y (pos 0) ≡ false → zero < of_z w y
      go (pos n) g e = let h : n ≡ 0 → ⊥ = eqb-false n 0 e in pos_of h
        where
          pos_of : (n ≡ 0 → ⊥) → zero < n
          pos_of h = omega arith
      go (negsuc n) g e = omega (arith, g.sfits, pow-bits w)

mag_neg : (r a : ℕ) → r ≤ suc a → mag (neg_ℤ (pos r)) ≤ a
mag_neg zero a h = zero-le
mag_neg (suc r) a h = le_of_suc-le-suc h

pub quot_fits : (w : Width) (x y : ℤ) → SFits w x → SFits w y → no_quotient w x y ≡ false → SFits w (quot_z x y)
quot_fits w (pos a) (pos b) f g q = record { sfits = lt_of_le_of_lt (div-le_self a b) f.sfits }
quot_fits w (pos a) (negsuc b) f g q = record { sfits = lt_of_le_of_lt (mag_neg (a / suc b) a (omega (arith, div-le_self a (suc b)))) f.sfits }
quot_fits w (negsuc a) (pos b) f g q = record { sfits = lt_of_le_of_lt (mag_neg (suc a / b) a (div-le_self (suc a) b)) f.sfits }
quot_fits w (negsuc a) (negsuc zero) f g q = record { sfits = omega (arith, div-one (suc a), f.sfits, ne) }
  where
    ne : a ≡ 2 ^ hbits w - 1 → ⊥
    ne = eqb-false a (2 ^ hbits w - 1) q
quot_fits w (negsuc a) (negsuc (suc b)) f g q = record { sfits = lt_of_lt_of_le (div-lt_self (suc-le-suc zero-le) (suc-le-suc (suc-le-suc zero-le))) f.sfits }

-- what std's `checked_div` and `checked_rem` ask, and no more
can_divide : (w : Width) (x y : ℤ) → CanDivide w x y → no_quotient w x y ≡ false
can_divide w x (pos zero) c = absurd (none c.0)
  where
    none : zero < zero → ⊥
    none h = omega arith
can_divide w x (pos (suc b)) c = rw (ne_eqb (suc b) 0 (λ e. cc))
can_divide w (pos a) (negsuc zero) c = refl
can_divide w (pos a) (negsuc (suc b)) c = rw (ne_eqb (suc b) 0 (λ e. cc))
can_divide w (negsuc a) (negsuc zero) c = ne_eqb a (2 ^ hbits w - 1) ne
  where
    ne : a ≡ 2 ^ hbits w - 1 → ⊥
    ne e = omega (arith, div-one (suc a), c.1.sfits)
can_divide w (negsuc a) (negsuc (suc b)) c = rw (ne_eqb (suc b) 0 (λ e. cc))

-- as a function's needs have it: o is what std answered, on operands that are read back from their bits
pub quotient_found : (w : Width) (o : Option ℤ) (op : ℤ → ℤ → ℤ) (x y : ℤ) → SFits w x → SFits w y
    → SomeIff o (CanDivide w (to_z w (of_z w x)) (to_z w (of_z w y))) (op (to_z w (of_z w x)) (to_z w (of_z w y))) → o ≡ pick (no_quotient w x y) None (Some (op x y))
quotient_found w o op x y f g h =
    let k : SomeIff o (CanDivide w x y) (op x y) = rw (to_z-of_z w x f, to_z-of_z w y g) at h in
    found_unless o (op x y) (no_quotient w x y) k (λ q. (divisor w x y f g q, quot_fits w x y f g q)) (can_divide w x y)

-- the same of what a test t found, for any two answers
module _ (w : Width) (x y : ℤ) (f : SFits w x) (g : SFits w y) {t : Bool} (e : t ≡ no_quotient w (to_z w (of_z w x)) (to_z w (of_z w y))) where
  pub tested : {b : Bool} → t ≡ b → no_quotient w x y ≡ b
  tested q = rw (to_z-of_z w x f, to_z-of_z w y g) at (sym e ∙ q)

  pub quot_is : {A : Type 0} (none : A) (some : ℤ → A) → t ≡ false
      → some (to_z w (of_z w (quot_z (to_z w (of_z w x)) (to_z w (of_z w y))))) ≡ pick (no_quotient w x y) none (some (quot_z x y))
  quot_is none some q = rw (tested q, to_z-of_z w x f, to_z-of_z w y g) (ap some (to_z-of_z w (quot_z x y) (quot_fits w x y f g (tested q))))

  pub rem_is : {A : Type 0} (none : A) (some : ℤ → A) → t ≡ false
      → some (to_z w (of_z w (rem_z (to_z w (of_z w x)) (to_z w (of_z w y))))) ≡ pick (no_quotient w x y) none (some (rem_z x y))
  rem_is none some q = rw (tested q, to_z-of_z w x f, to_z-of_z w y g) (ap some (to_z-of_z w (rem_z x y) (sfits_le (mag_rem x y) f)))
