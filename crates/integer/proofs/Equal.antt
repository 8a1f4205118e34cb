-- Equal bits and equal numbers, over the width. Assumes nothing.
use Rattle.std.proofs.Common.{◌≡◌, ℕ, suc, ◌-◌, ◌^◌, Bool, true, false, eqb, ℤ, pos, negsuc, sym, refl, ap, ◌∙◌, pow_pos, SFits, to_z, of_z, eq-eqb, ne_eqb, eqb-true}
use borrow.Author.Tests.{eqb-false}
use mir.Syntax.{Width}
use mir.Val.{bits, hbits}
use mir.ValLaws.{to_z-of_z}
use Rattle.integer.specs.Equal.{eq_z}

-- equal bits, equal numbers
pub same_bits : (w : Width) (x y : ℤ) → SFits w x → SFits w y → of_z w x ≡ of_z w y → x ≡ y
same_bits w x y f g e = sym (to_z-of_z w x f) ∙ ap (to_z w) e ∙ to_z-of_z w y g

pub zero_fits : (w : Width) → SFits w (pos 0)
zero_fits w = record { sfits = pow_pos (hbits w) }

pub is_zero : (w : Width) (x : ℤ) → SFits w x → of_z w x ≡ 0 → x ≡ pos 0
is_zero w x f e = same_bits w x (pos 0) f (zero_fits w) e

pub eq_z_refl : (x : ℤ) → eq_z x x ≡ true
eq_z_refl (pos n) = eq-eqb n n refl
eq_z_refl (negsuc n) = eq-eqb n n refl

pub eq_z_no : (w : Width) (x y : ℤ) → SFits w x → SFits w y → (of_z w x ≡ of_z w y → ⊥) → eq_z x y ≡ false
eq_z_no w (pos a) (pos b) f g n = ne_eqb a b n
eq_z_no w (pos a) (negsuc b) f g n = refl
eq_z_no w (negsuc a) (pos b) f g n = refl
eq_z_no w (negsuc a) (negsuc b) f g n = ne_eqb a b (λ e. n (ap (λ (k : ℕ). 2 ^ bits w - suc k) e))

-- `==` on two signed numbers, which compares their bits
pub eq_bits : (w : Width) (x y : ℤ) → SFits w x → SFits w y → eqb (of_z w x) (of_z w y) ≡ eq_z x y
eq_bits w x y f g = go (eqb (of_z w x) (of_z w y)) refl
  where
    go : (t : Bool) → eqb (of_z w x) (of_z w y) ≡ t → t ≡ eq_z x y
    go true e = sym (eq_z_refl x) ∙ ap (eq_z x) (same_bits w x y f g (eqb-true (of_z w x) (of_z w y) e))
    go false e = sym (eq_z_no w x y f g (eqb-false (of_z w x) (of_z w y) e))
