-- Arithmetic that wraps, over the width: an operation on the bits of two numbers gives the bits of the wrapped result. Assumes nothing.
use Rattle.std.proofs.Common.{◌≡◌, ℕ, suc, ◌+◌, ◌-◌, ◌*◌, ◌%◌, ◌^◌, ◌<◌, ℤ, pos, negsuc, ◌+ℤ◌, ◌-ℤ◌, ◌*ℤ◌, neg_ℤ, sym, refl, ap, ◌∙◌, ap₂, mod-eq_of_lt, mod-lt, arith, pow_pos, Fits, SFits, to_z, of_z}
use lib.IntN.{ -ℤ-+ℤ_cancel, +ℤ_idl}
use native.Mathlib.Nat.{mod-add-mod, add-mul-mod_self_right}
use Rattle.std.specs.Int.{int_wrapping_neg}
use mir.Syntax.{Width}
use mir.Val.{bits}
use mir.ValLaws.{to_z-of_z, to_z-Fits, to_z_pos, to_z-neg, half_full}
use Rattle.integer.specs.Wrap.{mod_z, wrap_u, wrap_s, not_z}
use Rattle.integer.proofs.Equal.{zero_fits}
use Rattle.integer.proofs.Residue.{mod_z_add, mod_z_mul, mod_z_lt, cancel}

-- a number of the width's range has its bits
pub bits_wrap : (w : Width) (z : ℤ) → SFits w z → of_z w z ≡ wrap_u w z
unfolding wrap_u
bits_wrap w (pos n) f = sym (mod-eq_of_lt (half_full w f.sfits))
bits_wrap w (negsuc n) f = e (2 ^ bits w) (n % 2 ^ bits w) (mod-eq_of_lt (half_full w f.sfits))
  where
    e : (m r : ℕ) → r ≡ n → m - suc n ≡ (m - 1) - r
    e m r q = omega arith

-- and is itself, wrapped
pub wrap_fits : (w : Width) (z : ℤ) → SFits w z → wrap_s w z ≡ z
unfolding wrap_s
wrap_fits w z f = ap (to_z w) (sym (bits_wrap w z f)) ∙ to_z-of_z w z f

pub wrap_u_fits : (w : Width) (z : ℤ) → Fits w (wrap_u w z)
unfolding wrap_u
wrap_u_fits w z = record { fits = mod_z_lt (2 ^ bits w) (pow_pos (bits w)) z }

pub wrap_u_pos : (w : Width) (n : ℕ) → n % 2 ^ bits w ≡ wrap_u w (pos n)
unfolding wrap_u
wrap_u_pos w n = refl

-- an operation that depends on its operands' residues alone
abbrev pub Respects : Width → (ℤ → ℤ → ℤ) → Type 0
Respects w op = (x y : ℤ) → wrap_u w (op (pos (wrap_u w x)) (pos (wrap_u w y))) ≡ wrap_u w (op x y)

pub respects_add : (w : Width) → Respects w ◌+ℤ◌
unfolding wrap_u
respects_add w x y = sym (mod_z_add (2 ^ bits w) (pow_pos (bits w)) x y)

pub respects_mul : (w : Width) → Respects w ◌*ℤ◌
unfolding wrap_u
respects_mul w x y = sym (mod_z_mul (2 ^ bits w) (pow_pos (bits w)) x y)

-- the difference is what, with y added, wraps to x
pub wrap_sub : (w : Width) (x y : ℤ) (r : ℕ) → Fits w r → (r + wrap_u w y) % 2 ^ bits w ≡ wrap_u w x → r ≡ wrap_u w (x -ℤ y)
unfolding wrap_u
wrap_sub w x y r l e =
    cancel (2 ^ bits w) r (mod_z (2 ^ bits w) (x -ℤ y)) (mod_z (2 ^ bits w) y) l.fits (mod_z_lt (2 ^ bits w) (pow_pos (bits w)) (x -ℤ y))
    (e ∙ ap (mod_z (2 ^ bits w)) (sym (-ℤ-+ℤ_cancel x y)) ∙ mod_z_add (2 ^ bits w) (pow_pos (bits w)) (x -ℤ y) y)

small : (w : Width) (n : ℕ) → Fits w n → wrap_u w (pos n) ≡ n
unfolding wrap_u
small w n f = mod-eq_of_lt f.fits

-- the same of unsigned numbers: what `wrapping_sub` promises
pub wrap_sub_pos : (w : Width) (x y r : ℕ) → Fits w x → Fits w y → Fits w r → (r + y) % 2 ^ bits w ≡ x → r ≡ wrap_u w (pos x -ℤ pos y)
wrap_sub_pos w x y r f g l e = wrap_sub w (pos x) (pos y) r l (ap (λ (b : ℕ). (r + b) % 2 ^ bits w) (small w y g) ∙ e ∙ sym (small w x f))

pub respects_sub : (w : Width) → Respects w ◌-ℤ◌
respects_sub w x y = wrap_sub w x y (wrap_u w d) (wrap_u_fits w d) back
  where
    a : ℤ
    a = pos (wrap_u w x)

    b : ℤ
    b = pos (wrap_u w y)

    d : ℤ
    d = pos (wrap_u w x) -ℤ pos (wrap_u w y)

    back : (wrap_u w d + wrap_u w y) % 2 ^ bits w ≡ wrap_u w x
    back =
        wrap_u_pos w (wrap_u w d + wrap_u w y)
        ∙ ap (λ (v : ℕ). wrap_u w (pos (wrap_u w d + v))) (sym (small w (wrap_u w y) (wrap_u_fits w y)))
        ∙ respects_add w d b ∙ ap (wrap_u w) (-ℤ-+ℤ_cancel a b) ∙ small w (wrap_u w x) (wrap_u_fits w x)

-- a wrapped number is read back from its bits
pub wrap_back : (w : Width) (z : ℤ) → to_z w (of_z w (wrap_s w z)) ≡ wrap_s w z
unfolding wrap_s
wrap_back w z = to_z-of_z w (to_z w (wrap_u w z)) (to_z-Fits w (wrap_u w z) (wrap_u_fits w z))

-- ---- what std's methods that wrap make of the bits of two numbers
bits_fit : (w : Width) (x : ℤ) → SFits w x → Fits w (of_z w x)
bits_fit w x f = rw (bits_wrap w x f) (wrap_u_fits w x)

of_operation : (w : Width) (op : ℤ → ℤ → ℤ) → Respects w op → (x y : ℤ) (s : ℕ) → SFits w x → SFits w y → s ≡ wrap_u w (op (pos (of_z w x)) (pos (of_z w y))) → to_z w s ≡ wrap_s w (op x y)
unfolding wrap_s
of_operation w op h x y s f g e = ap (to_z w) (e ∙ ap₂ (λ (a b : ℕ). wrap_u w (op (pos a) (pos b))) (bits_wrap w x f) (bits_wrap w y g) ∙ h x y)

pub wrapping_sub_u : (w : Width) (x y : ℕ) → Fits w x → Fits w y → (x + (2 ^ bits w - y)) % 2 ^ bits w ≡ wrap_u w (pos x -ℤ pos y)
wrapping_sub_u w x y f g = wrap_sub_pos w x y ((x + (2 ^ bits w - y)) % 2 ^ bits w) f g (record { fits = mod-lt (x + (2 ^ bits w - y)) (pow_pos (bits w)) }) back
  where
    again : (m : ℕ) → y < m → x + (m - y) + y ≡ x + 1 * m
    again m h = omega arith

    back : ((x + (2 ^ bits w - y)) % 2 ^ bits w + y) % 2 ^ bits w ≡ x
    back =
        mod-add-mod (x + (2 ^ bits w - y)) (2 ^ bits w) y
        ∙ ap (λ (v : ℕ). v % 2 ^ bits w) (again (2 ^ bits w) g.fits)
        ∙ add-mul-mod_self_right x 1 (2 ^ bits w) ∙ mod-eq_of_lt f.fits

module _ (w : Width) (x y : ℤ) (f : SFits w x) (g : SFits w y) where
  pub wrapping_add : to_z w ((of_z w x + of_z w y) % 2 ^ bits w) ≡ wrap_s w (x +ℤ y)
  wrapping_add = of_operation w ◌+ℤ◌ (respects_add w) x y _ f g (wrap_u_pos w (of_z w x + of_z w y))

  pub wrapping_sub : to_z w ((of_z w x + (2 ^ bits w - of_z w y)) % 2 ^ bits w) ≡ wrap_s w (x -ℤ y)
  wrapping_sub = of_operation w ◌-ℤ◌ (respects_sub w) x y _ f g (wrapping_sub_u w (of_z w x) (of_z w y) (bits_fit w x f) (bits_fit w y g))

  -- and of a product that was called, on numbers that are read back from their bits
  pub multiplied : {r : ℤ} → r ≡ wrap_s w (to_z w (of_z w x) *ℤ to_z w (of_z w y)) → to_z w (of_z w r) ≡ wrap_s w (x *ℤ y)
  multiplied {r} e =
      ap (λ (z : ℤ). to_z w (of_z w z)) (e ∙ ap₂ (λ (a b : ℤ). wrap_s w (a *ℤ b)) (to_z-of_z w x f) (to_z-of_z w y g)) ∙ wrap_back w (x *ℤ y)

pub wrapping_neg : (w : Width) (x : ℤ) → SFits w x → int_wrapping_neg w x ≡ wrap_s w (neg_ℤ x)
wrapping_neg w x f = ap (λ (n : ℕ). to_z w (n % 2 ^ bits w)) (none_more (2 ^ bits w - of_z w x)) ∙ wrapping_sub w (pos 0) x (zero_fits w) f ∙ ap (wrap_s w) (+ℤ_idl (neg_ℤ x))
  where
    none_more : (n : ℕ) → n ≡ 0 + n
    none_more n = omega arith

-- the same of a negation that was called, on a number that is read back from its bits
pub negated : (w : Width) (x : ℤ) {r : ℤ} → SFits w x → r ≡ int_wrapping_neg w (to_z w (of_z w x)) → to_z w (of_z w r) ≡ wrap_s w (neg_ℤ x)
negated w x {r} f e =
    ap (λ (z : ℤ). to_z w (of_z w z)) (e ∙ ap (int_wrapping_neg w) (to_z-of_z w x f) ∙ wrapping_neg w x f) ∙ wrap_back w (neg_ℤ x)

-- ---- r has the bits s that the operation makes of a and b, the bits of x and y that are read back from them
bits_seen : (w : Width) {x : ℤ} {a : ℕ} → SFits w x → a ≡ of_z w (to_z w (of_z w x)) → a ≡ wrap_u w x
bits_seen w {x} f p = p ∙ ap (of_z w) (to_z-of_z w x f) ∙ bits_wrap w x f

read_wrapped : (w : Width) (z r : ℤ) (s : ℕ) → s ≡ wrap_u w z → r ≡ to_z w s → to_z w (of_z w r) ≡ wrap_s w z
unfolding wrap_s
read_wrapped w z r s t e = ap (λ (x : ℤ). to_z w (of_z w x)) e ∙ to_z-of_z w (to_z w s) (to_z-Fits w s (rw t (wrap_u_fits w z))) ∙ ap (to_z w) t

pub wrapped_is : (w : Width) (op : ℤ → ℤ → ℤ) → Respects w op → {x y r : ℤ} {a b s : ℕ} → SFits w x → SFits w y
    → a ≡ of_z w (to_z w (of_z w x)) → b ≡ of_z w (to_z w (of_z w y)) → s ≡ wrap_u w (op (pos a) (pos b)) → r ≡ to_z w s → to_z w (of_z w r) ≡ wrap_s w (op x y)
wrapped_is w op h {x} {y} {r} {a} {b} {s} f g p q t e =
    read_wrapped w (op x y) r s (t ∙ ap₂ (λ (a b : ℕ). wrap_u w (op (pos a) (pos b))) (bits_seen w f p) (bits_seen w g q) ∙ h x y) e
