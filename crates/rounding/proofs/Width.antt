-- What the bits of a rounded value tell: their width, and that no NaN but the kept one is among them. Assumes nothing.
use Rattle.std.proofs.Common.{◌≡◌, ℕ, suc, ◌+◌, ◌-◌, ◌*◌, ◌/◌, ◌%◌, ◌^◌, ◌<◌, ◌≤◌, min, Bool, true, false, cond, ◌⊎◌, sym, refl, ap, ◌∙◌, subst, inl, inr, le_of_eq, mod-eq_of_lt, suc-mul, mul_comm, zero-add, arith, pow_pos}
use native.Mathlib.Nat.{add-mod_left}
use lib.Ieee.{Float, nan, inf, fin, up, down}
use Rattle.rounding.specs.Kind.{Kind, least, round_to, convert}
use Rattle.rounding.specs.Bits.{hidden, full, signed, to_bits}
use Rattle.rounding.specs.Pack.{pack}
use Rattle.rounding.proofs.Units.{Sized}
use Rattle.rounding.proofs.Pack.{round_bits}

-- ---- the bits of a rounded value are a number of the format's width
pub under : (k : Kind) → Sized k → full k * hidden k + hidden k ≡ signed k
under k sized = sym (suc-mul (full k) (hidden k)) ∙ mul_comm (suc (full k)) (hidden k)

pub round_lt : (k : Kind) → Sized k → (s : Bool) (a b : ℕ) → to_bits k (round_to k s a b) < 2 * signed k
round_lt k sized s a b =
    subst (λ (y : ℕ). y < 2 * signed k) (sym (round_bits k sized s a b))
    (two s (pack k.digits (a * 2 ^ least k) b) (full k * hidden k) (hidden k) (signed k) (under k sized) (pow_pos (k.digits - 1)))
  where
    two : (s : Bool) (q a h t : ℕ) → a + h ≡ t → 0 < h → cond s t 0 + min q a < 2 * t
    two true q a h t e p = omega arith
    two false q a h t e p = omega arith

pub bits_lt : (k : Kind) → Sized k → (x : Float) → to_bits k (convert k x) < 2 * signed k
unfolding convert to_bits
bits_lt k sized nan = let e = under k sized in let h = pow_pos (k.digits - 1) in at (full k * hidden k) (hidden k) (signed k) e h
  where
    at : (a h s : ℕ) → a + h ≡ s → 0 < h → a + h / 2 < 2 * s
    at a h s e p = omega arith
bits_lt k sized (inf s) = two s (full k * hidden k) (hidden k) (signed k) (under k sized) (pow_pos (k.digits - 1))
  where
    two : (s : Bool) (a h t : ℕ) → a + h ≡ t → 0 < h → cond s t 0 + a < 2 * t
    two true a h t e p = omega arith
    two false a h t e p = omega arith
bits_lt k sized (fin s m e) = round_lt k sized s (m * up e) (down e)

pub drop_sign : (s : Bool) (t q : ℕ) → q < t → (cond s t 0 + q) % t ≡ q
drop_sign true t q h = add-mod_left t q ∙ mod-eq_of_lt h
drop_sign false t q h = ap (λ (x : ℕ). x % t) (zero-add q) ∙ mod-eq_of_lt h

-- ---- no other NaN pattern than the one kept: the bits of a rounded value are that one, or are without the sign at most the infinity's
pub kept_pattern : (k : Kind) → Sized k → (x : Float) → (to_bits k (convert k x) ≡ full k * hidden k + hidden k / 2) ⊎ (to_bits k (convert k x) % signed k ≤ full k * hidden k)
unfolding convert to_bits
kept_pattern k sized nan = inl refl
kept_pattern k sized (inf s) = inr (le_of_eq (drop_sign s (signed k) (full k * hidden k) (at (full k * hidden k) (hidden k) (signed k) (under k sized) (pow_pos (k.digits - 1)))))
  where
    at : (a h s : ℕ) → a + h ≡ s → 0 < h → a < s
    at a h s e p = omega arith
kept_pattern k sized (fin s m e) =
    let p = pack k.digits (m * up e * 2 ^ least k) (down e) in
    let w = full k * hidden k in
    inr (subst (λ (x : ℕ). x % signed k ≤ w) (sym (round_bits k sized s (m * up e) (down e)))
    (subst (λ (x : ℕ). x ≤ w) (sym (drop_sign s (signed k) (min p w) (at p w (hidden k) (signed k) (under k sized) (pow_pos (k.digits - 1))))) (cap p w)))
  where
    at : (p a h s : ℕ) → a + h ≡ s → 0 < h → min p a < s
    at p a h s e q = omega arith

    cap : (p w : ℕ) → min p w ≤ w
    cap p w = omega arith
