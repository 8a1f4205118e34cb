-- An i64 rounded to a kind, by its sign and how far it is from 0. Assumes nothing.
use Rattle.std.proofs.Common.{◌≡◌, ℕ, ◌*◌, ◌^◌, ◌<◌, ◌≤◌, Bool, T, ℤ, pos, negsuc, nat_abs, sym, refl, ap, ◌∙◌, subst, w64, SFits, to_z, of_z, le-ltb}
use lib.Signed.{lt_z, nat_abs-le}
use lib.Ieee.{Float, Format, fits}
use lib.Ieee.Fits.{of_int-fits}
use mir.ValLaws.{to_z-of_z}
use Rattle.rounding.specs.Kind.{Kind, round_to, of_integer}
use Rattle.rounding.specs.Bits.{to_bits, signed}
use Rattle.rounding.proofs.Same.{of, of_int_is}
use Rattle.rounding.proofs.Units.{Sized}
use Rattle.rounding.proofs.Width.{round_lt}

by_sign : (k : Kind) (n : ℤ) → round_to k (lt_z n (pos 0)) (nat_abs n) 1 ≡ of_integer k n
unfolding of_integer
by_sign k (pos m) = ap (λ (b : Bool). round_to k b m 1) (le-ltb m 0 Prim.Native.Nat.zero-le)
by_sign k (negsuc m) = refl

-- from the bits r worked out for the sign and the magnitude m, as the code has them
pub integer_bits : (k : Kind) (n : ℤ) {m r : ℕ} → SFits w64 n → m ≡ nat_abs (to_z w64 (of_z w64 n)) → r ≡ to_bits k (round_to k (lt_z (to_z w64 (of_z w64 n)) (pos 0)) m 1)
    → r ≡ to_bits k (of_integer k n)
integer_bits k n f e q = q ∙ rw (e, to_z-of_z w64 n f) (ap (to_bits k) (by_sign k n))

-- that magnitude is at most the lowest i64's
pub integer_most : (n : ℤ) {m : ℕ} → SFits w64 n → m ≡ nat_abs (to_z w64 (of_z w64 n)) → m ≤ 2 ^ 63
integer_most n f e = subst (λ (x : ℕ). x ≤ 2 ^ 63) (sym (e ∙ ap nat_abs (to_z-of_z w64 n f))) (nat_abs-le n f.sfits)

pub integer_lt : (k : Kind) → Sized k → (n : ℤ) → to_bits k (of_integer k n) < 2 * signed k
integer_lt k sized n = subst (λ (x : Float). to_bits k x < 2 * signed k) (by_sign k n) (round_lt k sized (lt_z n (pos 0)) (nat_abs n) 1)

pub integer_fits : (f : Format) (n : ℤ) → T (fits f (of_integer (of f) n))
integer_fits f n = subst (λ (x : Float). T (fits f x)) (of_int_is f n) (of_int-fits f n)
