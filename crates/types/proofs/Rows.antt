-- Laws over the codes of the types. Assumes nothing.
use Prim.Native.Nat.{ℕ, zero, suc, ◌^◌, ◌<◌}
use mathlib.Core.Path.{◌≡◌, refl}
use mathlib.Core.Bool.{false, ◌||◌}
use native.Mathlib.Omega.{arith}
use lib.Dec.{eqb}
use borrow.Author.Tests.{ne_eqb}
use Rattle.types.specs.Types.{bools, signed_ints, unsigned_ints, class_of, width_of, most_of, float_of}

-- what holds of each type's code and of every other number holds of all
pub by_code : (P : ℕ → Type 0) → P 0 → P 1 → P 2 → P 3 → P 4 → P 5 → P 6 → ((n : ℕ) → P (suc (suc (suc (suc (suc (suc (suc n)))))))) → (ty : ℕ) → P ty
by_code P p0 p1 p2 p3 p4 p5 p6 p zero = p0
by_code P p0 p1 p2 p3 p4 p5 p6 p (suc zero) = p1
by_code P p0 p1 p2 p3 p4 p5 p6 p (suc (suc zero)) = p2
by_code P p0 p1 p2 p3 p4 p5 p6 p (suc (suc (suc zero))) = p3
by_code P p0 p1 p2 p3 p4 p5 p6 p (suc (suc (suc (suc zero)))) = p4
by_code P p0 p1 p2 p3 p4 p5 p6 p (suc (suc (suc (suc (suc zero))))) = p5
by_code P p0 p1 p2 p3 p4 p5 p6 p (suc (suc (suc (suc (suc (suc zero)))))) = p6
by_code P p0 p1 p2 p3 p4 p5 p6 p (suc (suc (suc (suc (suc (suc (suc n))))))) = p n

-- the patterns up to the largest are those that the width holds
pub most_width : (ty : ℕ) → suc (most_of ty) ≡ 2 ^ width_of ty
most_width = by_code (λ ty. suc (most_of ty) ≡ 2 ^ width_of ty) refl refl refl refl refl refl refl (λ n. refl)

-- the classes that are asked for by comparisons of the code
other : (n k : ℕ) → k < 7 → eqb (suc (suc (suc (suc (suc (suc (suc n))))))) k ≡ false
other n k h = ne_eqb (suc (suc (suc (suc (suc (suc (suc n))))))) k (λ q. omega (arith, q))

pub float_codes : (ty : ℕ) → ((eqb ty 2 || eqb ty 5) || eqb ty 6) ≡ float_of ty
float_codes =
    by_code (λ ty. ((eqb ty 2 || eqb ty 5) || eqb ty 6) ≡ float_of ty) refl refl refl refl refl refl refl
    (λ n. rw (other n 2 (omega arith), other n 5 (omega arith), other n 6 (omega arith)))

pub signed_codes : (ty : ℕ) → (eqb ty 1 || eqb ty 3) ≡ signed_ints (class_of ty)
signed_codes =
    by_code (λ ty. (eqb ty 1 || eqb ty 3) ≡ signed_ints (class_of ty)) refl refl refl refl refl refl refl
    (λ n. rw (other n 1 (omega arith), other n 3 (omega arith)))

pub truth_code : (ty : ℕ) → eqb ty 0 ≡ bools (class_of ty)
truth_code = by_code (λ ty. eqb ty 0 ≡ bools (class_of ty)) refl refl refl refl refl refl refl (λ n. other n 0 (omega arith))

pub unsigned_code : (ty : ℕ) → eqb ty 4 ≡ unsigned_ints (class_of ty)
unsigned_code = by_code (λ ty. eqb ty 4 ≡ unsigned_ints (class_of ty)) refl refl refl refl refl refl refl (λ n. other n 4 (omega arith))
