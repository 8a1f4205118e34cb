-- Wrong programs beside those of must-fail/: at these arguments each contract asks for another answer than the wrong program has. Assumes nothing.
use Rattle.std.proofs.Common.{◌≡◌, ◌<◌, Bool, true, false, pos, negsuc, nat_abs, refl, ap, arith, lit<}
use lib.Count.{count_trailing_zeros}
use lib.Ieee.{Float, nan, inf, fin, size, odd, neg}
use Rattle.rounding.specs.Kind.{Kind, half, single, double, units_in, round_to, convert, of_integer}
use Rattle.rounding.specs.Arithmetic.{sum, add, sub, div}
use Rattle.rounding.specs.Bits.{of_fields, of_bits, to_bits, finite}
use Rattle.rounding.specs.Rounded.{Exact, exact_of, plus, minus, over, RoundedOnce}
use Rattle.rounding.proofs.Rounded.{sum_rounded, difference_rounded, quotient_rounded, conversion_rounded}
use Rattle.rounding.proofs.Unique.{one_rounded}
use Rattle.rounding.proofs.Units.{Sized, half_sized, single_sized, double_sized}

-- just above the middle of two F16: 1 + 2^-11 + 2^-30, which an F32 can't tell from the middle
abbrev above_middle : Float
above_middle = fin false 1074266113 (negsuc 29)

-- rounded to F32 first, which has 3C00; a digit short, which has 6800 for 2047
pub f64_to_half_lem : (to_bits half (convert half above_middle) ≡ 0x3C01) × (to_bits half (convert half (convert single above_middle)) ≡ 0x3C00)
    × (to_bits half (convert half (fin false 2047 (pos 0))) ≡ 0x67FF)
unfolding to_bits convert round_to units_in size odd count_trailing_zeros
f64_to_half_lem = (refl, refl, refl)

-- a reach one short, which has the infinity for 2^127; a number past the largest by half a step made the largest
pub f64_to_f32_lem : (convert single (fin false 1 (pos 127)) ≡ fin false 1 (pos 127)) × (convert single (fin false 33554431 (pos 103)) ≡ inf false)
unfolding convert round_to units_in size odd count_trailing_zeros
f64_to_f32_lem = (refl, refl)

-- the sign lost, which has 3C00; values below 2^-14 by their bits, which has 0 for 2^-15; the difference of the fields one off, which has 4000 for 1
pub f32_to_half_lem : (to_bits half (convert half (fin true 1 (pos 0))) ≡ 0xBC00) × (to_bits half (convert half (fin false 1 (negsuc 14))) ≡ 0x200)
    × (to_bits half (convert half (fin false 1 (pos 0))) ≡ 0x3C00)
unfolding to_bits convert round_to units_in size odd count_trailing_zeros
f32_to_half_lem = (refl, refl, refl)

-- the largest values infinite; a number past the largest by half a step made the largest
pub i64_to_half_lem : (to_bits half (of_integer half (pos 65519)) ≡ 0x7BFF) × (to_bits half (of_integer half (pos 65520)) ≡ 0x7C00)
unfolding to_bits of_integer round_to units_in size odd count_trailing_zeros
i64_to_half_lem = (refl, refl)

-- a tie that goes up, which has 2^24 + 2 for 2^24 + 1; the bits below the half bit dropped, which has 2^25 for 2^25 + 3
pub i64_to_f32_lem : (of_integer single (pos 16777217) ≡ fin false 1 (pos 24)) × (of_integer single (pos 33554435) ≡ fin false 8388609 (pos 2))
unfolding of_integer round_to units_in size odd count_trailing_zeros
i64_to_f32_lem = (refl, refl)

-- the sign lost; a tie that goes up
pub i64_to_f64_lem : (of_integer double (negsuc 0) ≡ fin true 1 (pos 0)) × (of_integer double (pos 9007199254740993) ≡ fin false 1 (pos 53))
unfolding of_integer round_to units_in size odd count_trailing_zeros
i64_to_f64_lem = (refl, refl)

-- the last binade infinite; the infinity's sign lost; exponents off by one, which has 2 for 3C00
pub half_to_f32_lem : (of_bits half 0x7BFF ≡ fin false 2047 (pos 5)) × (of_bits half 0xFC00 ≡ inf true) × (of_bits half 0x3C00 ≡ fin false 1 (pos 0))
unfolding of_bits of_fields odd count_trailing_zeros
half_to_f32_lem = (refl, refl, refl)

-- the sign lost, which has 3F800000; another NaN of F64
pub bits : (to_bits single (fin true 1 (pos 0)) ≡ 0xBF800000) × (to_bits double nan ≡ 0x7FF8000000000000)
unfolding to_bits size
bits = (refl, refl)

-- only quiet NaNs seen; the sign of a zero lost
pub of_bits_lem : (of_bits single 0x7F800001 ≡ nan) × (of_bits double 0x8000000000000000 ≡ fin true 0 (pos 0))
unfolding of_bits of_fields odd count_trailing_zeros
of_bits_lem = (refl, refl)

-- only small values finite; the largest not finite
pub all_finite : (finite (of_bits single 0x7F7FFFFF) ≡ true) × (finite (of_bits double 0x7FEFFFFFFFFFFFFF) ≡ true) × (finite (of_bits half 0x7BFF) ≡ true)
unfolding of_bits of_fields odd count_trailing_zeros
all_finite = (refl, refl, refl)

-- ---- wrong results that "rounded once" excludes: each has other bits than the result itself
excluded : (k : Kind) → Sized k → (s : Bool) (x : Exact) → 0 < x.bottom → {r : Float} (wrong : Float)
    → RoundedOnce k s x r → (to_bits k r ≡ to_bits k wrong → ⊥) → RoundedOnce k s x wrong → ⊥
excluded k sized s x D {r} wrong h n w = n (one_rounded k sized s x D r wrong h w)

abbrev one : Float
one = fin false 1 (pos 0)

-- 1 + 2^-24, a tie that goes up
pub tie_up : RoundedOnce single false (plus (exact_of one) (exact_of (fin false 1 (negsuc 23)))) (fin false 8388609 (negsuc 22)) → ⊥
unfolding add sum round_to units_in size odd count_trailing_zeros to_bits
tie_up =
    excluded single single_sized false (plus (exact_of one) (exact_of (fin false 1 (negsuc 23)))) (lit< tt) (fin false 8388609 (negsuc 22))
    (sum_rounded single single_sized one (fin false 1 (negsuc 23)) refl refl) (λ e. let f : 0x3F800000 ≡ 0x3F800001 = e in omega arith)

-- 1 - 1 as -0
pub negative_nothing : RoundedOnce double false (minus (exact_of one) (exact_of one)) (fin true 0 (pos 0)) → ⊥
unfolding sub add sum round_to units_in size odd count_trailing_zeros to_bits neg
negative_nothing =
    excluded double double_sized false (minus (exact_of one) (exact_of one)) (lit< tt) (fin true 0 (pos 0))
    (difference_rounded double double_sized one one refl refl) (λ e. let f : 0 ≡ 0x8000000000000000 = e in omega arith)

-- 1 / 3 cut short
pub cut_quotient : RoundedOnce single false (over (exact_of one) (exact_of (fin false 3 (pos 0)))) (fin false 5592405 (negsuc 23)) → ⊥
unfolding div round_to units_in size odd count_trailing_zeros to_bits
cut_quotient =
    excluded single single_sized false (over (exact_of one) (exact_of (fin false 3 (pos 0)))) (lit< tt) (fin false 5592405 (negsuc 23))
    (quotient_rounded single single_sized one (fin false 3 (pos 0)) refl refl (λ e. let f : 3 ≡ 0 = ap nat_abs e in omega arith))
    (λ e. let f : 0x3EAAAAAB ≡ 0x3EAAAAAA = e in omega arith)

-- just above the middle of two F16, through F32
pub through_f32 : RoundedOnce half false (exact_of above_middle) (convert half (convert single above_middle)) → ⊥
unfolding convert round_to units_in size odd count_trailing_zeros to_bits
through_f32 =
    excluded half half_sized false (exact_of above_middle) (lit< tt) (convert half (convert single above_middle))
    (conversion_rounded half half_sized above_middle refl) (λ e. let f : 0x3C01 ≡ 0x3C00 = e in omega arith)
