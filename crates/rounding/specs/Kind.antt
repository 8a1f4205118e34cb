-- A kind of binary float and what rounding to it gives: one text for F16, F32 and F64, stated over whole numbers.
-- A float is `nan`, `inf s` or `fin s m e`: the whole number m times 2 ^ e, negative where s is true. The values, and rounding clause by clause, are those of
-- the language's own `lib.Ieee`, which has F32 and F64 (`proofs/Same.antt`); F16 asks for any kind. `Nearest.antt` and `Rounded.antt` say what it means. Assumes nothing.
use Rattle.std.specs.Prelude.{ℕ, suc, ◌+◌, ◌-◌, ◌*◌, ◌/◌, ◌^◌, Bool, true, false, cond, ℤ, pos, negsuc, nat_lt, Float}
use Rattle.std.specs.Float.{nan, inf, fin}
use Rattle.std.specs.Float.Ieee.{up, down, size, odd, Format, prec, emax}
use Rattle.std.specs.Float.Ieee.Nearest.{closest}

-- how many binary digits a significand has, and the exponent of the largest values, which lie below 2 ^ (reach + 1)
pub record Kind : Type 0 where
  pub digits : ℕ
  pub reach : ℕ

abbrev pub kind : ℕ → ℕ → Kind
kind d r = record { digits = d; reach = r }

-- 01, Operands: F16, F32 and F64, which AbstractFloat is
abbrev pub half : Kind
half = kind 11 15

abbrev pub single : Kind
single = kind 24 127

abbrev pub double : Kind
double = kind 53 1023

-- the kind of one of the language's own formats
abbrev pub of_format : Format → Kind
of_format f = kind (prec f) (emax f)

-- the smallest positive value is 2 ^ -least
abbrev pub least : Kind → ℕ
least k = k.reach + k.digits - 2

-- the first number of smallest values that is past every finite value: 2 ^ (reach + 1)
abbrev pub limit : Kind → ℕ
limit k = 2 ^ (least k + suc k.reach)

-- q * 2 ^ j of the smallest values; from the limit on an infinity
unfoldable pub units_in : Kind → Bool → ℕ → ℕ → Float
unfolding odd
units_in k s q j = cond (nat_lt (q * 2 ^ j) (limit k)) (odd (suc k.digits) s q j (least k)) (inf s)

-- num / den rounded once, to the nearest value, ties to the even one, subnormals kept: in smallest values the fraction is n / den, of whose whole part
-- the j lowest digits are more than a significand has
unfoldable pub round_to : Kind → Bool → ℕ → ℕ → Float
unfolding size units_in
round_to k s num den =
    let n = num * 2 ^ least k in
    let j = size (n / den) - k.digits in
    units_in k s (closest n (den * 2 ^ j)) j

-- a float to a kind
unfoldable pub convert : Kind → Float → Float
unfolding round_to
convert k nan = nan
convert k (inf s) = inf s
convert k (fin s m e) = round_to k s (m * up e) (down e)

-- an integer to a kind; 0 is +0
unfoldable pub of_integer : Kind → ℤ → Float
unfolding round_to
of_integer k (pos n) = round_to k false n 1
of_integer k (negsuc n) = round_to k true (suc n) 1
