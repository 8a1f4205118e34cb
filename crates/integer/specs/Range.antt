-- Which exact results a type holds, over the width. Assumes nothing.
use Rattle.std.specs.Prelude.{ℕ, ◌-◌, ◌^◌, Bool, true, false, ℤ, negsuc, nat_lt}
use Rattle.std.specs.Prelude.{Option, Some, None}
use Rattle.std.specs.Int.Signed.{mag}
use Rattle.std.specs.Int.{Width, w64}
use mir.Val.{bits, hbits}

-- one of two, by a test
abbrev pub pick : {A : Type 0} → Bool → A → A → A
pick true a b = a
pick false a b = b

-- z is in the signed range, -2^(bits - 1) to 2^(bits - 1) - 1
abbrev pub in_signed : Width → ℤ → Bool
in_signed w z = nat_lt (mag z) (2 ^ hbits w)

-- the least number of the signed range, -2^(bits - 1)
abbrev pub minimum : Width → ℤ
minimum w = negsuc (2 ^ hbits w - 1)

-- n is in the unsigned range
abbrev pub in_unsigned : Width → ℕ → Bool
in_unsigned w n = nat_lt n (2 ^ bits w)

-- AbstractInt: an exact result, or that it is outside the range
abbrev pub whole_of : ℤ → Option ℤ
whole_of z = pick (in_signed w64 z) (Some z) None
