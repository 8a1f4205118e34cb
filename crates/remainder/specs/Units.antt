-- A magnitude's pattern as a count of smallest values: its digits, moved up by places. h is the weight of the exponent's field.
use Rattle.std.specs.Prelude.{ℕ, ◌+◌, ◌-◌, ◌*◌, ◌/◌, ◌%◌, ◌^◌, cond, nat_lt}

unfoldable pub digits_of : ℕ → ℕ → ℕ
digits_of h a = cond (nat_lt a h) a (h + a % h)

unfoldable pub places_of : ℕ → ℕ → ℕ
places_of h a = cond (nat_lt a h) 0 (a / h - 1)

unfoldable pub units_of : ℕ → ℕ → ℕ
units_of h a = digits_of h a * 2 ^ places_of h a
