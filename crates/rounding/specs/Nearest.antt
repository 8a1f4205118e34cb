-- What "rounded once, to the nearest, ties to the even one" says, in whole numbers: of a kind, a sign and a fraction num / den. Assumes nothing.
use Rattle.std.specs.Prelude.{◌≡◌, ℕ, ◌+◌, ◌-◌, ◌*◌, ◌/◌, ◌%◌, ◌^◌, ◌<◌, ◌≤◌, Bool, ◌⊎◌, Float}
use Rattle.std.specs.Float.{inf}
use Rattle.std.specs.Float.Ieee.{size}
use Rattle.std.specs.Float.Ieee.Exact.{HasValue}
use Rattle.rounding.specs.Kind.{Kind, least, limit}

-- u smallest values are a value of the kind: a significand of no more than its digits times a power of two
pub record OfKind (k : Kind) (u : ℕ) : Type 0 where
  pub significand : ℕ
  pub exponent : ℕ
  pub value : u ≡ significand * 2 ^ exponent
  pub short : significand < 2 ^ k.digits
  pub within : u < limit k

-- how far a is from b
abbrev pub distance : ℕ → ℕ → ℕ
distance a b = (a - b) + (b - a)

-- how far u smallest values are from num / den, times den
abbrev pub gap : Kind → ℕ → ℕ → ℕ → ℕ
gap k num den u = distance (u * den) (num * 2 ^ least k)

-- the last digit of u smallest values, as the kind writes them, is even
abbrev pub Even : Kind → ℕ → Type 0
Even k u = u / 2 ^ (size u - k.digits) % 2 ≡ 0

-- num / den is beyond the largest finite value by half a step or more: the last step below `limit` is 2 ^ (2 * reach - 1)
abbrev pub Beyond : Kind → ℕ → ℕ → Type 0
Beyond k num den = (2 * limit k - 2 ^ (2 * k.reach - 1)) * den ≤ 2 * (num * 2 ^ least k)

-- r is a value of the kind, none is nearer, and where another is as near r's last digit is even
pub record Nearest (k : Kind) (s : Bool) (num den : ℕ) (r : Float) : Type 0 where
  pub units : ℕ
  pub value : HasValue r s units (2 ^ least k)
  pub of_kind : OfKind k units
  pub nearest : (v : ℕ) → OfKind k v → gap k num den units ≤ gap k num den v
  pub even : (v : ℕ) → OfKind k v → gap k num den v ≡ gap k num den units → (v ≡ units) ⊎ Even k units

-- r is num / den with the sign s, rounded once to the kind
pub record Rounded (k : Kind) (s : Bool) (num den : ℕ) (r : Float) : Type 0 where
  pub beyond : Beyond k num den → r ≡ inf s
  pub within : (Beyond k num den → ⊥) → Nearest k s num den r
