-- The rounded bits law, once over the kind: a fraction rounded to a kind has the sign's bit and `pack`, or the infinity's where `pack` is beyond. Assumes nothing.
use Rattle.std.proofs.Common.{◌≡◌, ℕ, ◌+◌, ◌-◌, ◌*◌, ◌/◌, ◌%◌, ◌^◌, ◌<◌, ◌≤◌, min, Bool, cond, ◌⊎◌, sym, refl, ap, ◌∙◌, subst, inl, inr, le_trans, le_of_eq, lt_of_lt_of_le, mul-le-mul_right, mul_assoc, mul_comm, div-lt_iff_lt-mul, eq-zero-or-pos, mul-lt-mul_of_pos_right, mul-pos, le-div_iff_mul-le, zero-add, zero-mul, mul-one, mul_right_comm, arith, pow_pos, pow-add}
use Prim.Native.Nat.{compare}
use native.Mathlib.Nat.{le-suc, div-div-eq-div-mul}
use lib.Ieee.{Float, fin, up, down, size, odd}
use lib.Ieee.Digits.{size_reaches}
use lib.Ieee.Fits.{nearest-le, kept-lt, down_pos}
use lib.Ieee.Exact.{HasValue, odd_sign}
use lib.Ieee.Nearest.{closest, closest_same, div_same, nearest-ge}
use Rattle.rounding.specs.Kind.{Kind, least, units_in, round_to, convert}
use Rattle.rounding.specs.Bits.{hidden, full, signed, to_bits}
use Rattle.rounding.specs.Pack.{pack}
use Rattle.rounding.proofs.Digits.{AllDigits, size_full, size_few}
use Rattle.rounding.proofs.Units.{Sized, units_bits}

-- ---- from a fraction to the units that are kept
-- m / 2 ^ d has the digits that the format keeps, or fewer with nothing dropped
abbrev pub Kept : ℕ → ℕ → ℕ → ℕ → Type 0
Kept p m d j = (m / 2 ^ d < 2 ^ p) × ((j ≡ 0) ⊎ (2 ^ (p - 1) ≤ m / 2 ^ d))

kept_size : (p m d j : ℕ) → 0 < p → Kept p m d j → size (m * 2 ^ j / 2 ^ d) - p ≡ j
kept_size p m d j P (hi, inl z) =
    ap (λ (x : ℕ). size (x / 2 ^ d) - p) (ap (λ (x : ℕ). m * 2 ^ x) z ∙ mul-one m) ∙ size_few p (m / 2 ^ d) hi ∙ sym z
kept_size p m d j P (hi, inr lo) =
    let a : 2 ^ (p - 1) * 2 ^ d ≤ m = (le-div_iff_mul-le (pow_pos d)).0 lo in
    let b : m < 2 ^ p * 2 ^ d = (div-lt_iff_lt-mul (pow_pos d)).0 hi in
    let moved : (q : ℕ) → 2 ^ (q + j) * 2 ^ d ≡ 2 ^ q * 2 ^ d * 2 ^ j = λ q. ap (λ (x : ℕ). x * 2 ^ d) (pow-add 2 q j) ∙ mul_right_comm (2 ^ q) (2 ^ j) (2 ^ d) in
    size_full p j (m * 2 ^ j / 2 ^ d) P
    ((le-div_iff_mul-le (pow_pos d)).1 (le_trans (le_of_eq (moved (p - 1))) (mul-le-mul_right (2 ^ j) a)))
    ((div-lt_iff_lt-mul (pow_pos d)).1 (lt_of_lt_of_le (mul-lt-mul_of_pos_right b (pow_pos j)) (le_of_eq (sym (moved p)))))

-- ---- `pack`, of any m, d and j that stand for the fraction
pub pack_as : (p n den m d j : ℕ) → 0 < p → 0 < den → n * 2 ^ d ≡ m * 2 ^ j * den → Kept p m d j → pack p n den ≡ j * 2 ^ (p - 1) + closest m (2 ^ d)
unfolding pack
pack_as p n den m d j P D same kept =
    let z : size (n / den) - p ≡ j = ap (λ (x : ℕ). size x - p) (div_same n den (m * 2 ^ j) (2 ^ d) D (pow_pos d) same) ∙ kept_size p m d j P kept in
    let e : n * 2 ^ d ≡ m * (den * 2 ^ j) = same ∙ mul_assoc m (2 ^ j) den ∙ ap (λ (x : ℕ). m * x) (mul_comm (2 ^ j) den) in
    ap (λ (x : ℕ). x * 2 ^ (p - 1) + closest n (den * 2 ^ x)) z
    ∙ ap (λ (x : ℕ). j * 2 ^ (p - 1) + x) (closest_same n (den * 2 ^ j) m (2 ^ d) (mul-pos D (pow_pos j)) (pow_pos d) e)

-- with no digit dropped
pub pack_low : (p n den m d : ℕ) → 0 < p → 0 < den → n * 2 ^ d ≡ m * den → m / 2 ^ d < 2 ^ p → pack p n den ≡ closest m (2 ^ d)
pack_low p n den m d P D same few =
    pack_as p n den m d 0 P D (same ∙ ap (λ (x : ℕ). x * den) (sym (mul-one m))) (few, inl refl)
    ∙ ap (λ (x : ℕ). x + closest m (2 ^ d)) (zero-mul (2 ^ (p - 1))) ∙ zero-add (closest m (2 ^ d))

-- equal fractions pack alike, and round alike
same_drop : (p a b c d : ℕ) → 0 < b → 0 < d → a * d ≡ c * b → size (a / b) - p ≡ size (c / d) - p
same_drop p a b c d B D e = ap (λ (x : ℕ). size x - p) (div_same a b c d B D e)

same_kept : (j a b c d : ℕ) → 0 < b → 0 < d → a * d ≡ c * b → closest a (b * 2 ^ j) ≡ closest c (d * 2 ^ j)
same_kept j a b c d B D e =
    closest_same a (b * 2 ^ j) c (d * 2 ^ j) (mul-pos B (pow_pos j)) (mul-pos D (pow_pos j)) (sym (mul_assoc a d (2 ^ j)) ∙ ap (λ (x : ℕ). x * 2 ^ j) e ∙ mul_assoc c b (2 ^ j))

pub pack_same : (p a b c d : ℕ) → 0 < b → 0 < d → a * d ≡ c * b → pack p a b ≡ pack p c d
unfolding pack
pack_same p a b c d B D e =
    let j = size (c / d) - p in
    ap (λ (x : ℕ). x * 2 ^ (p - 1) + closest a (b * 2 ^ x)) (same_drop p a b c d B D e) ∙ ap (λ (x : ℕ). j * 2 ^ (p - 1) + x) (same_kept j a b c d B D e)

pub round_same : (k : Kind) (s : Bool) (a b c d : ℕ) → 0 < b → 0 < d → a * d ≡ c * b → round_to k s a b ≡ round_to k s c d
unfolding round_to
round_same k s a b c d B D e =
    let l = 2 ^ least k in
    let x : a * l * d ≡ c * l * b = mul_right_comm a l d ∙ ap (λ (z : ℕ). z * l) e ∙ mul_right_comm c b l in
    let j = size (c * l / d) - k.digits in
    ap (λ (z : ℕ). units_in k s (closest (a * l) (b * 2 ^ z)) z) (same_drop k.digits (a * l) b (c * l) d B D x)
    ∙ ap (λ (z : ℕ). units_in k s z j) (same_kept j (a * l) b (c * l) d B D x)

-- ---- what `round_to` keeps is at most 2 ^ p, and where it drops digits it has p of them
pub kept_small : (p n den : ℕ) → closest n (den * 2 ^ (size (n / den) - p)) ≤ 2 ^ p
kept_small p n den =
    let u = den * 2 ^ (size (n / den) - p) in
    le_trans (nearest-le (n / u) (compare (n % u * 2) u)) (subst (λ (x : ℕ). x < 2 ^ p) (div-div-eq-div-mul n den (2 ^ (size (n / den) - p))) (kept-lt p (n / den)))

pub kept_all : (p n den : ℕ) → 0 < p → AllDigits p (size (n / den) - p) (closest n (den * 2 ^ (size (n / den) - p)))
kept_all p n den P = go (eq-zero-or-pos (size (n / den) - p))
  where
    many : (z : ℕ) → 0 < z - p → p - 1 + (z - p) < z
    many z h = omega arith

    go : (size (n / den) - p ≡ 0) ⊎ (0 < size (n / den) - p) → AllDigits p (size (n / den) - p) (closest n (den * 2 ^ (size (n / den) - p)))
    go (inl z) = inl z
    go (inr g) =
        let j = size (n / den) - p in
        let u = den * 2 ^ j in
        let a : 2 ^ (p - 1) * 2 ^ j ≤ n / den = le_trans (le_of_eq (sym (pow-add 2 (p - 1) j))) (size_reaches (n / den) (p - 1 + j) (many (size (n / den)) g)) in
        inr (le_trans (subst (λ (x : ℕ). 2 ^ (p - 1) ≤ x) (div-div-eq-div-mul n den (2 ^ j)) ((le-div_iff_mul-le (pow_pos j)).1 a)) (nearest-ge (n / u) (compare (n % u * 2) u)))

-- ---- THE LAW: the bits of a fraction rounded to a format are its sign's bit and `pack`, or the infinity's where `pack` is beyond
module _ (k : Kind) (sized : Sized k) (s : Bool) (num den : ℕ) where
  n : ℕ
  n = num * 2 ^ least k

  j : ℕ
  unfolding n
  j = size (n / den) - k.digits

  q : ℕ
  unfolding n j
  q = closest n (den * 2 ^ j)

  w : AllDigits k.digits j q
  unfolding n j q
  w = kept_all k.digits (num * 2 ^ least k) den (lt_of_lt_of_le (pow_pos 0) (le_trans (le-suc 1) sized.two))

  small : q ≤ 2 ^ k.digits
  unfolding n j q
  small = kept_small k.digits (num * 2 ^ least k) den

  is : round_to k s num den ≡ units_in k s q j
  unfolding round_to n j q
  is = refl

  pack_is : pack k.digits (num * 2 ^ least k) den ≡ j * hidden k + q
  unfolding pack n j q
  pack_is = refl

  pub round_bits : to_bits k (round_to k s num den) ≡ cond s (signed k) 0 + min (pack k.digits (num * 2 ^ least k) den) (full k * hidden k)
  round_bits = ap (to_bits k) is ∙ units_bits k sized s q j w small ∙ ap (λ (x : ℕ). cond s (signed k) 0 + min x (full k * hidden k)) (sym pack_is)

-- ---- a float written by `odd`, as every finite float that is read from its bits is
pub odd_round : (k : Kind) (x : Float) (s : Bool) (a c : ℕ) → 0 < c → HasValue x s a c → convert k x ≡ round_to k s a c
unfolding convert
odd_round k (fin t m e) s a c C v = round_same k t (m * up e) (down e) a c (down_pos e) C v.1 ∙ ap (λ (b : Bool). round_to k b a c) v.0
odd_round k lib.Ieee.nan s a c C v = elim v [ ]
odd_round k (lib.Ieee.inf _) s a c C v = elim v [ ]

pub convert_odd : (k : Kind) (d : ℕ) (s : Bool) (q a l : ℕ) → convert k (odd d s q a l) ≡ round_to k s (q * 2 ^ a) (2 ^ l)
convert_odd k d s q a l = odd_round k (odd d s q a l) s (q * 2 ^ a) (2 ^ l) (pow_pos l) (odd_sign d s q a l)
