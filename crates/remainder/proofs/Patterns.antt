-- A finite pattern's smallest values by its fields, and the remainder of two floats by their patterns, over the format. Assumes nothing.
use Rattle.std.proofs.Common.{◌≡◌, ℕ, suc, ◌+◌, ◌-◌, ◌*◌, ◌/◌, ◌%◌, ◌^◌, ◌<◌, ◌≤◌, Bool, true, false, T, leb, sym, refl, ap, ◌∙◌, subst, mod-lt, mod-eq_of_lt, arith, pow_pos, pow_mono, lt_of_lt_of_le, shl_lt, inl, inr, ltb-true, le-leb, cond, eq-eqb, eq-zero-or-pos, lit≤}
use Rattle.std.proofs.lemmas.Bool.{true≢false, false≢true, lt-leb}
use Rattle.std.proofs.Math.Nat.{div-eq_of_lt, mul-add-mod_self_right, add-mul-mod_self_right, div-add-mod', div-lt_iff_lt-mul, le-div_iff_mul-le, mul-pos, mul-le-mul}
use lib.Ieee.{Float, Format, binary32, binary64, nan, inf, fin, fits, is_nan, odd, up, down}
use lib.Ieee.Exact.{HasValue, odd_sign}
use lib.Ieee.Fits.{rem-fits, up_pos}
use lib.Ieee.Bits.{of_bits-fits}
use Rattle.integer.proofs.Order.{le_or_lt}
use Rattle.rounding.specs.Kind.{Kind, least, limit, round_to}
use Rattle.rounding.specs.Bits.{hidden, full, signed, of_bits, finite}
use Rattle.rounding.specs.Nearest.{OfKind}
use Rattle.rounding.specs.Arithmetic.{rem}
use Rattle.rounding.proofs.Same.{of, of_bits_is, rem_is}
use Rattle.rounding.proofs.Fields.{read, fields_low, fields_mid}
use Rattle.rounding.proofs.Finite.{finite_read}
use Rattle.rounding.proofs.Digits.{twice}
use Rattle.rounding.proofs.Units.{Sized, single_sized, double_sized}
use Rattle.rounding.proofs.Remainder.{rem_exact}
use Rattle.rounding.proofs.Exact.{units_unique}
use Rattle.remainder.specs.Units.{places_of, units_of}
use Rattle.remainder.proofs.Steps.{below, above, units_are, units_pos, places_under}

-- ---- where there is nothing to work out
pub rem_unbounded : (k : Kind) (x y : Float) → finite x ≡ false → nan ≡ rem k x y
unfolding rem
rem_unbounded k nan y h = refl
rem_unbounded k (inf s) y h = refl
rem_unbounded k (fin s m e) y h = absurd (true≢false h)

pub rem_by_nan : (k : Kind) (x y : Float) → finite x ≡ true → is_nan y ≡ true → nan ≡ rem k x y
unfolding rem is_nan
rem_by_nan k (fin s m e) nan h d = refl
rem_by_nan k (fin s m e) (inf t) h d = absurd (false≢true d)
rem_by_nan k (fin s m e) (fin t n j) h d = absurd (false≢true d)
rem_by_nan k nan y h d = absurd (false≢true h)
rem_by_nan k (inf s) y h d = absurd (false≢true h)

pub rem_by_infinity : (k : Kind) (x y : Float) → finite x ≡ true → finite y ≡ false → is_nan y ≡ false → x ≡ rem k x y
unfolding rem is_nan
rem_by_infinity k (fin s m e) (inf t) h g d = refl
rem_by_infinity k (fin s m e) nan h g d = absurd (true≢false d)
rem_by_infinity k (fin s m e) (fin t n j) h g d = absurd (true≢false g)
rem_by_infinity k nan y h g d = absurd (false≢true h)
rem_by_infinity k (inf s) y h g d = absurd (false≢true h)

pub rem_by_zero : (k : Kind) (x y : Float) (t : Bool) (l : ℕ) → finite x ≡ true → HasValue y t 0 (2 ^ l) → nan ≡ rem k x y
unfolding rem
rem_by_zero k nan y t l h v = refl
rem_by_zero k (inf s) y t l h v = refl
rem_by_zero k (fin s m e) nan t l h v = refl
rem_by_zero k (fin s m e) (inf u) t l h v = elim v [ ]
rem_by_zero k (fin s m e) (fin u n d) t l h v =
    sym (ap (λ (b : Bool). cond b nan (round_to k s (m * up e * down d % (n * up d * down e)) (down e * down d))) (eq-eqb n 0 none))
  where
    none : n ≡ 0
    none = elim (eq-zero-or-pos n) [ inl z ↦ z | inr p ↦ absurd (omega (arith, v.1, mul-pos (mul-pos p (up_pos d)) (pow_pos l))) ]

-- ---- a pattern's value
same_rest : (h q B : ℕ) → B % (h * q) % h ≡ B % h
same_rest h q B =
    sym (ap (λ (x : ℕ). x % h) (sym (div-add-mod' B (h * q)) ∙ (let e : B / (h * q) * (h * q) + B % (h * q) ≡ B % (h * q) + B / (h * q) * q * h = omega arith in e))
    ∙ add-mul-mod_self_right (B % (h * q)) (B / (h * q) * q) h)

pub record Value (k : Kind) (B : ℕ) : Type 0 where
  pub value : HasValue (of_bits k B) (leb (signed k) B) (units_of (hidden k) (B % signed k)) (2 ^ least k)
  pub of_kind : OfKind k (units_of (hidden k) (B % signed k))

pub pattern_units : (k : Kind) → Sized k → (B : ℕ) → B % signed k < full k * hidden k → Value k B
pattern_units k sized B small = elim (le_or_lt h a) [ inl j ↦ mid j | inr j ↦ low_case j ]
  where
    h : ℕ
    h = hidden k

    a : ℕ
    a = B % signed k

    t : ℕ
    t = B % hidden k

    s : Bool
    s = leb (signed k) B

    H : 0 < h
    H = pow_pos (k.digits - 1)

    P : 0 < k.digits
    P = omega (arith, sized.two)

    rest : a % h ≡ t
    rest = same_rest h (suc (full k)) B

    under : a / h < full k
    under = (div-lt_iff_lt-mul H).1 small

    in_limit : (m e : ℕ) → m < 2 ^ k.digits → e ≤ 2 * k.reach - 1 → m * 2 ^ e < limit k
    in_limit m e b l = lt_of_lt_of_le (shl_lt k.digits e b) (let r : k.digits + e ≤ least k + suc k.reach = omega (arith, sized.two, sized.one) in pow_mono r)

    made : (m e : ℕ) → of_bits k B ≡ odd k.digits s m e (least k) → units_of h a ≡ m * 2 ^ e → m < 2 ^ k.digits → e ≤ 2 * k.reach - 1 → Value k B
    made m e is u b l =
        record {
          value = subst (λ (n : ℕ). HasValue (of_bits k B) s n (2 ^ least k)) (sym u) (subst (λ (r : Float). HasValue r s (m * 2 ^ e) (2 ^ least k)) (sym is) (odd_sign k.digits s m e (least k)));
          of_kind = record { significand = m; exponent = e; value = u; short = b; within = subst (λ (n : ℕ). n < limit k) (sym u) (in_limit m e b l) };
        }

    low_case : a < h → Value k B
    low_case j =
        let z : a / h ≡ 0 = div-eq_of_lt j in
        let same : a ≡ t = sym (mod-eq_of_lt j) ∙ rest in
        made t 0 (read k B ∙ fields_low k s (a / h) t z) (units_are h a t 0 ((below h a j).0 ∙ same) (below h a j).1) (omega (arith, mod-lt B H, twice k.digits P)) (omega arith)

    mid : h ≤ a → Value k B
    mid j =
        let one : 1 ≤ a / h = (le-div_iff_mul-le H).1 (let l : 1 * h ≤ a = omega arith in l) in
        made (h + t) (a / h - 1) (read k B ∙ fields_mid k s (a / h) t (λ z. omega arith) (λ z. omega (arith, under)))
        (units_are h a (h + t) (a / h - 1) ((above h a j).0 ∙ ap (λ (r : ℕ). h + r) rest) (above h a j).1)
        (omega (arith, mod-lt B H, twice k.digits P)) (omega (arith, under))

-- ---- the pattern that is made
module _ (S B r : ℕ) (p : 0 < S) (l : r < S) where
  up_to : B - B % S + r ≡ B / S * S + r
  up_to = omega (arith, div-add-mod' B S)

  pub made_rest : (B - B % S + r) % S ≡ r
  made_rest = ap (λ (x : ℕ). x % S) up_to ∙ mul-add-mod_self_right (B / S) S r ∙ mod-eq_of_lt l

  pub made_sign : leb S (B - B % S + r) ≡ leb S B
  made_sign = elim (le_or_lt S B) [ inl j ↦ high j | inr j ↦ low_sign j ]
    where
      high : S ≤ B → leb S (B - B % S + r) ≡ leb S B
      high j =
          let one : 1 ≤ B / S = (le-div_iff_mul-le p).1 (let g : 1 * S ≤ B = omega arith in g) in
          let g : S ≤ B - B % S + r = omega (arith, up_to, mul-le-mul {n₁ = 1} {m₁ = S} {n₂ = B / S} {m₂ = S} one (omega arith)) in
          le-leb S (B - B % S + r) g ∙ sym (le-leb S B j)

      low_sign : B < S → leb S (B - B % S + r) ≡ leb S B
      low_sign j = ap (leb S) (let e : B - B % S + r ≡ r = omega (arith, mod-eq_of_lt j) in e) ∙ lt-leb S r l ∙ sym (lt-leb S B j)

-- ---- the remainder by patterns
pub small_pattern : (k : Kind) (x : Float) (B : ℕ) → finite x ≡ true → of_bits k B ≡ x → B % signed k < full k * hidden k
small_pattern k x B h back = ltb-true (B % signed k) (full k * hidden k) (finite_read k B ∙ ap finite back ∙ h)

-- a pattern below the infinity's with its sign's bit
pub signed_small : (S w r : ℕ) → w < 2 * S → r < S → w - w % S + r < 2 * S
signed_small S w r l b =
    let P : 0 < S = omega arith in
    let two : w / S < 2 = (div-lt_iff_lt-mul P).1 l in
    omega (arith, up_to S w r P b, mul-le-mul {n₁ = w / S} {m₁ = S} {n₂ = 1} {m₂ = S} (omega arith) (omega arith))

-- the language's own formats
pub format_sized : (f : Format) → Sized (of f)
format_sized binary32 = single_sized
format_sized binary64 = double_sized

lead_small : (f : Format) → hidden (of f) ≤ 2 ^ 52
lead_small binary32 = lit≤ tt
lead_small binary64 = lit≤ tt

field_small : (f : Format) → full (of f) ≤ 2047
field_small binary32 = lit≤ tt
field_small binary64 = lit≤ tt

field_two : (f : Format) → 2 ≤ full (of f)
field_two binary32 = lit≤ tt
field_two binary64 = lit≤ tt

pub width_small : (f : Format) → 2 * signed (of f) ≤ 2 ^ 64
width_small binary32 = lit≤ tt
width_small binary64 = lit≤ tt

module _ (f : Format) where
  abbrev pub k : Kind
  k = of f

  -- the pattern v of a finite y, that is no zero's
  module _ (y : Float) (v : ℕ) (hy : finite y ≡ true) (back_y : of_bits (of f) v ≡ y) where
    small : v % signed k < full k * hidden k
    small = small_pattern k y v hy back_y

    pub divides : (v % signed k ≡ 0 → ⊥) → (0 < hidden k) × (hidden k ≤ 2 ^ 52) × (0 < v % signed k) × (v % signed k < 2047 * hidden k)
    divides z = (
      pow_pos (k.digits - 1),
      lead_small f,
      omega (arith, z),
      omega (arith, small, mul-le-mul {n₁ = full k} {m₁ = hidden k} {n₂ = 2047} {m₂ = hidden k} (field_small f) (omega arith)),
    )

    -- what is left is below the infinity's pattern
    pub rest_small : (r : ℕ) → r < (places_of (hidden k) (v % signed k) + 2) * hidden k → r < full k * hidden k
    rest_small r l =
        omega (
          arith,
          mul-le-mul {n₁ = places_of (hidden k) (v % signed k) + 2} {m₁ = hidden k} {n₂ = full k} {m₂ = hidden k}
              (places_under (hidden k) (v % signed k) (full k) (pow_pos (k.digits - 1)) (field_two f) small) (omega arith),
        )

    pub rest_signed : (w r : ℕ) → w < 2 * signed k → r < (places_of (hidden k) (v % signed k) + 2) * hidden k → w - w % signed k + r < 2 * signed k
    rest_signed w r l b =
        signed_small (signed k) w r l (lt_of_lt_of_le (rest_small r b) (let g : full k * hidden k ≤ hidden k * suc (full k) = omega arith in g))

    pub rem_zero_pattern : (x : Float) → finite x ≡ true → v % signed k ≡ 0 → nan ≡ rem k x y
    rem_zero_pattern x hx z =
        let h = hidden k in
        let Y = pattern_units k (format_sized f) v small in
        let none : units_of h (v % signed k) ≡ 0 = ap (units_of h) z ∙ units_are h 0 0 0 (below h 0 (pow_pos (k.digits - 1))).0 (below h 0 (pow_pos (k.digits - 1))).1 in
        rem_by_zero k x y (leb (signed k) v) (least k) hx
        (subst (λ (q : Float). HasValue q (leb (signed k) v) 0 (2 ^ least k)) back_y (subst (λ (n : ℕ). HasValue (of_bits k v) (leb (signed k) v) n (2 ^ least k)) none Y.value))

    pub rem_pattern : (x : Float) (w r : ℕ) → finite x ≡ true → of_bits k w ≡ x → (v % signed k ≡ 0 → ⊥)
        → units_of (hidden k) r ≡ units_of (hidden k) (w % signed k) % units_of (hidden k) (v % signed k) → r < (places_of (hidden k) (v % signed k) + 2) * hidden k
        → of_bits k (w - w % signed k + r) ≡ rem k x y
    rem_pattern x w r hx back_x nonzero units b =
        let S = signed k in
        let h = hidden k in
        let H : 0 < h = pow_pos (k.digits - 1) in
        let z = w - w % S + r in
        let low_rest = rest_small r b in
        let under : r < S = lt_of_lt_of_le low_rest (let g : full k * h ≤ h * suc (full k) = omega arith in g) in
        let P : 0 < S = omega arith in
        let pos : 0 < v % S = omega (arith, nonzero) in
        let X = pattern_units k (format_sized f) w (small_pattern k x w hx back_x) in
        let Y = pattern_units k (format_sized f) v small in
        let Z = pattern_units k (format_sized f) z (subst (λ (n : ℕ). n < full k * h) (sym (made_rest S w r P under)) low_rest) in
        let above_0 : 0 < units_of h (v % S) = units_pos h (v % S) H pos in
        let left = rem_exact k (format_sized f) (of_bits k w) (of_bits k v) (leb S w) (leb S v) (units_of h (w % S)) (units_of h (v % S)) X.value Y.value X.of_kind Y.of_kind above_0 in
        let same : HasValue (of_bits k z) (leb S w) (units_of h (w % S) % units_of h (v % S)) (2 ^ least k) =
        subst (λ (n : ℕ). HasValue (of_bits k z) (leb S w) n (2 ^ least k)) units
        (subst (λ (b : Bool). HasValue (of_bits k z) b (units_of h r) (2 ^ least k)) (made_sign S w r P under)
        (subst (λ (n : ℕ). HasValue (of_bits k z) (leb S z) (units_of h n) (2 ^ least k)) (made_rest S w r P under) Z.value)) in
        let fx : T (fits f x) = subst (λ (q : Float). T (fits f q)) (of_bits_is f w ∙ back_x) (of_bits-fits f w) in
        let fz : T (fits f (of_bits k z)) = subst (λ (q : Float). T (fits f q)) (of_bits_is f z) (of_bits-fits f z) in
        let fr : T (fits f (rem k x y)) = subst (λ (q : Float). T (fits f q)) (rem_is f x y) (rem-fits f x y fx) in
        units_unique f (of_bits k z) (rem k x y) (leb S w) (units_of h (w % S) % units_of h (v % S)) fz fr same
        (subst (λ (q : Float). HasValue q (leb S w) (units_of h (w % S) % units_of h (v % S)) (2 ^ least k)) (λ i. rem k (back_x i) (back_y i)) left)
