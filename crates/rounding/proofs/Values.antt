-- A finite pattern of a kind stands for a value of the kind, each F16 for one of F32 too; and the sizes of exact results from those of the operands. Assumes nothing.
use Rattle.std.proofs.Common.{◌≡◌, ℕ, suc, ◌+◌, ◌-◌, ◌*◌, ◌/◌, ◌%◌, ◌^◌, ◌<◌, ◌≤◌, Bool, true, leb, ℤ, pos, negsuc, ◌*ℤ◌, nat_abs, sym, refl, ap, ◌∙◌, subst, ap₂, inl, inr, lt_of_lt_of_le, mod-lt, mul_assoc, mul_comm, div-lt_iff_lt-mul, add-mul, eq-zero-or-pos, mul-one, mul_right_comm, mul_left_comm, arith, lit≤, pow_pos, pow_mono, pow-add, shl_lt, ltb-true}
use lib.Ieee.{Float, fin, up, down, odd}
use lib.Ieee.Exact.{HasValue, odd_sign}
use Rattle.rounding.specs.Kind.{Kind, half, single, least, limit}
use Rattle.rounding.specs.Bits.{hidden, full, signed, of_bits, finite}
use Rattle.rounding.specs.Nearest.{OfKind, distance}
use Rattle.rounding.specs.Rounded.{Exact, exact_of, plus, minus, times, over, unit, WidenedExactly}
use Rattle.rounding.proofs.Digits.{twice}
use Rattle.rounding.proofs.Fields.{read, fields_low, fields_mid}
use Rattle.rounding.proofs.Finite.{finite_read}
use Rattle.rounding.proofs.Signs.{Either, scaled, size_of, size_times, size_plus, size_minus}
use Rattle.rounding.proofs.Units.{Sized, half_sized}
use Rattle.rounding.proofs.Rounded.{held_of}

-- ---- a pattern's value
pub record PatternValue (k : Kind) (r : Float) : Type 0 where
  pub sign : Bool
  pub units : ℕ
  pub value : HasValue r sign units (2 ^ least k)
  pub of_kind : OfKind k units

pub pattern_value : (k : Kind) → Sized k → (b : ℕ) → finite (of_bits k b) ≡ true → PatternValue k (of_bits k b)
pattern_value k sized b f = elim (eq-zero-or-pos x) [ inl z ↦ low z | inr p ↦ mid p ]
  where
    x : ℕ
    x = b % signed k / hidden k

    t : ℕ
    t = b % hidden k

    s : Bool
    s = leb (signed k) b

    P : 0 < k.digits
    P = omega (arith, sized.two)

    short : t < hidden k
    short = mod-lt b (pow_pos (k.digits - 1))

    under : x < full k
    under = (div-lt_iff_lt-mul (pow_pos (k.digits - 1))).1 (ltb-true (b % signed k) (full k * hidden k) (finite_read k b ∙ f))

    in_limit : (m e : ℕ) → m < 2 ^ k.digits → e ≤ 2 * k.reach - 1 → m * 2 ^ e < limit k
    in_limit m e h l = lt_of_lt_of_le (shl_lt k.digits e h) (let r : k.digits + e ≤ least k + suc k.reach = omega (arith, sized.two, sized.one) in pow_mono r)

    made : (m e : ℕ) → of_bits k b ≡ odd k.digits s m e (least k) → m < 2 ^ k.digits → e ≤ 2 * k.reach - 1 → PatternValue k (of_bits k b)
    made m e is h l =
        record {
          sign = s;
          units = m * 2 ^ e;
          value = subst (λ (r : Float). HasValue r s (m * 2 ^ e) (2 ^ least k)) (sym is) (odd_sign k.digits s m e (least k));
          of_kind = record { significand = m; exponent = e; value = refl; short = h; within = in_limit m e h l };
        }

    low : x ≡ 0 → PatternValue k (of_bits k b)
    low z = made t 0 (read k b ∙ fields_low k s x t z) (omega (arith, short, twice k.digits P)) (omega arith)

    mid : 0 < x → PatternValue k (of_bits k b)
    mid p =
        made (hidden k + t) (x - 1) (read k b ∙ fields_mid k s x t (λ z. omega arith) (λ z. omega (arith, under)))
        (omega (arith, short, twice k.digits P)) (omega (arith, under))

-- ---- F32 holds what F16 does: 2 ^ -24 is 2 ^ 125 of its smallest values
lifted : (r : Float) (s : Bool) (u a b : ℕ) → HasValue r s u (2 ^ a) → HasValue r s (u * 2 ^ b) (2 ^ (a + b))
lifted (fin t m e) s u a b v = (
  v.0,
  ap (λ (x : ℕ). m * up e * x) (pow-add 2 a b) ∙ sym (mul_assoc (m * up e) (2 ^ a) (2 ^ b)) ∙ ap (λ (x : ℕ). x * 2 ^ b) v.1 ∙ mul_right_comm u (down e) (2 ^ b),
)
lifted lib.Ieee.nan s u a b v = elim v [ ]
lifted (lib.Ieee.inf _) s u a b v = elim v [ ]

single_holds : (u : ℕ) → OfKind half u → OfKind single (u * 2 ^ 125)
single_holds u o =
    record {
      significand = o.significand;
      exponent = o.exponent + 125;
      value = ap (λ (x : ℕ). x * 2 ^ 125) o.value ∙ mul_assoc o.significand (2 ^ o.exponent) (2 ^ 125) ∙ ap (λ (x : ℕ). o.significand * x) (sym (pow-add 2 o.exponent 125));
      short = lt_of_lt_of_le o.short (lit≤ tt);
      within = lt_of_lt_of_le (shl_lt 40 125 o.within) (lit≤ tt);
    }

pub widened_exactly : WidenedExactly
widened_exactly b f =
    let v = pattern_value half half_sized b f in
    held_of single (of_bits half b) v.sign (v.units * 2 ^ 125) (lifted (of_bits half b) v.sign v.units 24 125 v.value) (single_holds v.units v.of_kind)

-- ---- how large an exact number is
pub value_size : (r : Float) (s : Bool) (u l : ℕ) → HasValue r s u l → nat_abs (exact_of r).top * l ≡ u * (exact_of r).bottom
value_size (fin t m e) s u l v = ap (λ (n : ℕ). n * l) (size_of t (m * up e)) ∙ v.1
value_size lib.Ieee.nan s u l v = elim v [ ]
value_size (lib.Ieee.inf _) s u l v = elim v [ ]

-- ---- of two numbers that are u / l and v / l in size
module _ (x y : Exact) (u v l : ℕ) (e : nat_abs x.top * l ≡ u * x.bottom) (f : nat_abs y.top * l ≡ v * y.bottom) where
  abbrev a : ℕ
  a = nat_abs x.top

  abbrev b : ℕ
  b = nat_abs y.top

  left_den : a * y.bottom * l ≡ u * (x.bottom * y.bottom)
  left_den = mul_right_comm a y.bottom l ∙ ap (λ (n : ℕ). n * y.bottom) e ∙ mul_assoc u x.bottom y.bottom

  right_den : b * x.bottom * l ≡ v * (x.bottom * y.bottom)
  right_den =
      mul_right_comm b x.bottom l ∙ ap (λ (n : ℕ). n * x.bottom) f ∙ mul_assoc v y.bottom x.bottom ∙ ap (λ (n : ℕ). v * n) (mul_comm y.bottom x.bottom)

  scaled_by : (z : ℤ) (n : ℕ) → nat_abs (z *ℤ pos n) ≡ nat_abs z * n
  scaled_by z n = size_times z (pos n)

  -- a sum or a difference is their sum or their difference, over l
  either_size : (n : ℕ) → Either n (nat_abs (x.top *ℤ pos y.bottom)) (nat_abs (y.top *ℤ pos x.bottom)) → (s : ℕ) × Either s u v × (n * l ≡ s * (x.bottom * y.bottom))
  either_size n h =
      let r = nat_abs (y.top *ℤ pos x.bottom) in
      go (subst (Either n (a * y.bottom)) (scaled_by y.top x.bottom) (subst (λ (m : ℕ). Either n m r) (scaled_by x.top y.bottom) h))
    where
      go : Either n (a * y.bottom) (b * x.bottom) → (s : ℕ) × Either s u v × (n * l ≡ s * (x.bottom * y.bottom))
      go (inl g) = (u + v, inl refl, ap (λ (m : ℕ). m * l) g ∙ add-mul (a * y.bottom) (b * x.bottom) l ∙ ap₂ ◌+◌ left_den right_den ∙ sym (add-mul u v (x.bottom * y.bottom)))
      go (inr g) =
          (distance u v, inr refl, ap (λ (m : ℕ). m * l) g ∙ sym (scaled (a * y.bottom) (b * x.bottom) l) ∙ ap₂ distance left_den right_den ∙ scaled u v (x.bottom * y.bottom))

  pub sum_size : (s : ℕ) × Either s u v × (nat_abs (plus x y).top * l ≡ s * (x.bottom * y.bottom))
  sum_size = either_size (nat_abs (plus x y).top) (size_plus (x.top *ℤ pos y.bottom) (y.top *ℤ pos x.bottom))

  pub difference_size : (s : ℕ) × Either s u v × (nat_abs (minus x y).top * l ≡ s * (x.bottom * y.bottom))
  difference_size = either_size (nat_abs (minus x y).top) (size_minus (x.top *ℤ pos y.bottom) (y.top *ℤ pos x.bottom))

  pub product_size : nat_abs (times x y).top * (l * l) ≡ u * v * (x.bottom * y.bottom)
  product_size = ap (λ (n : ℕ). n * (l * l)) (size_times x.top y.top) ∙ swap a b l l ∙ ap₂ ◌*◌ e f ∙ swap u x.bottom v y.bottom
    where
      swap : (p q r w : ℕ) → p * q * (r * w) ≡ p * r * (q * w)
      swap p q r w = simp (mul_assoc, mul_comm, mul_left_comm)

  pub quotient_size : nat_abs (over x y).top * v ≡ u * (b * x.bottom)
  quotient_size =
      ap (λ (n : ℕ). n * v) (size_times (x.top *ℤ pos y.bottom) (unit y.top) ∙ ap₂ ◌*◌ (scaled_by x.top y.bottom) (unit_size y.top) ∙ mul-one (a * y.bottom))
      ∙ mul_assoc a y.bottom v ∙ ap (λ (n : ℕ). a * n) (mul_comm y.bottom v ∙ sym f) ∙ turn a b l ∙ ap (λ (n : ℕ). n * b) e ∙ last u x.bottom b
    where
      unit_size : (z : ℤ) → nat_abs (unit z) ≡ 1
      unit_size (pos n) = refl
      unit_size (negsuc n) = refl

      turn : (p q r : ℕ) → p * (q * r) ≡ p * r * q
      turn p q r = simp (mul_assoc, mul_comm, mul_left_comm)

      last : (p q r : ℕ) → p * q * r ≡ p * (r * q)
      last p q r = mul_assoc p q r ∙ ap (λ (n : ℕ). p * n) (mul_comm q r)
