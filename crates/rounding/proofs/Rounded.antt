-- `+ - * /` and the conversions round the exact result once, in every kind: the claims of `specs/Rounded.antt`. Assumes nothing.
use Rattle.std.proofs.Common.{◌≡◌, ℕ, zero, suc, ◌+◌, ◌*◌, ◌^◌, ◌<◌, ◌≤◌, Bool, true, false, not, ◌⊎◌, ℤ, pos, negsuc, ◌-ℤ◌, nat_abs, sym, refl, ap, ◌∙◌, subst, ap₂, inl, inr, le_trans, le_of_eq, eq-zero-or-pos, mul-pos, zero-mul, arith, lit<, pow_pos}
use lib.Ieee.{Float, nan, inf, fin, up, down}
use lib.Ieee.Exact.{HasValue}
use lib.Ieee.Fits.{down_pos}
use Rattle.rounding.specs.Kind.{Kind, least, round_to, convert, of_integer}
use Rattle.rounding.specs.Arithmetic.{add, sub, mul, div}
use Rattle.rounding.specs.Bits.{finite}
use Rattle.rounding.specs.Nearest.{OfKind, Even, Beyond, Rounded, gap, distance}
use Rattle.rounding.specs.Rounded.{Exact, ratio, signed_by, exact_of, sign_of, Same, plus, minus, times, over, away, Holds, RoundedOr, RoundedOnce}
use Rattle.rounding.specs.Rounded.{own_sign, sum_sign, difference_sign, product_sign, SumRounded, DifferenceRounded, ProductRounded, QuotientRounded}
use Rattle.rounding.specs.Rounded.{ConversionRounded, IntegerRounded}
use Rattle.rounding.proofs.Made.{Made, sum_made, difference_made, product_made, quotient_made, conversion_made, integer_made}
use Rattle.rounding.proofs.Nearest.{rounded}
use Rattle.rounding.proofs.Signs.{size_of, no_size, side, by_size, apart, opposed}
use Rattle.rounding.proofs.Units.{Sized}

-- ---- what a float's value says of it
finite_of_lem : (r : Float) (s : Bool) (u l : ℕ) → HasValue r s u l → finite r ≡ true
finite_of_lem (fin t m e) s u l v = refl
finite_of_lem nan s u l v = elim v [ ]
finite_of_lem (inf _) s u l v = elim v [ ]

sign_of_lem : (r : Float) (s : Bool) (u l : ℕ) → HasValue r s u l → sign_of r ≡ s
sign_of_lem (fin t m e) s u l v = v.0
sign_of_lem nan s u l v = elim v [ ]
sign_of_lem (inf _) s u l v = elim v [ ]

pub value_of : (r : Float) (s : Bool) (u l : ℕ) → HasValue r s u l → Same (exact_of r) (ratio (signed_by s u) l)
value_of (fin t m e) s u l v = by_size t (m * up e) l ∙ ap₂ signed_by v.0 v.1 ∙ sym (by_size s u (down e))
value_of nan s u l v = elim v [ ]
value_of (inf _) s u l v = elim v [ ]

abbrev pub held_of : (k : Kind) (r : Float) (s : Bool) (u : ℕ) → HasValue r s u (2 ^ least k) → OfKind k u → Holds k (exact_of r)
held_of k r s u v o = record { units = signed_by s u; value = value_of r s u (2 ^ least k) v; of_kind = subst (OfKind k) (sym (size_of s u)) o }

-- ---- a size rounded, with its sign, is the number rounded: a value of the other sign is further away than 0 is
pub nothing_of_kind : (k : Kind) → OfKind k 0
nothing_of_kind k = record { significand = 0; exponent = 0; value = refl; short = pow_pos k.digits; within = pow_pos (least k + suc k.reach) }

module _ (k : Kind) (s : Bool) (num den : ℕ) (D : 0 < den) where
  abbrev x : Exact
  x = ratio (signed_by s num) den

  abbrev L : ℕ
  L = 2 ^ least k

  -- how far a value is, by its sign
  pub like : (u : ℕ) → away k x (signed_by s u) ≡ gap k num den u
  like u = ap₂ (λ (a b : ℤ). nat_abs (a -ℤ b)) (by_size s u den) (by_size s num L) ∙ apart s (u * den) (num * L)

  pub unlike_by : (u : ℕ) → away k x (signed_by (not s) u) ≡ u * den + num * L
  unlike_by u = ap₂ (λ (a b : ℤ). nat_abs (a -ℤ b)) (by_size (not s) u den) (by_size s num L) ∙ opposed s (u * den) (num * L)

  pub nothing_gap : gap k num den 0 ≡ num * L
  nothing_gap = ap (λ (a : ℕ). distance a (num * L)) (zero-mul den) ∙ from_zero (num * L)
    where
      from_zero : (n : ℕ) → distance 0 n ≡ n
      from_zero n = omega arith

  module _ (u : ℕ) (near : (v : ℕ) → OfKind k v → gap k num den u ≤ gap k num den v) where
    pub near_any : (v : ℤ) → OfKind k (nat_abs v) → away k x (signed_by s u) ≤ away k x v
    near_any v o =
        elim (side s v) [
          | inl e ↦ le_trans (le_of_eq (like u)) (le_trans (near (nat_abs v) o) (le_of_eq (sym (like (nat_abs v)) ∙ ap (away k x) (sym e))))
          | inr e ↦ le_trans (le_of_eq (like u)) (le_trans (under (near 0 (nothing_of_kind k)) (nat_abs v * den)) (le_of_eq (sym (unlike_by (nat_abs v)) ∙ ap (away k x) (sym e))))
        ]
      where
        under : gap k num den u ≤ gap k num den 0 → (w : ℕ) → gap k num den u ≤ w + num * L
        under h w = omega (arith, nothing_gap)

    pub tie_any : ((v : ℕ) → OfKind k v → gap k num den v ≡ gap k num den u → (v ≡ u) ⊎ Even k u)
        → (v : ℤ) → OfKind k (nat_abs v) → away k x v ≡ away k x (signed_by s u) → (v ≡ signed_by s u) ⊎ Even k (nat_abs (signed_by s u))
    tie_any tie v o g = elim (side s v) [ inl e ↦ same e | inr e ↦ other e ]
      where
        even_of : Even k u → Even k (nat_abs (signed_by s u))
        even_of e = subst (Even k) (sym (size_of s u)) e

        same : v ≡ signed_by s (nat_abs v) → (v ≡ signed_by s u) ⊎ Even k (nat_abs (signed_by s u))
        same e =
            elim (tie (nat_abs v) o (sym (like (nat_abs v)) ∙ ap (away k x) (sym e) ∙ g ∙ like u)) [
              | inl f ↦ inl (e ∙ ap (signed_by s) f)
              | inr f ↦ inr (even_of f)
            ]

        other : v ≡ signed_by (not s) (nat_abs v) → (v ≡ signed_by s u) ⊎ Even k (nat_abs (signed_by s u))
        other e =
            let h : nat_abs v * den + num * L ≡ gap k num den u = sym (unlike_by (nat_abs v)) ∙ ap (away k x) (sym e) ∙ g ∙ like u in
            let l : gap k num den u ≤ gap k num den 0 = near 0 (nothing_of_kind k) in
            let z : nat_abs v ≡ 0 = elim (eq-zero-or-pos (nat_abs v)) [ inl z ↦ z | inr p ↦ absurd (far h l (mul-pos p D)) ] in
            let a : v ≡ pos 0 = e ∙ ap (signed_by (not s)) z ∙ no_size (not s) in
            elim (tie 0 (nothing_of_kind k) (level h l z)) [
              | inl f ↦ inl (a ∙ sym (no_size s) ∙ ap (signed_by s) f)
              | inr f ↦ inr (even_of f)
            ]
          where
            far : nat_abs v * den + num * L ≡ gap k num den u → gap k num den u ≤ gap k num den 0 → 0 < nat_abs v * den → ⊥
            far h l p = omega (arith, nothing_gap)

            level : nat_abs v * den + num * L ≡ gap k num den u → gap k num den u ≤ gap k num den 0 → nat_abs v ≡ 0 → gap k num den 0 ≡ gap k num den u
            level h l z = nothing_gap ∙ sym (ap (λ (a : ℕ). a + num * L) (ap (λ (a : ℕ). a * den) z ∙ zero-mul den) ∙ none (num * L)) ∙ h
              where
                none : (a : ℕ) → 0 + a ≡ a
                none a = omega arith

  pub with_sign : (r : Float) → Rounded k s num den r → RoundedOnce k s x r
  with_sign r h =
      record {
        within = λ b.
            let n = h.within (λ c. b (subst (λ (a : ℕ). Beyond k a den) (sym (size_of s num)) c)) in (
              r,
              record {
                is_finite = finite_of_lem r s n.units L n.value;
                sign = sign_of_lem r s n.units L n.value;
                held = held_of k r s n.units n.value n.of_kind;
                nearest = near_any n.units n.nearest;
                even = tie_any n.units n.nearest n.even;
              },
              refl,
            );
        beyond = λ b. h.beyond (subst (λ (a : ℕ). Beyond k a den) (size_of s num) b);
      }

-- ---- by operator
pub bottom_pos : (r : Float) → 0 < (exact_of r).bottom
bottom_pos nan = lit< tt
bottom_pos (inf s) = lit< tt
bottom_pos (fin s m e) = down_pos e

pub size_pos : (z : ℤ) → (z ≡ pos 0 → ⊥) → 0 < nat_abs z
size_pos (pos zero) h = absurd (h refl)
size_pos (pos (suc n)) h = omega arith
size_pos (negsuc n) h = omega arith

module _ (k : Kind) (sized : Sized k) where
  once : (s : Bool) (x : Exact) (r : Float) → 0 < x.bottom → Made k s x r → RoundedOnce k s x r
  once s x r D m =
      subst (λ (z : ℤ). RoundedOnce k s (ratio z x.bottom) r) (sym m.top)
      (subst (RoundedOnce k s (ratio (signed_by s m.size) x.bottom)) (sym m.made)
      (with_sign k s m.size x.bottom D (round_to k s m.size x.bottom) (rounded k sized s m.size x.bottom D)))

  pub sum_rounded : SumRounded k
  sum_rounded x y f g = once (sum_sign x y) (plus (exact_of x) (exact_of y)) (add k x y) (mul-pos (bottom_pos x) (bottom_pos y)) (sum_made k x y f g)

  pub difference_rounded : DifferenceRounded k
  difference_rounded x y f g = once (difference_sign x y) (minus (exact_of x) (exact_of y)) (sub k x y) (mul-pos (bottom_pos x) (bottom_pos y)) (difference_made k x y f g)

  pub product_rounded : ProductRounded k
  product_rounded x y f g = once (product_sign x y) (times (exact_of x) (exact_of y)) (mul k x y) (mul-pos (bottom_pos x) (bottom_pos y)) (product_made k x y f g)

  pub quotient_rounded : QuotientRounded k
  quotient_rounded x y f g h =
      once (product_sign x y) (over (exact_of x) (exact_of y)) (div k x y) (mul-pos (size_pos (exact_of y).top h) (bottom_pos x)) (quotient_made k x y f g h)

  -- ---- and by conversion
  pub conversion_rounded : ConversionRounded k
  conversion_rounded x f = once (sign_of x) (exact_of x) (convert k x) (bottom_pos x) (conversion_made k x f)

  pub integer_rounded : IntegerRounded k
  integer_rounded z = once (own_sign z false) (ratio z 1) (of_integer k z) (lit< tt) (integer_made k z)

-- ---- what answers a value rounded once, by whether it is finite
pub answered : {A : Type 0} (k : Kind) (s : Bool) (x : Exact) (r : Float) (found : Float → A) {none answer : A} → RoundedOnce k s x r
    → (finite r ≡ true → answer ≡ found r) → (r ≡ inf s → answer ≡ none) → RoundedOr k s x found none answer
answered k s x r found h yes-finite infinite =
    record {
      within = λ b.
          let (v, n, e) = h.within b in
          (v, n, yes-finite (ap finite e ∙ n.is_finite) ∙ ap found e);
      beyond = λ b. infinite (h.beyond b);
    }
