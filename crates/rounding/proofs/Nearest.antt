-- Rounding is what its name says: `round_to` gives a value of the kind, none is nearer to the fraction, of two as near the one with the even last digit
-- is taken, and from half a step beyond the largest finite value on it gives the infinity. Assumes nothing.
use Rattle.std.proofs.Common.{◌≡◌, ℕ, suc, ◌+◌, ◌-◌, ◌*◌, ◌/◌, ◌%◌, ◌^◌, ◌<◌, ◌≤◌, Bool, ◌⊎◌, sym, refl, ap, ◌∙◌, subst, inl, inr, le_trans, le_of_eq, lt_of_lt_of_le, le_of_suc-le-suc, lt_of_le_of_lt, le_of_lt, lt_irrefl, mul-le-mul_right, mul_assoc, suc-mul, mul_comm, div-lt_iff_lt-mul, add-mul, lt_of_mul-lt-mul_right, eq-or-lt_of_le, mul-lt-mul_of_pos_right, mul-pos, lt_of_not-le, le-div_iff_mul-le, le_of_mul-le-mul_right, arith, pow_pos, pow_mono, pow-add, shl_lt, le-ltb, lt-ltb}
use native.Mathlib.Nat.{eq_of_mul-eq-mul_right}
use native.Mathlib.Nat.{pow-succ'}
use lib.Pow.{pow-lt}
use lib.Ieee.{Float, size}
use lib.Ieee.Digits.{size-le, size-lt, size_reaches}
use lib.Ieee.Exact.{HasValue, odd_sign}
use lib.Ieee.Nearest.{closest}
use Rattle.integer.proofs.Order.{le_or_lt}
use Rattle.rounding.specs.Kind.{Kind, least, limit, units_in, round_to}
use Rattle.rounding.specs.Nearest.{OfKind, distance, Beyond, Rounded}
use Rattle.rounding.proofs.Digits.{AllDigits, Written, written, twice, pow_lt_back}
use Rattle.rounding.proofs.Units.{Sized, units_in_lem, units_out}
use Rattle.rounding.proofs.Closest.{near, even_at_tie, within_half}
use Rattle.rounding.proofs.Pack.{kept_small, kept_all}

regroup : (q x d : ℕ) → q * x * d ≡ q * (d * x)
regroup q x d = mul_assoc q x d ∙ ap (λ (y : ℕ). q * y) (mul_comm x d)

-- a multiple of 2 ^ i is one of 2 ^ j where j is no more, and below 2 ^ p of them are below 2 ^ (p - 1) of 2 ^ j where j is more
pub longer : (j a i : ℕ) → j ≤ i → a * 2 ^ i ≡ a * 2 ^ (i - j) * 2 ^ j
longer j a i h = let e : i ≡ i - j + j = omega arith in ap (λ (x : ℕ). a * 2 ^ x) e ∙ ap (λ (x : ℕ). a * x) (pow-add 2 (i - j) j) ∙ sym (mul_assoc a (2 ^ (i - j)) (2 ^ j))

shorter : (p j a i : ℕ) → 2 ≤ p → a < 2 ^ p → i < j → a * 2 ^ i < 2 ^ (p - 1) * 2 ^ j
shorter p j a i two s h =
    let e : p + i ≤ p - 1 + j = omega arith in
    lt_of_lt_of_le (shl_lt p i s) (le_trans (pow_mono e) (le_of_eq (pow-add 2 (p - 1) j)))

-- ---- a value with a longer step than u's is a multiple of u's step, and one with a shorter is below a multiple that is no further than n
module _ (p n den j : ℕ) (two : 2 ≤ p) (D : 0 < den) (dropped : 0 < j → 2 ^ (p - 1) * 2 ^ j * den ≤ n) where
  -- v is w * 2 ^ j, or further away than 2 ^ (p - 1) * 2 ^ j is
  placed : (v a i : ℕ) → v ≡ a * 2 ^ i → a < 2 ^ p → ((w : ℕ) × (v ≡ w * 2 ^ j)) ⊎ (distance (2 ^ (p - 1) * 2 ^ j * den) n < distance (v * den) n)
  placed v a i e s =
      elim (le_or_lt j i) [
        | inl h ↦ inl (a * 2 ^ (i - j), e ∙ longer j a i h)
        | inr h ↦
            let b : v * den < 2 ^ (p - 1) * 2 ^ j * den = mul-lt-mul_of_pos_right (subst (λ (x : ℕ). x < 2 ^ (p - 1) * 2 ^ j) (sym e) (shorter p j a i two s h)) D in
            inr (beyond (v * den) (2 ^ (p - 1) * 2 ^ j * den) n b (dropped (positive i j h)))
      ]
    where
      positive : (i j : ℕ) → i < j → 0 < j
      positive i j h = omega arith

      beyond : (v b n : ℕ) → v < b → b ≤ n → distance b n < distance v n
      beyond v b n h l = omega arith

  abbrev Q : ℕ
  Q = closest n (den * 2 ^ j)

  step_pos : 0 < den * 2 ^ j
  step_pos = mul-pos D (pow_pos j)

  -- in multiples of 2 ^ j
  scaled : (w : ℕ) → distance (w * 2 ^ j * den) n ≡ distance (w * (den * 2 ^ j)) n
  scaled w = ap (λ (x : ℕ). distance x n) (regroup w (2 ^ j) den)

  none_nearer : (w : ℕ) → distance (Q * 2 ^ j * den) n ≤ distance (w * 2 ^ j * den) n
  none_nearer w = rw (scaled Q, scaled w) (near n (den * 2 ^ j) step_pos w)

  pub nearest_of : (v a i : ℕ) → v ≡ a * 2 ^ i → a < 2 ^ p → distance (Q * 2 ^ j * den) n ≤ distance (v * den) n
  nearest_of v a i e s =
      elim (placed v a i e s) [
        | inl (w, f) ↦ subst (λ (x : ℕ). distance (Q * 2 ^ j * den) n ≤ distance (x * den) n) (sym f) (none_nearer w)
        | inr f ↦ le_trans (none_nearer (2 ^ (p - 1))) (le_of_lt f)
      ]

  pub tie_of : (v a i : ℕ) → v ≡ a * 2 ^ i → a < 2 ^ p → distance (v * den) n ≡ distance (Q * 2 ^ j * den) n → (v ≡ Q * 2 ^ j) ⊎ (Q % 2 ≡ 0)
  tie_of v a i e s g =
      elim (placed v a i e s) [
        | inl (w, f) ↦
            elim (even_at_tie n (den * 2 ^ j) step_pos w (sym (scaled w) ∙ ap (λ (x : ℕ). distance (x * den) n) (sym f) ∙ g ∙ scaled Q)) [
              | inl o ↦ inl (f ∙ ap (λ (x : ℕ). x * 2 ^ j) o)
              | inr o ↦ inr o
            ]
        | inr f ↦ absurd (lt_irrefl (distance (v * den) n) (subst (λ (x : ℕ). x < distance (v * den) n) (sym g) (lt_of_le_of_lt (none_nearer (2 ^ (p - 1))) f)))
      ]

-- ---- q * 2 ^ j as the kind writes it: a value of the kind, whose last digit is even where q is
module _ (p q j : ℕ) (two : 2 ≤ p) (small : q ≤ 2 ^ p) (w : AllDigits p j q) where
  form : Written p q j
  form = written p q j (omega arith) small w

  pub even_of : q % 2 ≡ 0 → q * 2 ^ j / 2 ^ (size (q * 2 ^ j) - p) % 2 ≡ 0
  even_of h = go form
    where
      halved : (p : ℕ) → 2 ≤ p → 2 ^ (p - 1) % 2 ≡ 0
      halved p two = let e = twice (p - 1) (omega arith) in omega (arith, e)

      go : Written p q j → q * 2 ^ j / 2 ^ (size (q * 2 ^ j) - p) % 2 ≡ 0
      go (inl (z, e, s)) = ap (λ (x : ℕ). q * 2 ^ j / 2 ^ x % 2) z ∙ ap (λ (x : ℕ). x % 2) e ∙ h
      go (inr (t, z, e, n)) = ap (λ (x : ℕ). q * 2 ^ j / 2 ^ x % 2) z ∙ ap (λ (x : ℕ). x % 2) e ∙ halved p two

  pub of_kind_lem : (k : Kind) → k.digits ≡ p → q * 2 ^ j < limit k → OfKind k (q * 2 ^ j)
  of_kind_lem k d h = go form
    where
      go : Written p q j → OfKind k (q * 2 ^ j)
      go (inl (z, e, s)) = record { significand = q; exponent = j; value = refl; short = rw d s; within = h }
      go (inr (t, z, e, n)) = record { significand = 2 ^ (p - 1); exponent = suc j; value = n; short = rw d (pow-lt (omega arith)); within = h }

-- ---- the range: with O = 2 ^ (p + J) the first number past it and 2 ^ J the last step below, from O less half a step on q * 2 ^ j reaches O
module _ (p J n den j : ℕ) (two : 2 ≤ p) (D : 0 < den) (drop : j ≡ size (n / den) - p) where
  abbrev A : ℕ
  A = 2 ^ (p + J) * den

  abbrev B : ℕ
  B = den * 2 ^ J

  abbrev X : ℕ
  X = (2 * 2 ^ (p + J) - 2 ^ J) * den

  abbrev C : ℕ
  C = closest n (den * 2 ^ j)

  below_limit : 2 ^ J ≤ 2 ^ (p + J)
  below_limit = let h : J ≤ p + J = omega arith in pow_mono h

  x_and_b : X + B ≡ 2 * A
  x_and_b =
      let e : 2 * 2 ^ (p + J) - 2 ^ J + 2 ^ J ≡ 2 * 2 ^ (p + J) = omega (arith, below_limit) in
      ap (λ (x : ℕ). X + x) (mul_comm den (2 ^ J)) ∙ sym (add-mul (2 * 2 ^ (p + J) - 2 ^ J) (2 ^ J) den) ∙ ap (λ (x : ℕ). x * den) e ∙ mul_assoc 2 (2 ^ (p + J)) den

  a_is : A ≡ 2 ^ p * B
  a_is = ap (λ (x : ℕ). x * den) (pow-add 2 p J) ∙ regroup (2 ^ p) (2 ^ J) den

  b_pos : 0 < B
  b_pos = mul-pos D (pow_pos J)

  b_le_a : B ≤ A
  b_le_a = le_trans (le_of_eq (mul_comm den (2 ^ J))) (mul-le-mul_right den below_limit)

  -- under O at most p + J digits
  few : n < A → j ≤ J
  few h = let z : size (n / den) ≤ p + J = size-le (n / den) (p + J) ((div-lt_iff_lt-mul D).1 h) in omega arith

  many : (t : ℕ) → 2 ^ t * den ≤ n → t < size (n / den)
  many t h = pow_lt_back t (size (n / den)) (lt_of_le_of_lt ((le-div_iff_mul-le D).1 h) (size-lt (n / den)))

  at_last : n < A → X ≤ 2 * n → j ≡ J
  at_last h b =
      let e : p + J ≡ suc (p - 1 + J) = omega arith in
      let o : A ≡ 2 * (2 ^ (p - 1 + J) * den) = ap (λ (x : ℕ). 2 ^ x * den) e ∙ ap (λ (x : ℕ). x * den) (pow-succ' 2 (p - 1 + J)) ∙ mul_assoc 2 (2 ^ (p - 1 + J)) den in
      let m : p - 1 + J < size (n / den) = many (p - 1 + J) (omega (arith, o, x_and_b, b_le_a)) in
      omega (arith, few h)

  pub reaches : AllDigits p j C → X ≤ 2 * n → 2 ^ (p + J) ≤ C * 2 ^ j
  reaches w b = elim (le_or_lt A n) [ inl h ↦ far h | inr h ↦ last h ]
    where
      far : A ≤ n → 2 ^ (p + J) ≤ C * 2 ^ j
      far h =
          let z : p + J < size (n / den) = many (p + J) h in
          let e : p + J ≤ p - 1 + j = omega arith in
          le_trans (pow_mono e) (le_trans (le_of_eq (pow-add 2 (p - 1) j)) (mul-le-mul_right (2 ^ j) (top w)))
        where
          top : AllDigits p j C → 2 ^ (p - 1) ≤ C
          top (inl z) = let y : p + J < size (n / den) = many (p + J) h in absurd (omega arith)
          top (inr t) = t

      last : n < A → 2 ^ (p + J) ≤ C * 2 ^ j
      last h =
          let e : j ≡ J = at_last h b in
          let c : closest n B ≡ C = ap (λ (x : ℕ). closest n (den * 2 ^ x)) (sym e) in
          let r : 2 ^ p ≤ closest n B = full in
          le_trans (le_of_eq (pow-add 2 p J)) (subst (λ (x : ℕ). 2 ^ p * 2 ^ J ≤ x * 2 ^ j) c (subst (λ (x : ℕ). 2 ^ p * 2 ^ J ≤ closest n B * 2 ^ x) (sym e) (mul-le-mul_right (2 ^ J) r)))
        where
          full : 2 ^ p ≤ closest n B
          full =
              let half = within_half n B b_pos in
              let l : 2 ^ p * B ≤ suc (closest n B) * B = omega (arith, half.0, x_and_b, a_is, suc-mul (closest n B) B) in
              elim (eq-or-lt_of_le (le_of_mul-le-mul_right l b_pos)) [
                | inr g ↦ le_of_suc-le-suc g
                | inl g ↦ absurd (no_tie g)
              ]
            where
              -- the tie below O is not taken by the odd number
              no_tie : 2 ^ p ≡ suc (closest n B) → ⊥
              no_tie g =
                  let half = within_half n B b_pos in
                  let s : suc (closest n B) * B ≡ closest n B * B + B = suc-mul (closest n B) B in
                  let a : A ≡ closest n B * B + B = a_is ∙ ap (λ (x : ℕ). x * B) g ∙ s in
                  let t : distance (suc (closest n B) * B) n ≡ distance (closest n B * B) n = omega (arith, s, a, x_and_b, half.0, half.1) in
                  elim (even_at_tie n B b_pos (suc (closest n B)) t) [
                    | inl o ↦ omega arith
                    | inr o ↦ omega (arith, twice p (omega arith))
                  ]

  pub stays : C ≤ 2 ^ p → 2 * n < X → C * 2 ^ j < 2 ^ (p + J)
  stays small b =
      let h : n < A = omega (arith, x_and_b) in
      elim (eq-or-lt_of_le (few h)) [
        | inr l ↦ let m : p + j < p + J = omega arith in lt_of_le_of_lt (le_trans (mul-le-mul_right (2 ^ j) small) (le_of_eq (sym (pow-add 2 p j)))) (pow-lt m)
        | inl e ↦ subst (λ (x : ℕ). closest n (den * 2 ^ x) * 2 ^ x < 2 ^ (p + J)) (sym e) (shl_lt p J (lt_of_mul-lt-mul_right B (omega (arith, (within_half n B b_pos).1, x_and_b, a_is))))
      ]

-- ---- the law
module _ (k : Kind) (sized : Sized k) (s : Bool) (num den : ℕ) (D : 0 < den) where
  abbrev N : ℕ
  N = num * 2 ^ least k

  abbrev E : ℕ
  E = size (N / den) - k.digits

  abbrev U : ℕ
  U = closest N (den * 2 ^ E)

  is : round_to k s num den ≡ units_in k s U E
  unfolding round_to
  is = refl

  whole : AllDigits k.digits E U
  whole = kept_all k.digits N den (omega (arith, sized.two))

  dropped : 0 < E → 2 ^ (k.digits - 1) * 2 ^ E * den ≤ N
  dropped g =
      let reached : 2 ^ (k.digits - 1 + E) ≤ N / den = size_reaches (N / den) (k.digits - 1 + E) (one_less (size (N / den)) k.digits sized.two g) in
      (le-div_iff_mul-le D).0 (le_trans (le_of_eq (sym (pow-add 2 (k.digits - 1) E))) reached)
    where
      one_less : (z p : ℕ) → 2 ≤ p → 0 < z - p → p - 1 + (z - p) < z
      one_less z p t h = omega arith

  last_step : least k + suc k.reach ≡ k.digits + (2 * k.reach - 1)
  last_step = omega (arith, sized.two, sized.one)

  limit_is : limit k ≡ 2 ^ (k.digits + (2 * k.reach - 1))
  limit_is = ap (λ (x : ℕ). 2 ^ x) last_step

  reaches_limit : Beyond k num den → limit k ≤ U * 2 ^ E
  reaches_limit b = rw limit_is (reaches k.digits (2 * k.reach - 1) N den E sized.two D refl whole (rw limit_is at b))

  stays_under : (Beyond k num den → ⊥) → U * 2 ^ E < limit k
  stays_under b =
      let h : 2 * N < (2 * limit k - 2 ^ (2 * k.reach - 1)) * den = lt_of_not-le b in
      rw limit_is (stays k.digits (2 * k.reach - 1) N den E sized.two D refl (kept_small k.digits N den) (rw limit_is at h))

  pub rounded : Rounded k s num den (round_to k s num den)
  rounded =
      record {
        beyond = λ b. is ∙ units_out k s U E (le-ltb (U * 2 ^ E) (limit k) (reaches_limit b));
        within = λ b.
            let h = stays_under b in
            record {
              units = U * 2 ^ E;
              value = subst (λ (x : Float). HasValue x s (U * 2 ^ E) (2 ^ least k)) (sym (is ∙ units_in_lem k s U E (lt-ltb (U * 2 ^ E) (limit k) h))) (odd_sign (suc k.digits) s U E (least k));
              of_kind = of_kind_lem k.digits U E sized.two (kept_small k.digits N den) whole k refl h;
              nearest = λ v g. nearest_of k.digits N den E sized.two D dropped v g.significand g.exponent g.value g.short;
              even = λ v g t.
                  elim (tie_of k.digits N den E sized.two D dropped v g.significand g.exponent g.value g.short t) [
                    | inl o ↦ inl o
                    | inr o ↦ inr (even_of k.digits U E sized.two (kept_small k.digits N den) whole o)
                  ];
            };
      }

-- ---- a fraction that is a value of the kind stays what it is
module _ (k : Kind) (sized : Sized k) (s : Bool) (num den : ℕ) (D : 0 < den) (v : ℕ) (of_kind : OfKind k v) (same : v * den ≡ num * 2 ^ least k) where
  abbrev J : ℕ
  J = 2 * k.reach - 1

  -- no value is above the last step below `limit`
  under_last : v + 2 ^ J ≤ limit k
  under_last = rw (limit_is k sized s num den D, pow-add) (elim (le_or_lt J of_kind.exponent) [ inl h ↦ stepped h | inr h ↦ fine h ])
    where
      stepped : J ≤ of_kind.exponent → v + 2 ^ J ≤ 2 ^ k.digits * 2 ^ J
      stepped h =
          let w = of_kind.significand * 2 ^ (of_kind.exponent - J) in
          let e : v ≡ w * 2 ^ J = of_kind.value ∙ longer J of_kind.significand of_kind.exponent h in
          let o : limit k ≡ 2 ^ k.digits * 2 ^ J = limit_is k sized s num den D ∙ pow-add 2 k.digits J in
          let l : w * 2 ^ J < 2 ^ k.digits * 2 ^ J = subst (λ (x : ℕ). x < 2 ^ k.digits * 2 ^ J) e (lt_of_lt_of_le of_kind.within (le_of_eq o)) in
          subst (λ (x : ℕ). x + 2 ^ J ≤ 2 ^ k.digits * 2 ^ J) (sym e) (le_trans (le_of_eq (sym (suc-mul w (2 ^ J)))) (mul-le-mul_right (2 ^ J) (lt_of_mul-lt-mul_right (2 ^ J) l)))

      fine : of_kind.exponent < J → v + 2 ^ J ≤ 2 ^ k.digits * 2 ^ J
      fine h =
          let under = shorter k.digits J of_kind.significand of_kind.exponent sized.two of_kind.short h in
          let l : v < 2 ^ (k.digits - 1) * 2 ^ J = subst (λ (x : ℕ). x < 2 ^ (k.digits - 1) * 2 ^ J) (sym of_kind.value) under in
          let two : 2 ^ k.digits ≡ 2 * 2 ^ (k.digits - 1) = twice k.digits (omega (arith, sized.two)) in
          let t : 2 ^ k.digits * 2 ^ J ≡ 2 * (2 ^ (k.digits - 1) * 2 ^ J) = ap (λ (x : ℕ). x * 2 ^ J) two ∙ mul_assoc 2 (2 ^ (k.digits - 1)) (2 ^ J) in
          let o : 1 * 2 ^ J ≤ 2 ^ (k.digits - 1) * 2 ^ J = mul-le-mul_right (2 ^ J) (pow_pos (k.digits - 1)) in
          omega arith

  not_beyond : Beyond k num den → ⊥
  not_beyond b =
      let l : 2 * limit k - 2 ^ J ≤ 2 * v = le_of_mul-le-mul_right (le_trans b (le_of_eq (ap (λ (x : ℕ). 2 * x) (sym same) ∙ sym (mul_assoc 2 v den)))) D in
      omega (arith, under_last, pow_pos J)

  pub value_stays : HasValue (round_to k s num den) s v (2 ^ least k)
  value_stays =
      let r = (rounded k sized s num den D).within not_beyond in
      let g : distance (r.units * den) (num * 2 ^ least k) ≤ distance (v * den) (num * 2 ^ least k) = r.nearest v of_kind in
      let e : r.units * den ≡ v * den = omega (arith, same) in
      subst (λ (x : ℕ). HasValue (round_to k s num den) s x (2 ^ least k)) (eq_of_mul-eq-mul_right den D r.units v e) r.value
