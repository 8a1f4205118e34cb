-- "Rounded once" leaves one answer: two values of a kind that are nearest to one number, each with an even last digit at a tie, are the same, since of two
-- neighbours one is odd. So two floats that the claims of `specs/Rounded.antt` permit have the same bits. Assumes nothing.
use Rattle.std.proofs.Common.{◌≡◌, ℕ, suc, ◌+◌, ◌-◌, ◌*◌, ◌/◌, ◌%◌, ◌^◌, ◌<◌, ◌≤◌, Bool, true, false, cond, not, ◌⊎◌, ℤ, pos, nat_abs, sym, refl, ap, ◌∙◌, subst, inl, inr, le_trans, le_of_eq, lt_of_lt_of_le, lt_of_le_of_lt, le_of_lt, mul-le-mul_right, eq-zero-or-pos, le_antisymm, lt_of_mul-lt-mul_right, eq-or-lt_of_le, mul-lt-mul_of_pos_right, mul-pos, not-le_of_lt, le_of_mul-le-mul_right, mul-div_cancel, arith, pow_pos, pow_mono, pow-add, shl_lt}
use mathlib.Core.Bool.{false≢true}
use lib.Ieee.{Float, nan, inf, fin, up, down, size}
use lib.Ieee.Digits.{size-le, size-lt, size_reaches}
use Rattle.integer.proofs.Order.{le_or_lt}
use Rattle.rounding.specs.Kind.{Kind, least, limit}
use Rattle.rounding.specs.Bits.{signed, to_bits}
use Rattle.rounding.specs.Nearest.{OfKind, Even, gap, distance}
use Rattle.rounding.specs.Rounded.{Exact, ratio, signed_by, away, NearestTo, RoundedOnce}
use Rattle.rounding.proofs.Digits.{AllDigits, Written, written, field}
use Rattle.rounding.proofs.Nearest.{longer, of_kind_lem}
use Rattle.rounding.proofs.Rounded.{like, unlike_by, nothing_gap, nothing_of_kind}
use Rattle.rounding.proofs.Signs.{size_of, no_size, side, by_size, size_times}
use Rattle.rounding.proofs.Units.{Sized, bits_of}

-- ---- a value of the kind, with the digits that the kind writes
module _ (k : Kind) (sized : Sized k) (u : ℕ) (o : OfKind k u) where
  -- how many digits it drops, and what it keeps
  abbrev pub J : ℕ
  J = size u - k.digits

  abbrev pub Q : ℕ
  Q = o.significand * 2 ^ (o.exponent - J)

  drops_few : J ≤ o.exponent
  drops_few =
      let h : u < 2 ^ (k.digits + o.exponent) = subst (λ (x : ℕ). x < 2 ^ (k.digits + o.exponent)) (sym o.value) (shl_lt k.digits o.exponent o.short) in
      omega (arith, size-le u (k.digits + o.exponent) h)

  pub kept_is : u ≡ Q * 2 ^ J
  kept_is = o.value ∙ longer J o.significand o.exponent drops_few

  pub kept_all : AllDigits k.digits J Q
  kept_all = elim (eq-zero-or-pos J) [ inl z ↦ inl z | inr p ↦ inr (reach p) ]
    where
      reach : 0 < J → 2 ^ (k.digits - 1) ≤ Q
      reach p =
          let l : k.digits - 1 + J < size u = omega (arith, sized.two) in
          le_of_mul-le-mul_right (le_trans (le_of_eq (sym (pow-add 2 (k.digits - 1) J))) (le_trans (size_reaches u (k.digits - 1 + J) l) (le_of_eq kept_is))) (pow_pos J)

  pub last_digit : Even k u → Q % 2 ≡ 0
  last_digit e = ap (λ (x : ℕ). x % 2) (sym (ap (λ (x : ℕ). x / 2 ^ J) kept_is ∙ mul-div_cancel Q (pow_pos J))) ∙ e

  pub kept_short : Q < 2 ^ k.digits
  kept_short =
      let l : size u ≤ k.digits + J = omega arith in
      let h : u < 2 ^ k.digits * 2 ^ J = lt_of_lt_of_le (size-lt u) (le_trans (pow_mono l) (le_of_eq (pow-add 2 k.digits J))) in
      lt_of_mul-lt-mul_right (2 ^ J) (subst (λ (x : ℕ). x < 2 ^ k.digits * 2 ^ J) kept_is h)

-- ---- of two neighbours one is odd
module _ (k : Kind) (sized : Sized k) (u w : ℕ) (o : OfKind k u) (o' : OfKind k w) (below : u < w) where
  abbrev j : ℕ
  j = J k sized u o

  abbrev q : ℕ
  q = Q k sized u o

  -- w in steps of u's
  abbrev m : ℕ
  m = Q k sized w o' * 2 ^ (J k sized w o' - j)

  P : 0 < k.digits
  P = omega (arith, sized.two)

  w_is : w ≡ m * 2 ^ j
  w_is =
      let l : size u ≤ size w = size-le u (size w) (lt_of_lt_of_le below (le_of_lt (size-lt w))) in
      let g : j ≤ J k sized w o' = omega arith in
      kept_is k sized w o' ∙ longer j (Q k sized w o') (J k sized w o') g

  pub next_le : suc q * 2 ^ j ≤ w
  next_le =
      let h : q * 2 ^ j < m * 2 ^ j = subst (λ (x : ℕ). x < m * 2 ^ j) (kept_is k sized u o) (lt_of_lt_of_le below (le_of_eq w_is)) in
      le_trans (mul-le-mul_right (2 ^ j) (lt_of_mul-lt-mul_right (2 ^ j) h)) (le_of_eq (sym w_is))

  next_all : AllDigits k.digits j (suc q)
  next_all = elim (kept_all k sized u o) [ inl z ↦ inl z | inr h ↦ inr (omega arith) ]

  pub next_of_kind : OfKind k (suc q * 2 ^ j)
  next_of_kind = of_kind_lem k.digits (suc q) j sized.two (kept_short k sized u o) next_all k refl (lt_of_le_of_lt next_le o'.within)

  -- with none between them
  module _ (none : (v : ℕ) → OfKind k v → u < v → v < w → ⊥) where
    w_next : suc q * 2 ^ j ≡ w
    w_next =
        elim (eq-or-lt_of_le next_le) [
          | inl e ↦ e
          | inr h ↦ absurd (none (suc q * 2 ^ j) next_of_kind
              (subst (λ (x : ℕ). x < suc q * 2 ^ j) (sym (kept_is k sized u o)) (mul-lt-mul_of_pos_right (lt_suc q) (pow_pos j))) h)
        ]
      where
        lt_suc : (q : ℕ) → q < suc q
        lt_suc q = omega arith

    pub not_both_even : Even k u → Even k w → ⊥
    not_both_even e f = go (written k.digits (suc q) j P (kept_short k sized u o) next_all)
      where
        even : q % 2 ≡ 0
        even = last_digit k sized u o e

        go : Written k.digits (suc q) j → ⊥
        go (inl (z, d, s)) =
            let g : suc q % 2 ≡ 0 = sym (ap (λ (x : ℕ). suc q * 2 ^ j / 2 ^ x % 2) z ∙ ap (λ (x : ℕ). x % 2) d) ∙ subst (Even k) (sym w_next) f in
            omega (arith, even)
        go (inr (t, z, d, n)) = omega (arith, even)

-- ---- so the nearest is one
module _ (k : Kind) (sized : Sized k) (num den : ℕ) (D : 0 < den) where
  abbrev Near : ℕ → Type 0
  Near u = (v : ℕ) → OfKind k v → gap k num den u ≤ gap k num den v

  abbrev Tie : ℕ → Type 0
  Tie u = (v : ℕ) → OfKind k v → gap k num den v ≡ gap k num den u → (v ≡ u) ⊎ Even k u

  ordered : (u w : ℕ) → OfKind k u → OfKind k w → Near u → Near w → Tie u → Tie w → u < w → ⊥
  ordered u w o o' near near' tie tie' h =
      let g : gap k num den u ≡ gap k num den w = le_antisymm (near w o') (near' u o) in
      elim (tie w o' (sym g)) [
        | inl e ↦ omega arith
        | inr e ↦ elim (tie' u o g) [ inl f ↦ omega arith | inr f ↦ not_both_even k sized u w o o' h (between g) e f ]
      ]
    where
      inside : (a b c n : ℕ) → a < b → b < c → distance a n ≡ distance c n → distance b n < distance a n
      inside a b c n h i e = omega arith

      between : gap k num den u ≡ gap k num den w → (v : ℕ) → OfKind k v → u < v → v < w → ⊥
      between g v p l r =
          let s = inside (u * den) (v * den) (w * den) (num * 2 ^ least k) (mul-lt-mul_of_pos_right l D) (mul-lt-mul_of_pos_right r D) g in
          let t : gap k num den u ≤ gap k num den v = near v p in
          omega arith

  one_size : (u w : ℕ) → OfKind k u → OfKind k w → Near u → Near w → Tie u → Tie w → u ≡ w
  one_size u w o o' near near' tie tie' =
      elim (le_or_lt u w) [
        | inl l ↦ elim (eq-or-lt_of_le l) [ inl e ↦ e | inr h ↦ absurd (ordered u w o o' near near' tie tie' h) ]
        | inr h ↦ absurd (ordered w u o' o near' near tie' tie h)
      ]

-- ---- with signs
abbrev NearZ : Kind → Exact → ℤ → Type 0
NearZ k x a = (v : ℤ) → OfKind k (nat_abs v) → away k x a ≤ away k x v

abbrev TieZ : Kind → Exact → ℤ → Type 0
TieZ k x a = (v : ℤ) → OfKind k (nat_abs v) → away k x v ≡ away k x a → (v ≡ a) ⊎ Even k (nat_abs a)

module _ (k : Kind) (sized : Sized k) (t : Bool) (num den : ℕ) (D : 0 < den) where
  abbrev x : Exact
  x = ratio (signed_by t num) den

  of_signed : (v : ℕ) → OfKind k v → OfKind k (nat_abs (signed_by t v))
  of_signed v o = subst (OfKind k) (sym (size_of t v)) o

  -- the nearest has the number's own sign, or is 0
  own_side : (a : ℤ) → NearZ k x a → a ≡ signed_by t (nat_abs a)
  own_side a near =
      elim (side t a) [
        | inl e ↦ e
        | inr e ↦
            let l : away k x (signed_by (not t) (nat_abs a)) ≤ away k x (signed_by t 0)
            = subst (λ (z : ℤ). away k x z ≤ away k x (signed_by t 0)) e (near (signed_by t 0) (of_signed 0 (nothing_of_kind k))) in
            let z : nat_abs a ≡ 0 = elim (eq-zero-or-pos (nat_abs a)) [ inl z ↦ z | inr p ↦ absurd (far l (mul-pos p D)) ] in
            e ∙ ap (signed_by (not t)) z ∙ no_size (not t) ∙ sym (no_size t) ∙ ap (signed_by t) (sym z)
      ]
    where
      far : away k x (signed_by (not t) (nat_abs a)) ≤ away k x (signed_by t 0) → 0 < nat_abs a * den → ⊥
      far l p = omega (arith, unlike_by k t num den D (nat_abs a), like k t num den D 0, nothing_gap k t num den D)

  module _ (a : ℤ) (near : NearZ k x a) where
    size_away : away k x a ≡ gap k num den (nat_abs a)
    size_away = ap (away k x) (own_side a near) ∙ like k t num den D (nat_abs a)

    near_size : Near k sized num den D (nat_abs a)
    near_size v o = le_trans (le_of_eq (sym size_away)) (le_trans (near (signed_by t v) (of_signed v o)) (le_of_eq (like k t num den D v)))

    tie_size : TieZ k x a → Tie k sized num den D (nat_abs a)
    tie_size tie v o g =
        elim (tie (signed_by t v) (of_signed v o) (like k t num den D v ∙ g ∙ sym size_away)) [
          | inl e ↦ inl (sym (size_of t v) ∙ ap nat_abs e)
          | inr e ↦ inr e
        ]

  one : (a b : ℤ) → OfKind k (nat_abs a) → OfKind k (nat_abs b) → NearZ k x a → NearZ k x b → TieZ k x a → TieZ k x b → a ≡ b
  one a b o o' near near' tie tie' =
      own_side a near
      ∙ ap (signed_by t) (one_size k sized num den D (nat_abs a) (nat_abs b) o o' (near_size a near) (near_size b near') (tie_size a near tie) (tie_size b near' tie'))
      ∙ sym (own_side b near')

-- ---- two floats that a claim permits have the same bits
module _ (k : Kind) (sized : Sized k) (s : Bool) (x : Exact) (D : 0 < x.bottom) where
  one_nearest : {r r' : Float} (a : NearestTo k s x r) (b : NearestTo k s x r') → a.held.units ≡ b.held.units
  one_nearest a b = elim (side false x.top) [ inl e ↦ at false e | inr e ↦ at true e ]
    where
      at : (t : Bool) → x.top ≡ signed_by t (nat_abs x.top) → a.held.units ≡ b.held.units
      at t e =
          one k sized t (nat_abs x.top) x.bottom D a.held.units b.held.units a.held.of_kind b.held.of_kind
          (subst (λ (z : ℤ). NearZ k (ratio z x.bottom) a.held.units) e a.nearest)
          (subst (λ (z : ℤ). NearZ k (ratio z x.bottom) b.held.units) e b.nearest)
          (subst (λ (z : ℤ). TieZ k (ratio z x.bottom) a.held.units) e a.even)
          (subst (λ (z : ℤ). TieZ k (ratio z x.bottom) b.held.units) e b.even)

  bits_are : (r : Float) (a : NearestTo k s x r) → to_bits k r ≡ cond s (signed k) 0 + field k.digits (nat_abs a.held.units)
  bits_are nan a = absurd (false≢true a.is_finite)
  bits_are (inf t) a = absurd (false≢true a.is_finite)
  bits_are (fin t m e) a =
      bits_of k t m e (nat_abs a.held.units)
      (sym (ap nat_abs (by_size t (m * up e) (2 ^ least k)) ∙ size_of t (m * up e * 2 ^ least k)) ∙ ap nat_abs a.held.value ∙ size_times a.held.units (pos (down e)))
      ∙ ap (λ (b : Bool). cond b (signed k) 0 + field k.digits (nat_abs a.held.units)) a.sign

  nearest_bits : (r r' : Float) → NearestTo k s x r → NearestTo k s x r' → to_bits k r ≡ to_bits k r'
  nearest_bits r r' a b = bits_are r a ∙ ap (λ (z : ℤ). cond s (signed k) 0 + field k.digits (nat_abs z)) (one_nearest a b) ∙ sym (bits_are r' b)

  pub one_rounded : (r r' : Float) → RoundedOnce k s x r → RoundedOnce k s x r' → to_bits k r ≡ to_bits k r'
  one_rounded r r' a b =
      elim (le_or_lt ((2 * limit k - 2 ^ (2 * k.reach - 1)) * x.bottom) (2 * (nat_abs x.top * 2 ^ least k))) [
        | inl h ↦ ap (to_bits k) (a.beyond h ∙ sym (b.beyond h))
        | inr h ↦
            let (v, n, e) = a.within (λ t. not-le_of_lt h t) in
            let (v', n', e') = b.within (λ t. not-le_of_lt h t) in
            ap (to_bits k) e ∙ nearest_bits v v' n n' ∙ sym (ap (to_bits k) e')
      ]
