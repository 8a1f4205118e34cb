-- Rounded to F32 and then to F16 is rounded once to F16, where no number but the middle of two F16 itself rounds to that middle in F32. Assumes nothing.
use Rattle.std.proofs.Common.{◌≡◌, ℕ, zero, suc, ◌+◌, ◌-◌, ◌*◌, ◌%◌, ◌^◌, ◌<◌, ◌≤◌, Bool, ◌⊎◌, sym, refl, ap, ◌∙◌, subst, ap₂, inl, inr, le_trans, le_of_eq, lt_of_lt_of_le, le_of_lt, lt_irrefl, mul-le-mul_right, mul_assoc, mul_comm, add-mul, le_antisymm, eq-or-lt_of_le, mul-lt-mul_of_pos_right, mul_right_comm, le_of_mul-le-mul_right, arith, lit<, lit≤, pow_pos, pow-add, shl_lt}
use lib.Ieee.{Float}
use lib.Ieee.Exact.{HasValue}
use Rattle.integer.proofs.Order.{le_or_lt}
use Rattle.rounding.specs.Kind.{Kind, half, single, round_to, convert}
use Rattle.rounding.specs.Nearest.{OfKind, Even, Beyond, Rounded, gap, distance}
use Rattle.rounding.proofs.Digits.{twice}
use Rattle.rounding.proofs.Nearest.{rounded}
use Rattle.rounding.proofs.Pack.{odd_round}
use Rattle.rounding.proofs.Signs.{scaled}
use Rattle.rounding.proofs.Units.{Sized, half_sized, single_sized}
use Rattle.rounding.proofs.Unique.{Q, J, kept_is, kept_all, kept_short, next_le, next_of_kind}

-- ---- neighbours: u and w of the kind, whose middle is half of c * 2 ^ j of the smallest values
abbrev pub Middle : Kind → ℕ → ℕ → Type 0
Middle k c j = (c % 2 ≡ 1) × (c < 2 * 2 ^ k.digits) × ((j ≡ 0) ⊎ (2 ^ k.digits ≤ c))

pub record Neighbours (k : Kind) (u w : ℕ) : Type 0 where
  pub first : OfKind k u
  pub second : OfKind k w
  pub below : u < w
  pub odd_part : ℕ
  pub exponent : ℕ
  pub sum : u + w ≡ odd_part * 2 ^ exponent
  pub middle : Middle k odd_part exponent

module _ (k : Kind) (sized : Sized k) where
  next : (u v : ℕ) → OfKind k u → OfKind k v → u < v → (w : ℕ) × Neighbours k u w × (w ≤ v)
  next u v o o' h =
      let q = Q k sized u o in
      let j = J k sized u o in
      let e : u ≡ q * 2 ^ j = kept_is k sized u o in
      let t : 2 ^ k.digits ≡ 2 * 2 ^ (k.digits - 1) = twice k.digits (omega (arith, sized.two)) in (
        suc q * 2 ^ j,
        record {
          first = o;
          second = next_of_kind k sized u v o o' h;
          below = subst (λ (x : ℕ). x < suc q * 2 ^ j) (sym e) (mul-lt-mul_of_pos_right (more q) (pow_pos j));
          odd_part = q + suc q;
          exponent = j;
          sum = ap (λ (x : ℕ). x + suc q * 2 ^ j) e ∙ sym (add-mul q (suc q) (2 ^ j));
          middle = (odd_sum q, short q (2 ^ k.digits) (kept_short k sized u o), elim (kept_all k sized u o) [ inl z ↦ inl z | inr g ↦ inr (full q (2 ^ k.digits) (2 ^ (k.digits - 1)) t g) ]);
        },
        next_le k sized u v o o' h,
      )
    where
      more : (q : ℕ) → q < suc q
      more q = omega arith

      odd_sum : (q : ℕ) → (q + suc q) % 2 ≡ 1
      odd_sum q = omega arith

      short : (q p : ℕ) → q < p → q + suc q < 2 * p
      short q p h = omega arith

      full : (q p h : ℕ) → p ≡ 2 * h → h ≤ q → p ≤ q + suc q
      full q p h e l = omega arith

  -- from v up to u's own neighbour below
  before : (n u v : ℕ) → OfKind k u → OfKind k v → v < u → u - v ≤ n → (w : ℕ) × Neighbours k w u × (v ≤ w)
  before zero u v o o' h l = absurd (omega arith)
  before (suc n) u v o o' h l =
      let (w, a, b) = next v u o' o h in
      elim (eq-or-lt_of_le b) [
        | inl e ↦ (v, subst (Neighbours k v) e a, omega arith)
        | inr g ↦
            let (x, c, d) = before n u w o a.second g (fewer a.below) in
            (x, c, le_trans (le_of_lt a.below) d)
      ]
    where
      fewer : {w : ℕ} → v < w → u - w ≤ n
      fewer p = omega arith

-- ---- how far from n, on plain numbers
not_under : (w h n : ℕ) → distance w n ≤ distance h n → w < h → h ≤ n → ⊥
not_under w h n d l g = omega arith

not_over : (w h n : ℕ) → distance w n ≤ distance h n → h < w → n ≤ h → ⊥
not_over w h n d l g = omega arith

middle_low : (a b m n : ℕ) → 2 * m ≡ a + b → a < b → distance a n ≤ distance b n → n ≤ m
middle_low a b m n e l d = omega arith

middle_high : (a b m n : ℕ) → 2 * m ≡ a + b → a < b → distance b n ≤ distance a n → m ≤ n
middle_high a b m n e l d = omega arith

middle_level : (a b m n : ℕ) → 2 * m ≡ a + b → a < b → n ≡ m → distance a n ≡ distance b n
middle_level a b m n e l d = omega arith

doubled : (m n s : ℕ) → 2 * m ≡ s → n ≤ m → 2 * n ≤ s
doubled m n s e l = omega arith

doubled_up : (m n s : ℕ) → 2 * m ≡ s → m ≤ n → s ≤ 2 * n
doubled_up m n s e l = omega arith

halved : (m n s : ℕ) → 2 * m ≡ s → 2 * n ≡ s → m ≡ n
halved m n s e f = omega arith

past_high : (a b c n : ℕ) → a < b → b ≤ c → 2 * n ≤ a + b → distance a n ≤ distance c n
past_high a b c n l g h = omega arith

past_low : (a b c n : ℕ) → a < b → c ≤ a → a + b ≤ 2 * n → distance b n ≤ distance c n
past_low a b c n l g h = omega arith

tied_high : (a b c n : ℕ) → a < b → b ≤ c → 2 * n ≤ a + b → distance c n ≡ distance a n → 2 * n ≡ a + b
tied_high a b c n l g h e = omega arith

tied_low : (a b c n : ℕ) → a < b → c ≤ a → a + b ≤ 2 * n → distance c n ≡ distance b n → 2 * n ≡ a + b
tied_low a b c n l g h e = omega arith

-- ---- a number num / den, and its nearest F32, W smallest ones
abbrev T : ℕ → ℕ
T u = u * 2 ^ 125

abbrev pub NearSingle : ℕ → ℕ → ℕ → Type 0
NearSingle num den w = (v : ℕ) → OfKind single v → gap single num den w ≤ gap single num den v

-- no number but a middle itself rounds to it in F32
abbrev pub Clear : ℕ → ℕ → Type 0
Clear num den = (c j : ℕ) → Middle half c j → c * 2 ^ (j + 124) < 2 ^ 166 → NearSingle num den (c * 2 ^ (j + 124)) → c * 2 ^ (j + 124) * den ≡ num * 2 ^ 149

pub middle_kind : (c j : ℕ) → Middle half c j → c * 2 ^ (j + 124) < 2 ^ 166 → OfKind single (c * 2 ^ (j + 124))
middle_kind c j m b = record { significand = c; exponent = j + 124; value = refl; short = lt_of_lt_of_le m.1 (lit≤ tt); within = lt_of_lt_of_le b (lit≤ tt) }

module _ (num den : ℕ) (D : 0 < den) (clear : Clear num den) (W : ℕ) (near : NearSingle num den W) where
  abbrev A : ℕ
  A = num * 2 ^ 149

  -- the number and W lie on the same side of every middle
  module _ (c j : ℕ) (mid : Middle half c j) (bound : c * 2 ^ (j + 124) < 2 ^ 166) where
    abbrev H : ℕ
    H = c * 2 ^ (j + 124)

    o : OfKind single H
    o = middle_kind c j mid bound

    up : H * den ≤ A → H ≤ W
    up l = elim (le_or_lt H W) [ inl h ↦ h | inr h ↦ absurd (not_under (W * den) (H * den) A (near H o) (mul-lt-mul_of_pos_right h D) l) ]

    down : A ≤ H * den → W ≤ H
    down l = elim (le_or_lt W H) [ inl h ↦ h | inr h ↦ absurd (not_over (W * den) (H * den) A (near H o) (mul-lt-mul_of_pos_right h D) l) ]

    at : W ≡ H → H * den ≡ A
    at e = clear c j mid bound (subst (NearSingle num den) e near)

    low : W ≤ H → A ≤ H * den
    low l = elim (le_or_lt A (H * den)) [ inl h ↦ h | inr h ↦ le_of_eq (sym (at (le_antisymm l (up (le_of_lt h))))) ]

    high : H ≤ W → H * den ≤ A
    high l = elim (le_or_lt (H * den) A) [ inl h ↦ h | inr h ↦ le_of_eq (at (le_antisymm (down (le_of_lt h)) l)) ]

  -- ---- two neighbours among the F16, and how near they are to both
  middle_of : (c j : ℕ) → 2 * (c * 2 ^ (j + 124)) ≡ c * 2 ^ j * 2 ^ 125
  middle_of c j =
      ap (λ (x : ℕ). 2 * (c * x)) (pow-add 2 j 124) ∙ turn c (2 ^ j)
    where
      turn : (c p : ℕ) → 2 * (c * (p * 2 ^ 124)) ≡ c * p * 2 ^ 125
      turn c p = ap (λ (x : ℕ). 2 * x) (sym (mul_assoc c p (2 ^ 124))) ∙ mul_comm 2 (c * p * 2 ^ 124) ∙ mul_assoc (c * p) (2 ^ 124) 2

  module _ (u w : ℕ) (n : Neighbours half u w) where
    abbrev M : ℕ
    M = n.odd_part * 2 ^ (n.exponent + 124)

    both : 2 * M ≡ T u + T w
    both = middle_of n.odd_part n.exponent ∙ ap (λ (x : ℕ). x * 2 ^ 125) (sym n.sum) ∙ add-mul u w (2 ^ 125)

    both_den : 2 * (M * den) ≡ T u * den + T w * den
    both_den = sym (mul_assoc 2 M den) ∙ ap (λ (x : ℕ). x * den) both ∙ add-mul (T u) (T w) den

    M-bound : M < 2 ^ 166
    M-bound = lt_of_lt_of_le (half_size (T u) (T w) M (2 ^ 165) both (shl_lt 40 125 n.first.within) (shl_lt 40 125 n.second.within)) (lit≤ tt)
      where
        half_size : (a b m p : ℕ) → 2 * m ≡ a + b → a < p → b < p → m < p
        half_size a b m p e f g = omega arith

    T-below : T u < T w
    T-below = mul-lt-mul_of_pos_right n.below (pow_pos 125)

    T-den : T u * den < T w * den
    T-den = mul-lt-mul_of_pos_right T-below D

    -- W no nearer to w than to u, and so the number, and the other way round
    stays_low : distance (T u) W ≤ distance (T w) W → 2 * A ≤ T u * den + T w * den
    stays_low l = doubled (M * den) A (T u * den + T w * den) both_den (low n.odd_part n.exponent n.middle M-bound (middle_low (T u) (T w) M W both T-below l))

    stays_high : distance (T w) W ≤ distance (T u) W → T u * den + T w * den ≤ 2 * A
    stays_high l = doubled_up (M * den) A (T u * den + T w * den) both_den (high n.odd_part n.exponent n.middle M-bound (middle_high (T u) (T w) M W both T-below l))

    level : 2 * A ≡ T u * den + T w * den → distance (T u) W ≡ distance (T w) W
    level e =
        let f : M * den ≡ A = halved (M * den) A (T u * den + T w * den) both_den e in
        let g : W ≡ M = le_antisymm (down n.odd_part n.exponent n.middle M-bound (le_of_eq (sym f))) (up n.odd_part n.exponent n.middle M-bound (le_of_eq f)) in
        middle_level (T u) (T w) M W both T-below g

  -- ---- the F16 nearest to W is the nearest to the number
  gap_w : (v : ℕ) → gap half W (2 ^ 149) v ≡ distance (T v) W * 2 ^ 24
  gap_w v = ap (λ (x : ℕ). distance x (W * 2 ^ 24)) (sym (mul_assoc v (2 ^ 125) (2 ^ 24))) ∙ scaled (T v) W (2 ^ 24)

  gap_a : (v : ℕ) → gap half num den v * 2 ^ 125 ≡ distance (T v * den) A
  gap_a v = sym (scaled (v * den) (num * 2 ^ 24) (2 ^ 125)) ∙ ap₂ distance (mul_right_comm v den (2 ^ 125)) (mul_assoc num (2 ^ 24) (2 ^ 125))

  module _ (u : ℕ) (o : OfKind half u) (nearest : (v : ℕ) → OfKind half v → gap half W (2 ^ 149) u ≤ gap half W (2 ^ 149) v) where
    near_w : (v : ℕ) → OfKind half v → distance (T u) W ≤ distance (T v) W
    near_w v p = le_of_mul-le-mul_right (le_trans (le_of_eq (sym (gap_w u))) (le_trans (nearest v p) (le_of_eq (gap_w v)))) (pow_pos 24)

    wider_den : (a b : ℕ) → a ≤ b → T a * den ≤ T b * den
    wider_den a b h = mul-le-mul_right den (mul-le-mul_right (2 ^ 125) h)

    -- a value above u, or below
    above : (v : ℕ) → OfKind half v → u < v → (w : ℕ) × Neighbours half u w × (w ≤ v) × (2 * A ≤ T u * den + T w * den)
    above v p h = let (w, n, b) = next half half_sized u v o p h in (w, n, b, stays_low u w n (near_w w n.second))

    under : (v : ℕ) → OfKind half v → v < u → (w : ℕ) × Neighbours half w u × (v ≤ w) × (T w * den + T u * den ≤ 2 * A)
    under v p h = let (w, n, b) = before half half_sized (u - v) u v o p h (omega arith) in (w, n, b, stays_high w u n (near_w w n.first))

    near_a : (v : ℕ) → OfKind half v → distance (T u * den) A ≤ distance (T v * den) A
    near_a v p =
        elim (le_or_lt u v) [
          | inl h ↦ elim (eq-or-lt_of_le h) [ inl e ↦ le_of_eq (ap (λ (x : ℕ). distance (T x * den) A) e) | inr l ↦ high_side l ]
          | inr l ↦ low_side l
        ]
      where
        high_side : u < v → distance (T u * den) A ≤ distance (T v * den) A
        high_side l = let (w, n, b, m) = above v p l in past_high (T u * den) (T w * den) (T v * den) A (T-den u w n) (wider_den w v b) m

        low_side : v < u → distance (T u * den) A ≤ distance (T v * den) A
        low_side l = let (w, n, b, m) = under v p l in past_low (T w * den) (T u * den) (T v * den) A (T-den w u n) (wider_den v w b) m

    pub near_num : (v : ℕ) → OfKind half v → gap half num den u ≤ gap half num den v
    near_num v p = le_of_mul-le-mul_right (le_trans (le_of_eq (gap_a u)) (le_trans (near_a v p) (le_of_eq (sym (gap_a v))))) (pow_pos 125)

    pub tie_num : ((v : ℕ) → OfKind half v → gap half W (2 ^ 149) v ≡ gap half W (2 ^ 149) u → (v ≡ u) ⊎ Even half u)
        → (v : ℕ) → OfKind half v → gap half num den v ≡ gap half num den u → (v ≡ u) ⊎ Even half u
    tie_num tie v p g =
        elim (le_or_lt u v) [
          | inl h ↦ elim (eq-or-lt_of_le h) [ inl e ↦ inl (sym e) | inr l ↦ high_side l ]
          | inr l ↦ low_side l
        ]
      where
        as_near : distance (T v * den) A ≡ distance (T u * den) A
        as_near = sym (gap_a v) ∙ ap (λ (x : ℕ). x * 2 ^ 125) g ∙ gap_a u

        tied : (w : ℕ) → OfKind half w → distance (T w) W ≡ distance (T u) W → (w ≡ u → ⊥) → (v ≡ u) ⊎ Even half u
        tied w q e n = elim (tie w q (gap_w w ∙ ap (λ (x : ℕ). x * 2 ^ 24) e ∙ sym (gap_w u))) [ inl f ↦ absurd (n f) | inr f ↦ inr f ]

        high_side : u < v → (v ≡ u) ⊎ Even half u
        high_side l =
            let (w, n, b, m) = above v p l in
            let e : 2 * A ≡ T u * den + T w * den = tied_high (T u * den) (T w * den) (T v * den) A (T-den u w n) (wider_den w v b) m as_near in
            tied w n.second (sym (level u w n e)) (λ f. lt_irrefl u (subst (λ (x : ℕ). u < x) f n.below))

        low_side : v < u → (v ≡ u) ⊎ Even half u
        low_side l =
            let (w, n, b, m) = under v p l in
            let e : 2 * A ≡ T w * den + T u * den = tied_low (T w * den) (T u * den) (T v * den) A (T-den w u n) (wider_den v w b) m as_near in
            tied w n.first (level w u n e) (λ f. lt_irrefl u (subst (λ (x : ℕ). x < u) f n.below))

  -- ---- and beyond the largest F16 they are together: 65520 is 4095 * 2 ^ 153 smallest F32
  last_bound : 4095 * 2 ^ 153 < 2 ^ 166
  last_bound = lit< tt

  last_middle : Middle half 4095 29
  last_middle = (refl, lit< tt, inr (lit≤ tt))

  -- 65520 in F16's smallest values, doubled
  abbrev E : ℕ
  E = 4095 * 2 ^ 29

  lift_den : E * den * 2 ^ 124 ≡ 4095 * 2 ^ 153 * den
  lift_den = mul_right_comm E den (2 ^ 124)

  lift_num : 2 * (num * 2 ^ 24) * 2 ^ 124 ≡ A
  lift_num = ap (λ (x : ℕ). x * 2 ^ 124) (mul_comm 2 (num * 2 ^ 24) ∙ mul_assoc num (2 ^ 24) 2) ∙ mul_assoc num (2 ^ 25) (2 ^ 124)

  lift_w : 2 * (W * 2 ^ 24) ≡ W * 2 ^ 25
  lift_w = mul_comm 2 (W * 2 ^ 24) ∙ mul_assoc W (2 ^ 24) 2

  pub beyond_to : Beyond half num den → Beyond half W (2 ^ 149)
  beyond_to b =
      let g : 4095 * 2 ^ 153 * den ≤ A = le_trans (le_of_eq (sym lift_den)) (le_trans (mul-le-mul_right (2 ^ 124) b) (le_of_eq lift_num)) in
      le_trans (mul-le-mul_right (2 ^ 25) (up 4095 29 last_middle last_bound g)) (le_of_eq (sym lift_w))

  pub beyond_from : Beyond half W (2 ^ 149) → Beyond half num den
  beyond_from b =
      let h : 4095 * 2 ^ 153 ≤ W = le_of_mul-le-mul_right (le_trans b (le_of_eq lift_w)) (pow_pos 25) in
      le_of_mul-le-mul_right (le_trans (le_of_eq lift_den) (le_trans (high 4095 29 last_middle last_bound h) (le_of_eq (sym lift_num)))) (pow_pos 124)

-- ---- so the two roundings are one
pub twice_rounded : (s : Bool) (num den : ℕ) → 0 < den → (Beyond single num den → ⊥) → Clear num den → Rounded half s num den (convert half (round_to single s num den))
twice_rounded s num den D small clear =
    let w = round_to single s num den in
    let a = (rounded single single_sized s num den D).within small in
    let e : convert half w ≡ round_to half s a.units (2 ^ 149) = odd_round half w s a.units (2 ^ 149) (pow_pos 149) a.value in
    let h = rounded half half_sized s a.units (2 ^ 149) (pow_pos 149) in
    record {
      beyond = λ b. e ∙ h.beyond (beyond_to num den D clear a.units a.nearest b);
      within = λ b.
          let n = h.within (λ c. b (beyond_from num den D clear a.units a.nearest c)) in
          record {
            units = n.units;
            value = subst (λ (x : Float). HasValue x s n.units (2 ^ 24)) (sym e) n.value;
            of_kind = n.of_kind;
            nearest = near_num num den D clear a.units a.nearest n.units n.of_kind n.nearest;
            even = tie_num num den D clear a.units a.nearest n.units n.of_kind n.nearest n.even;
          };
    }
