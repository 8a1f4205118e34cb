-- Two short numbers, each a whole number times a power of two, that are near enough to one another are equal; and so the exact results of two F16 are clear of
-- the middles of F16. Assumes nothing.
use Rattle.std.proofs.Common.{◌≡◌, ℕ, suc, ◌+◌, ◌-◌, ◌*◌, ◌%◌, ◌^◌, ◌<◌, ◌≤◌, sym, ap, ◌∙◌, subst, ap₂, inl, inr, le_trans, le_of_eq, lt_of_lt_of_le, lt_of_le_of_lt, le_of_lt, mul-le-mul_right, mul_assoc, mul_comm, add-mul, eq-zero-or-pos, mul-le-mul_left, pow-suc, mul-one, mul_right_comm, le-mul_of_pos_right, mul_left_comm, arith, lit<, lit≤, pow_pos, pow_mono, pow-add}
use native.Mathlib.Nat.{eq_of_mul-eq-mul_right}
use Rattle.integer.proofs.Order.{le_or_lt}
use Rattle.rounding.specs.Kind.{half, single}
use Rattle.rounding.specs.Nearest.{OfKind, distance}
use Rattle.rounding.proofs.Nearest.{longer}
use Rattle.rounding.proofs.Signs.{scaled, Either}
use Rattle.rounding.proofs.Twice.{Middle, Clear}
use Rattle.rounding.proofs.Clear.{Within, within_plain, from_ratio}

no_distance : (a b : ℕ) → distance a b ≡ 0 → a ≡ b
no_distance a b e = omega arith

-- ---- a and b times one g
module _ (p a b g : ℕ) (G : 0 < g) (near : Within p (a * g) (b * g)) where
  plain : Within p a b
  plain = within_plain p a b g G near

  -- a below p is b
  pub same_step : a < p → a ≡ b
  same_step h = elim (eq-zero-or-pos (distance a b)) [ inl z ↦ no_distance a b z | inr d ↦ absurd (far (le-mul_of_pos_right p d)) ]
    where
      far : p ≤ p * distance a b → ⊥
      far l = omega (arith, plain)

  -- and so is an a of any size, if b is below half of p
  pub same_short : 2 ≤ p → 2 * b < p → a ≡ b
  same_short two h =
      elim (eq-zero-or-pos (distance a b)) [
        | inl z ↦ no_distance a b z
        | inr d ↦ absurd (far (p * distance a b) plain (le-mul_of_pos_right p d) (mul-le-mul_right (distance a b) two))
      ]
    where
      far : (x : ℕ) → x ≤ a → p ≤ x → 2 * distance a b ≤ x → ⊥
      far x l m n = omega arith

-- ---- with powers of two of their own
pub grid : (n a b x y : ℕ) → 0 < n → a < 2 ^ n → 2 * b < 2 ^ n → Within (2 ^ n) (a * 2 ^ x) (b * 2 ^ y) → a * 2 ^ x ≡ b * 2 ^ y
grid n a b x y N h i near =
    elim (le_or_lt x y) [
      | inl l ↦
          let e = longer x b y l in
          ap (λ (z : ℕ). z * 2 ^ x) (same_step (2 ^ n) a (b * 2 ^ (y - x)) (2 ^ x) (pow_pos x) (subst (Within (2 ^ n) (a * 2 ^ x)) e near) h) ∙ sym e
      | inr l ↦
          let e = longer y a x (le_of_lt l) in
          let two : 2 ≤ 2 ^ n = pow_mono {i = 1} N in
          e ∙ ap (λ (z : ℕ). z * 2 ^ y) (same_short (2 ^ n) (a * 2 ^ (x - y)) b (2 ^ y) (pow_pos y) (subst (λ (z : ℕ). Within (2 ^ n) z (b * 2 ^ y)) e near) two i)
    ]

-- ---- a middle is no F16
pub not_middle : (c j a i : ℕ) → Middle half c j → a < 2 ^ 11 → c * 2 ^ j ≡ a * 2 ^ suc i → ⊥
not_middle c j a i mid h e =
    elim (le_or_lt j i) [
      | inl l ↦ even c (a * 2 ^ (i - j)) mid.0 (eq_of_mul-eq-mul_right (2 ^ j) (pow_pos j) c (a * 2 ^ (i - j) * 2) (e ∙ ap (λ (x : ℕ). a * 2 ^ x) (split i j l) ∙ parts l))
      | inr l ↦ elim mid.2 [ inl z ↦ none l z | inr f ↦ long l f ]
    ]
  where
    even : (c b : ℕ) → c % 2 ≡ 1 → c ≡ b * 2 → ⊥
    even c b o f = omega arith

    split : (i j : ℕ) → j ≤ i → suc i ≡ i - j + 1 + j
    split i j l = omega arith

    parts : j ≤ i → a * 2 ^ (i - j + 1 + j) ≡ a * 2 ^ (i - j) * 2 * 2 ^ j
    parts l =
        ap (λ (x : ℕ). a * x) (pow-add 2 (i - j + 1) j ∙ ap (λ (x : ℕ). x * 2 ^ j) (pow-add 2 (i - j) 1))
        ∙ sym (mul_assoc a (2 ^ (i - j) * 2) (2 ^ j)) ∙ ap (λ (x : ℕ). x * 2 ^ j) (sym (mul_assoc a (2 ^ (i - j)) 2))

    none : i < j → j ≡ 0 → ⊥
    none l z = omega arith

    long : i < j → 2 ^ 11 ≤ c → ⊥
    long l f =
        let m : c * 2 ^ j ≡ c * 2 ^ (j - suc i) * 2 ^ suc i = longer (suc i) c j l in
        let g : c * 2 ^ (j - suc i) ≡ a = eq_of_mul-eq-mul_right (2 ^ suc i) (pow_pos (suc i)) (c * 2 ^ (j - suc i)) a (sym m ∙ e) in
        let k : c ≤ a = le_trans (le-mul_of_pos_right c (pow_pos (j - suc i))) (le_of_eq g) in
        omega arith

join : (a b c d : ℕ) → a * b * (c * d) ≡ a * c * (b * d)
join a b c d = simp (mul_assoc, mul_comm, mul_left_comm)

joined : (a x b y : ℕ) → a * 2 ^ x * (b * 2 ^ y) ≡ a * b * 2 ^ (x + y)
joined a x b y = join a (2 ^ x) b (2 ^ y) ∙ ap (λ (z : ℕ). a * b * z) (sym (pow-add 2 x y))

lifted : (a x y : ℕ) → a * 2 ^ x * 2 ^ y ≡ a * 2 ^ (x + y)
lifted a x y = mul_assoc a (2 ^ x) (2 ^ y) ∙ ap (λ (z : ℕ). a * z) (sym (pow-add 2 x y))

-- ---- quotients: u / v of two values
module _ (num den : ℕ) (D : 0 < den) (u v : ℕ) (o : OfKind half u) (o' : OfKind half v) where
  pub quotient_clear : 0 < v → num * v ≡ u * den → Clear num den
  quotient_clear pos e c j mid bound near =
      from_ratio num den D c j mid bound near (u * 2 ^ 25) v pos (mul_right_comm num (2 ^ 25) v ∙ ap (λ (x : ℕ). x * 2 ^ 25) e ∙ mul_right_comm u den (2 ^ 25)) same
    where
      m : ℕ
      m = o'.significand

      n : ℕ
      n = o.significand

      product : (c m : ℕ) → c < 2 ^ 12 → m < 2 ^ 11 → c * m < 2 ^ 24
      product c m h i = lt_of_le_of_lt (le_trans (mul-le-mul_right m (le_of_lt h)) (mul-le-mul_left (2 ^ 12) (le_of_lt i))) (lit< tt)

      short : (b : ℕ) → b < 2 ^ 11 → 2 * b < 2 ^ 24
      short b h = omega arith

      f : c * 2 ^ j * v ≡ c * m * 2 ^ (j + o'.exponent)
      f = ap (λ (x : ℕ). c * 2 ^ j * x) o'.value ∙ joined c j m o'.exponent

      g : u * 2 ^ 25 ≡ n * 2 ^ (o.exponent + 25)
      g = ap (λ (x : ℕ). x * 2 ^ 25) o.value ∙ lifted n o.exponent 25

      same : Within (2 ^ 24) (c * 2 ^ j * v) (u * 2 ^ 25) → c * 2 ^ j * v ≡ u * 2 ^ 25
      same l =
          f
          ∙ grid 24 (c * m) n (j + o'.exponent) (o.exponent + 25) (lit< tt) (product c m mid.1 o'.short) (short n o.short)
          (subst (λ (z : ℕ). Within (2 ^ 24) z (n * 2 ^ (o.exponent + 25))) f (subst (Within (2 ^ 24) (c * 2 ^ j * v)) g l))
          ∙ sym g

-- ---- sums and differences: P and R smallest values, each doubled
swapped : (s x y : ℕ) → Either s x y → Either s y x
swapped s x y e = elim e [ inl f ↦ inl (omega arith) | inr f ↦ inr (omega arith) ]

-- near the sum, and R small: near the other
nearer : (n p r s : ℕ) → Either s p r → Within (2 ^ 24) n s → 2 ^ 13 * r ≤ n → Within (2 ^ 12) n p
nearer n p r s e h l = elim e [ inl f ↦ omega arith | inr f ↦ omega arith ]

multiple : (s x y g : ℕ) → Either s (x * g) (y * g) → (m : ℕ) × (s ≡ m * g)
multiple s x y g e = elim e [ inl f ↦ (x + y, f ∙ sym (add-mul x y g)) | inr f ↦ (distance x y, f ∙ scaled x y g) ]

sum_same : (c j : ℕ) → Middle half c j → (a i b k : ℕ) → a < 2 ^ 11 → b < 2 ^ 11 → k ≤ i → (s : ℕ) → Either s (a * 2 ^ suc i) (b * 2 ^ suc k)
    → Within (2 ^ 24) (c * 2 ^ j) s → c * 2 ^ j ≡ s
sum_same c j mid a i b k A B h s e near =
    let g = 2 ^ suc k in
    let up : suc k ≤ suc i = omega arith in
    let p : a * 2 ^ suc i ≡ a * 2 ^ (suc i - suc k) * g = longer (suc k) a (suc i) up in
    let (m, f) = multiple s (a * 2 ^ (suc i - suc k)) b g (subst (λ (x : ℕ). Either s x (b * g)) p e) in
    elim (le_or_lt j (suc k)) [ inl l ↦ coarse m f l | inr l ↦ fine m f l ]
  where
    coarse : (m : ℕ) → s ≡ m * 2 ^ suc k → j ≤ suc k → c * 2 ^ j ≡ s
    coarse m f l =
        let t : s ≡ m * 2 ^ (suc k - j) * 2 ^ j = f ∙ longer j m (suc k) l in
        let w : Within (2 ^ 24) (c * 2 ^ j) (m * 2 ^ (suc k - j) * 2 ^ j) = subst (Within (2 ^ 24) (c * 2 ^ j)) t near in
        ap (λ (z : ℕ). z * 2 ^ j) (same_step (2 ^ 24) c (m * 2 ^ (suc k - j)) (2 ^ j) (pow_pos j) w (lt_of_lt_of_le mid.1 (lit≤ tt))) ∙ sym t

    fine : (m : ℕ) → s ≡ m * 2 ^ suc k → suc k < j → c * 2 ^ j ≡ s
    fine m f l =
        let g = 2 ^ suc k in
        let d = c * 2 ^ (j - suc k) in
        let t : c * 2 ^ j ≡ d * g = longer (suc k) c j (le_of_lt l) in
        let w : distance (c * 2 ^ j) s ≡ distance d m * g = ap₂ distance t f ∙ scaled d m g in
        elim (eq-zero-or-pos (distance d m)) [
          | inl z ↦ t ∙ ap (λ (x : ℕ). x * g) (no_distance d m z) ∙ sym f
          | inr q ↦
              let far : 2 ^ 24 * g ≤ c * 2 ^ j = le_trans (mul-le-mul_left (2 ^ 24) (le_trans (le-mul_of_pos_right g q) (le_of_eq (mul_comm g (distance d m) ∙ sym w)))) near in
              let small : 2 ^ 13 * (b * g) ≤ c * 2 ^ j
              = le_trans (le_of_eq (sym (mul_assoc (2 ^ 13) b g))) (le_trans (mul-le-mul_right g (mul-le-mul_left (2 ^ 13) (le_of_lt B))) far) in
              absurd (not_middle c j a i mid A (grid 12 c a j (suc i) (lit< tt) mid.1 (short a A) (nearer (c * 2 ^ j) (a * 2 ^ suc i) (b * g) s e near small)))
        ]
      where
        short : (a : ℕ) → a < 2 ^ 11 → 2 * a < 2 ^ 12
        short a h = omega arith

module _ (num den : ℕ) (D : 0 < den) (u v : ℕ) (o : OfKind half u) (o' : OfKind half v) where
  doubled : (w : ℕ) (p : OfKind half w) → w * 2 ≡ p.significand * 2 ^ suc p.exponent
  doubled w p = ap (λ (x : ℕ). x * 2) p.value ∙ mul_assoc p.significand (2 ^ p.exponent) 2 ∙ ap (λ (x : ℕ). p.significand * x) (sym (pow-suc 2 p.exponent))

  pub sum_clear : (s : ℕ) → Either s u v → num * 2 ^ 24 ≡ s * den → Clear num den
  sum_clear s e f c j mid bound near =
      from_ratio num den D c j mid bound near (s * 2) 1 (lit< tt)
      (mul-one (num * 2 ^ 25) ∙ sym (mul_assoc num (2 ^ 24) 2) ∙ ap (λ (x : ℕ). x * 2) f ∙ mul_right_comm s den 2)
      (λ l. mul-one (c * 2 ^ j) ∙ same (subst (λ (z : ℕ). Within (2 ^ 24) z (s * 2)) (mul-one (c * 2 ^ j)) l))
    where
      twice_either : Either (s * 2) (o.significand * 2 ^ suc o.exponent) (o'.significand * 2 ^ suc o'.exponent)
      twice_either =
          subst (λ (z : ℕ). Either (s * 2) z (o'.significand * 2 ^ suc o'.exponent)) (doubled u o)
          (subst (λ (z : ℕ). Either (s * 2) (u * 2) z) (doubled v o')
          (elim e [ inl g ↦ inl (ap (λ (x : ℕ). x * 2) g ∙ add-mul u v 2) | inr g ↦ inr (ap (λ (x : ℕ). x * 2) g ∙ sym (scaled u v 2)) ]))

      same : Within (2 ^ 24) (c * 2 ^ j) (s * 2) → c * 2 ^ j ≡ s * 2
      same l =
          elim (le_or_lt o'.exponent o.exponent) [
            | inl h ↦ sum_same c j mid o.significand o.exponent o'.significand o'.exponent o.short o'.short h (s * 2) twice_either l
            | inr h ↦ sum_same c j mid o'.significand o'.exponent o.significand o.exponent o'.short o.short (le_of_lt h) (s * 2)
                (swapped (s * 2) (o.significand * 2 ^ suc o.exponent) (o'.significand * 2 ^ suc o'.exponent) twice_either) l
          ]

  -- ---- products, which F32 holds
  pub product_clear : num * 2 ^ 48 ≡ u * v * den → Clear num den
  product_clear e c j mid bound near =
      let w = u * v * 2 ^ 101 in
      let f : w * den ≡ num * 2 ^ 149 = mul_right_comm (u * v) (2 ^ 101) den ∙ ap (λ (x : ℕ). x * 2 ^ 101) (sym e) ∙ mul_assoc num (2 ^ 48) (2 ^ 101) in
      no_distance (c * 2 ^ (j + 124) * den) (num * 2 ^ 149) (none (near w held) (itself (w * den) (num * 2 ^ 149) f))
    where
      held : OfKind single (u * v * 2 ^ 101)
      held =
          record {
            significand = o.significand * o'.significand;
            exponent = o.exponent + o'.exponent + 101;
            value = ap (λ (x : ℕ). x * 2 ^ 101) (ap₂ ◌*◌ o.value o'.value ∙ joined o.significand o.exponent o'.significand o'.exponent)
                ∙ lifted (o.significand * o'.significand) (o.exponent + o'.exponent) 101;
            short = lt_of_le_of_lt (le_trans (mul-le-mul_right o'.significand (le_of_lt o.short)) (mul-le-mul_left (2 ^ 11) (le_of_lt o'.short))) (lit< tt);
            within = lt_of_le_of_lt (mul-le-mul_right (2 ^ 101) (le_trans (mul-le-mul_right v (le_of_lt o.within)) (mul-le-mul_left (2 ^ 40) (le_of_lt o'.within)))) (lit< tt);
          }

      itself : (x y : ℕ) → x ≡ y → distance x y ≡ 0
      itself x y e = omega arith

      none : {x y : ℕ} → x ≤ y → y ≡ 0 → x ≡ 0
      none l z = omega arith
