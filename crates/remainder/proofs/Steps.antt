-- Doubling modulo n, and a pattern's smallest values. Assumes nothing.
use Rattle.std.proofs.Common.{◌≡◌, ℕ, suc, ◌+◌, ◌-◌, ◌*◌, ◌/◌, ◌%◌, ◌^◌, ◌<◌, ◌≤◌, ◌⊎◌, sym, refl, ap, ◌∙◌, mod-lt, mod-eq_of_lt, arith, pow_pos, pow_mono, pow-add, lt-ltb, le-ltb, inl, inr}
use Rattle.std.proofs.Math.Nat.{mod-eq-sub-mod, add-mod, pow-suc, mod-add-div', add-mul-mod_self_right, mul-add-mod_self_right, mul-add-div_right, mul-lt-mul_of_pos_right, div-lt_iff_lt-mul, le-div_iff_mul-le, lt-div-mul-add, mul-le-mul, mul_assoc, mul-pos}
use Rattle.integer.proofs.Order.{le_or_lt}
use Rattle.remainder.specs.Units.{digits_of, places_of, units_of}

-- twice a number below n, less n where that goes
pub less : (c n : ℕ) → c < n → n ≤ c + c → (c + c - n) ≡ (c + c) % n
less c n h k = sym (mod-eq-sub-mod k ∙ mod-eq_of_lt (let l : c + c - n < n = omega arith in l))

pub double_rest : (x n : ℕ) → (x % n + x % n) % n ≡ (x + x) % n
double_rest x n = sym (add-mod x x n)

pub double_pow : (m i : ℕ) → m * 2 ^ (i + 1) ≡ m * 2 ^ i + m * 2 ^ i
double_pow m i = ap (λ (k : ℕ). m * 2 ^ k) (let e : i + 1 ≡ suc i = omega arith in e) ∙ ap (λ (k : ℕ). m * k) (pow-suc 2 i) ∙ omega arith

-- one more place
pub more : (m n i c d : ℕ) → c ≡ m * 2 ^ i % n → d ≡ (c + c) % n → d ≡ m * 2 ^ (i + 1) % n
more m n i c d e f = f ∙ ap (λ (x : ℕ). (x + x) % n) e ∙ double_rest (m * 2 ^ i) n ∙ ap (λ (x : ℕ). x % n) (sym (double_pow m i))

-- both moved up alike
pub moved : (x y c : ℕ) → 0 < y → 0 < c → x * c % (y * c) ≡ x % y * c
moved x y c Y C =
    ap (λ (z : ℕ). z * c % (y * c)) (sym (mod-add-div' x y))
    ∙ ap (λ (z : ℕ). z % (y * c)) (let e : (x % y + x / y * y) * c ≡ x % y * c + x / y * (y * c) = omega arith in e)
    ∙ add-mul-mod_self_right (x % y * c) (x / y) (y * c)
    ∙ mod-eq_of_lt (mul-lt-mul_of_pos_right (mod-lt x Y) C)

-- ---- a pattern's digits and places
pub below : (h a : ℕ) → a < h → (digits_of h a ≡ a) × (places_of h a ≡ 0)
unfolding digits_of places_of
below h a b = rw (lt-ltb a h b) (refl, refl)

pub above : (h a : ℕ) → h ≤ a → (digits_of h a ≡ h + a % h) × (places_of h a ≡ a / h - 1)
unfolding digits_of places_of
above h a b = rw (le-ltb a h b) (refl, refl)

pub units_are : (h a m p : ℕ) → digits_of h a ≡ m → places_of h a ≡ p → units_of h a ≡ m * 2 ^ p
unfolding units_of
units_are h a m p d e = (λ i. d i * 2 ^ e i)

-- m smallest values moved up by p places have the pattern p * h + m
rest : (h m : ℕ) → h ≤ m → m < 2 * h → m % h ≡ m - h
rest h m a b = mod-eq-sub-mod a ∙ mod-eq_of_lt (let l : m - h < h = omega arith in l)

pub packed_low : (h m : ℕ) → m < 2 * h → units_of h m ≡ m * 2 ^ 0
packed_low h m b = elim (le_or_lt h m) [ inl k ↦ high k | inr k ↦ units_are h m m 0 (below h m k).0 (below h m k).1 ]
  where
    high : h ≤ m → units_of h m ≡ m * 2 ^ 0
    high k =
        let H : 0 < h = omega arith in
        let two : m / h < 2 = (div-lt_iff_lt-mul H).1 b in
        units_are h m m 0 ((above h m k).0 ∙ (let e : h + m % h ≡ m = omega (arith, rest h m k b) in e)) ((above h m k).1 ∙ (let e : m / h - 1 ≡ 0 = omega arith in e))

pub packed_high : (h m p : ℕ) → h ≤ m → m < 2 * h → units_of h (p * h + m) ≡ m * 2 ^ p
packed_high h m p a b =
    let H : 0 < h = omega arith in
    let up : h ≤ p * h + m = omega arith in
    let left : (p * h + m) % h ≡ m - h = mul-add-mod_self_right p h m ∙ rest h m a b in
    let two : m / h < 2 = (div-lt_iff_lt-mul H).1 b in
    let one : 1 ≤ m / h = (le-div_iff_mul-le H).1 (let l : 1 * h ≤ m = omega arith in l) in
    let all : (p * h + m) / h ≡ p + m / h = mul-add-div_right H p m in
    units_are h (p * h + m) m p ((above h (p * h + m) up).0 ∙ (let e : h + (p * h + m) % h ≡ m = omega (arith, left) in e))
    ((above h (p * h + m) up).1 ∙ (let e : (p * h + m) / h - 1 ≡ p = omega (arith, all) in e))

-- they are moved up until none is left to move or the leading digit stands
pub packed_all : (h m p : ℕ) → m < 2 * h → (p ≡ 0) ⊎ (h ≤ m) → units_of h (p * h + m) ≡ m * 2 ^ p
packed_all h m p b (inr k) = packed_high h m p k b
packed_all h m p b (inl z) =
    ap (units_of h) (ap (λ (q : ℕ). q * h + m) z ∙ omega arith) ∙ packed_low h m b ∙ ap (λ (q : ℕ). m * 2 ^ q) (sym z)

pub half : (m p : ℕ) → 0 < p → (m + m) * 2 ^ (p - 1) ≡ m * 2 ^ p
half m p h = (let e : (m + m) * 2 ^ (p - 1) ≡ m * 2 ^ (p - 1) + m * 2 ^ (p - 1) = omega arith in e) ∙ sym (double_pow m (p - 1)) ∙ ap (λ (k : ℕ). m * 2 ^ k) (let e : p - 1 + 1 ≡ p = omega arith in e)

-- ---- what one magnitude leaves by another
pub digits_lt : (h a : ℕ) → 0 < h → digits_of h a < 2 * h
digits_lt h a H = elim (le_or_lt h a) [ inl k ↦ omega (arith, (above h a k).0, mod-lt a H) | inr k ↦ omega (arith, (below h a k).0) ]

pub digits_pos : (h a : ℕ) → 0 < h → 0 < a → 0 < digits_of h a
digits_pos h a H p = elim (le_or_lt h a) [ inl k ↦ omega (arith, (above h a k).0) | inr k ↦ omega (arith, (below h a k).0) ]

pub pattern_lt : (h a : ℕ) → 0 < h → a < (places_of h a + 2) * h
pattern_lt h a H = elim (le_or_lt h a) [ inl k ↦ high k | inr k ↦ low k ]
  where
    low : a < h → a < (places_of h a + 2) * h
    low k = rw (below h a k).1 (omega arith)

    high : h ≤ a → a < (places_of h a + 2) * h
    high k =
        let one : 1 ≤ a / h = (le-div_iff_mul-le H).1 (let l : 1 * h ≤ a = omega arith in l) in
        let e : places_of h a + 2 ≡ a / h + 1 = omega (arith, (above h a k).1) in
        rw e (let l : a < (a / h + 1) * h = omega (arith, lt-div-mul-add {a = a} {b = h} H) in l)

-- places above 0 go with a leading digit
pub leading : (h a : ℕ) → 0 < places_of h a → h ≤ digits_of h a
leading h a p = elim (le_or_lt h a) [ inl k ↦ omega (arith, (above h a k).0) | inr k ↦ absurd (omega (arith, (below h a k).1)) ]

pub places_most : (h b : ℕ) → 0 < h → b < 2047 * h → places_of h b ≤ 2045
places_most h b H l = elim (le_or_lt h b) [ inl k ↦ high k | inr k ↦ omega (arith, (below h b k).1) ]
  where
    high : h ≤ b → places_of h b ≤ 2045
    high k = let t : b / h < 2047 = (div-lt_iff_lt-mul H).1 l in omega (arith, (above h b k).1)

-- fewer places: the left one is what is left
pub left_stays : (h a b : ℕ) → 0 < h → places_of h a < places_of h b → units_of h a ≡ units_of h a % units_of h b
unfolding units_of
left_stays h a b H l = sym (mod-eq_of_lt under)
  where
    under : digits_of h a * 2 ^ places_of h a < digits_of h b * 2 ^ places_of h b
    under =
        let m = digits_lt h a H in
        let n = leading h b (omega arith) in
        let one : digits_of h a * 2 ^ places_of h a < 2 * h * 2 ^ places_of h a = mul-lt-mul_of_pos_right m (pow_pos (places_of h a)) in
        let two : 2 * h * 2 ^ places_of h a ≡ h * 2 ^ (places_of h a + 1) = (let e : 2 * h * 2 ^ places_of h a ≡ h * 2 ^ places_of h a + h * 2 ^ places_of h a = omega arith in e) ∙ sym (double_pow h (places_of h a)) in
        let three : 2 ^ (places_of h a + 1) ≤ 2 ^ places_of h b = pow_mono (let g : places_of h a + 1 ≤ places_of h b = omega arith in g) in
        omega (arith, mul-le-mul {n₁ = h} {m₁ = 2 ^ (places_of h a + 1)} {n₂ = digits_of h b} {m₂ = 2 ^ places_of h b} n three)

pub left_over : (h a b c r : ℕ) → 0 < h → 0 < b → places_of h b ≤ places_of h a → c ≡ digits_of h a * 2 ^ (places_of h a - places_of h b) % digits_of h b
    → units_of h r ≡ c * 2 ^ places_of h b → units_of h r ≡ units_of h a % units_of h b
unfolding units_of
left_over h a b c r H B l e f =
    let d = places_of h a - places_of h b in
    let C = 2 ^ places_of h b in
    let up : digits_of h a * 2 ^ d * C ≡ digits_of h a * 2 ^ places_of h a =
    mul_assoc (digits_of h a) (2 ^ d) C ∙ ap (λ (x : ℕ). digits_of h a * x) (sym (pow-add 2 d (places_of h b)) ∙ ap (λ (k : ℕ). 2 ^ k) (let g : d + places_of h b ≡ places_of h a = omega arith in g)) in
    f ∙ ap (λ (x : ℕ). x * C) e ∙ sym (moved (digits_of h a * 2 ^ d) (digits_of h b) C (digits_pos h b H B) (pow_pos (places_of h b)))
    ∙ ap (λ (x : ℕ). x % (digits_of h b * C)) up

pub units_pos : (h a : ℕ) → 0 < h → 0 < a → 0 < units_of h a
unfolding units_of
units_pos h a H p = mul-pos (digits_pos h a H p) (pow_pos (places_of h a))

-- a pattern below the infinity's, whose field is n
pub places_under : (h b n : ℕ) → 0 < h → 2 ≤ n → b < n * h → places_of h b + 2 ≤ n
places_under h b n H two l = elim (le_or_lt h b) [ inl k ↦ high k | inr k ↦ omega (arith, (below h b k).1) ]
  where
    high : h ≤ b → places_of h b + 2 ≤ n
    high k =
        let t : b / h < n = (div-lt_iff_lt-mul H).1 l in
        let one : 1 ≤ b / h = (le-div_iff_mul-le H).1 (let g : 1 * h ≤ b = omega arith in g) in
        omega (arith, (above h b k).1)
