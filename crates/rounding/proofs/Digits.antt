-- How many binary digits a number has, and the fields that q * 2 ^ j smallest values of a kind of p digits are written as. Assumes nothing.
use Rattle.std.proofs.Common.{◌≡◌, ℕ, suc, ◌+◌, ◌-◌, ◌*◌, ◌/◌, ◌^◌, ◌<◌, ◌≤◌, ◌⊎◌, sym, ap, ◌∙◌, subst, inl, inr, le_trans, le_of_eq, lt_of_lt_of_le, lt_of_le_of_lt, lt_irrefl, mul-le-mul_right, mul_assoc, suc-mul, mul_comm, le_antisymm, eq-or-lt_of_le, lt_of_not-le, mul-one, mul-div_cancel, arith, pow_pos, pow_mono, pow-add, shl_lt}
use native.Mathlib.Nat.{pow-succ'}
use lib.Pow.{pow-lt}
use lib.Ieee.{size}
use lib.Ieee.Digits.{size-lt, size-le}

-- ---- how many digits
pub pow_lt_back : (i p : ℕ) → 2 ^ i < 2 ^ p → i < p
pow_lt_back i p h = lt_of_not-le (λ (g : p ≤ i). lt_irrefl (2 ^ i) (lt_of_lt_of_le h (pow_mono g)))

pub size_exact : (a n : ℕ) → 2 ^ a ≤ n → n < 2 ^ suc a → size n ≡ suc a
size_exact a n lo hi = le_antisymm (size-le n (suc a) hi) (pow_lt_back a (size n) (lt_of_le_of_lt lo (size-lt n)))

one_more : (p j : ℕ) → 0 < p → p + j ≡ suc (p - 1 + j)
one_more p j h = omega arith

pub twice : (p : ℕ) → 0 < p → 2 ^ p ≡ 2 * 2 ^ (p - 1)
twice p h = ap (λ (x : ℕ). 2 ^ x) (back p h) ∙ pow-succ' 2 (p - 1)
  where
    back : (p : ℕ) → 0 < p → p ≡ suc (p - 1)
    back p h = omega arith

-- n between 2 ^ (p - 1) and 2 ^ p, times 2 ^ j, has p + j digits
pub size_full : (p j n : ℕ) → 0 < p → 2 ^ (p - 1 + j) ≤ n → n < 2 ^ (p + j) → size n - p ≡ j
size_full p j n P lo hi = at (size n) (size_exact (p - 1 + j) n lo (subst (λ (x : ℕ). n < 2 ^ x) (one_more p j P) hi))
  where
    at : (z : ℕ) → z ≡ suc (p - 1 + j) → z - p ≡ j
    at z e = omega arith

pub size_few : (p n : ℕ) → n < 2 ^ p → size n - p ≡ 0
size_few p n h = at (size n) (size-le n p h)
  where
    at : (z : ℕ) → z ≤ p → z - p ≡ 0
    at z e = omega arith

-- ---- the fields of q * 2 ^ j units
abbrev pub AllDigits : ℕ → ℕ → ℕ → Type 0
AllDigits p j q = (j ≡ 0) ⊎ (2 ^ (p - 1) ≤ q)

abbrev pub field : ℕ → ℕ → ℕ
field p n = (size n - p) * 2 ^ (p - 1) + n / 2 ^ (size n - p)

-- how q * 2 ^ j is written with p digits: as it stands, or, all ones and one more, as the next power of two
abbrev pub Written : ℕ → ℕ → ℕ → Type 0
Written p q j =
    ((size (q * 2 ^ j) - p ≡ j) × (q * 2 ^ j / 2 ^ j ≡ q) × (q < 2 ^ p))
    ⊎ ((q ≡ 2 * 2 ^ (p - 1)) × (size (q * 2 ^ j) - p ≡ suc j) × (q * 2 ^ j / 2 ^ suc j ≡ 2 ^ (p - 1)) × (q * 2 ^ j ≡ 2 ^ (p - 1) * 2 ^ suc j))

pub written : (p q j : ℕ) → 0 < p → q ≤ 2 ^ p → AllDigits p j q → Written p q j
written p q j P l w = go (eq-or-lt_of_le l) w
  where
    h : ℕ
    h = 2 ^ (p - 1)

    pred : (p : ℕ) → 0 < p → p - 1 < p
    pred p h = omega arith

    go : (q ≡ 2 ^ p) ⊎ (q < 2 ^ p) → (j ≡ 0) ⊎ (h ≤ q) → Written p q j
    go (inl e) w =
        let n : q * 2 ^ j ≡ h * 2 ^ suc j = ap (λ (x : ℕ). x * 2 ^ j) (e ∙ twice p P ∙ mul_comm 2 h) ∙ mul_assoc h 2 (2 ^ j) ∙ ap (λ (x : ℕ). h * x) (sym (pow-succ' 2 j)) in
        inr (
          e ∙ twice p P,
          ap (λ (x : ℕ). size x - p) n ∙ size_full p (suc j) (h * 2 ^ suc j) P (le_of_eq (pow-add 2 (p - 1) (suc j))) (shl_lt p (suc j) (pow-lt (pred p P))),
          ap (λ (x : ℕ). x / 2 ^ suc j) n ∙ mul-div_cancel h (pow_pos (suc j)),
          n,
        )
    go (inr s) (inl z) =
        let one : q * 2 ^ j ≡ q = ap (λ (x : ℕ). q * 2 ^ x) z ∙ mul-one q in
        inl (ap (λ (x : ℕ). size x - p) one ∙ size_few p q s ∙ sym z, mul-div_cancel q (pow_pos j), s)
    go (inr s) (inr a) =
        inl (size_full p j (q * 2 ^ j) P (le_trans (le_of_eq (pow-add 2 (p - 1) j)) (mul-le-mul_right (2 ^ j) a)) (shl_lt p j s), mul-div_cancel q (pow_pos j), s)

field_at : (p n j : ℕ) → size n - p ≡ j → field p n ≡ j * 2 ^ (p - 1) + n / 2 ^ j
field_at p n j e = ap (λ (x : ℕ). x * 2 ^ (p - 1) + n / 2 ^ x) e

pub packed : (p q j : ℕ) → 0 < p → q ≤ 2 ^ p → AllDigits p j q → field p (q * 2 ^ j) ≡ j * 2 ^ (p - 1) + q
packed p q j P l w = go (written p q j P l w)
  where
    join : (a b h q : ℕ) → a ≡ b + h → q ≡ 2 * h → a + h ≡ b + q
    join a b h q e f = omega arith

    go : Written p q j → field p (q * 2 ^ j) ≡ j * 2 ^ (p - 1) + q
    go (inl (z, e, s)) = field_at p (q * 2 ^ j) j z ∙ ap (λ (x : ℕ). j * 2 ^ (p - 1) + x) e
    go (inr (t, z, e, n)) =
        field_at p (q * 2 ^ j) (suc j) z ∙ ap (λ (x : ℕ). suc j * 2 ^ (p - 1) + x) e ∙ join (suc j * 2 ^ (p - 1)) (j * 2 ^ (p - 1)) (2 ^ (p - 1)) q (suc-mul j (2 ^ (p - 1))) t
