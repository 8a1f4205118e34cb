-- Laws of numbers as bytes, low byte first.
use mathlib.Core.Path.{◌≡◌, refl, sym, ap, ◌∙◌}
use mathlib.Core.List.{List, [], ◌∷◌, ◌++◌}
use mathlib.Core.Logic.{⊎_elim}
use Prim.Native.Nat.{ℕ, zero, suc, ◌+◌, ◌*◌, ◌/◌, ◌%◌, ◌^◌, ◌≤◌, ◌<◌}
use native.Mathlib.Nat.{pow-suc, div-lt_iff_lt-mul, one-le-pow}
use native.Mathlib.Omega.{arith}
use lib.Arith.{mod-mul}
use native.Mathlib.Numerals.{add-one}
use lib.Dec.{lit<}
use lib.ListN.{length, get_or, take, drop, replicate, length-append, length-drop, length-replicate, drop_of_length-le, get_or-eq_default}
use lib.Seq.{drop-cons, take_all}
use Rattle.std.specs.Int.{w64, from_le_bytes, to_le_bytes, bytes_low_first}
use Rattle.std.proofs.Math.Nat.{div-div-eq-div-mul}
use Rattle.integer.proofs.Order.{le_or_lt}
use Rattle.low.specs.Bytes.{lows, whole, part}
use Rattle.low.proofs.Parts.{length_part}

pub lows_long : (n x : ℕ) → length (lows n x) ≡ n
unfolding lows
lows_long zero x = refl
lows_long (suc n) x = ap suc (lows_long n (x / 256))

pub whole_lows : (n x : ℕ) → x < 256 ^ n → whole (lows n x) ≡ x
unfolding lows whole
whole_lows zero x h = omega arith
whole_lows (suc n) x h =
    let q : x / 256 < 256 ^ n = (div-lt_iff_lt-mul (lit< tt)).1 (rw pow-suc at h) in
    omega (arith, whole_lows n (x / 256) q)

-- the number in some bytes, the lowest apart; past the end all are 0
pub whole_part : (l : List ℕ) (a n : ℕ) → whole (part l a (suc n)) ≡ get_or l a 0 + 256 * whole (part l (a + 1) n)
unfolding whole part
whole_part l a n =
    ⊎_elim
    (λ (h : length l ≤ a).
    let k : length l ≤ a + 1 = omega arith in
    rw (drop_of_length-le l h, drop_of_length-le l k, take_all {A = ℕ} n [] (omega arith)) (omega (arith, get_or-eq_default l 0 {n = a} h)))
    (λ (h : a < length l). rw (drop-cons l a 0 h, add-one a))
    (le_or_lt (length l) a)

pub whole_part2 : (l : List ℕ) (a : ℕ) → whole (part l a 2) ≡ get_or l a 0 + 256 * get_or l (a + 1) 0
unfolding whole part
whole_part2 l a = omega (arith, whole_part l a 1, whole_part l (a + 1) 0)

pub whole_part4 : (l : List ℕ) (a : ℕ) → whole (part l a 4) ≡ get_or l a 0 + 256 * (get_or l (a + 1) 0 + 256 * (get_or l (a + 2) 0 + 256 * get_or l (a + 3) 0))
whole_part4 l a =
    let p : whole (part l (a + 1 + 1) 2) ≡ whole (part l (a + 2) 2) = ap (λ (k : ℕ). whole (part l k 2)) (omega arith) in
    let q : get_or l (a + 2 + 1) 0 ≡ get_or l (a + 3) 0 = ap (λ (k : ℕ). get_or l k 0) (omega arith) in
    omega (arith, whole_part l a 3, whole_part l (a + 1) 2, p, whole_part2 l (a + 2), q)

pub whole_part8 : (l : List ℕ) (a : ℕ) → whole (part l a 8) ≡ whole (part l a 4) + 4294967296 * whole (part l (a + 4) 4)
whole_part8 l a =
    let p : whole (part l (a + 1 + 1) 6) ≡ whole (part l (a + 2) 6) = ap (λ (k : ℕ). whole (part l k 6)) (omega arith) in
    let q : whole (part l (a + 2 + 1) 5) ≡ whole (part l (a + 3) 5) = ap (λ (k : ℕ). whole (part l k 5)) (omega arith) in
    let r : whole (part l (a + 3 + 1) 4) ≡ whole (part l (a + 4) 4) = ap (λ (k : ℕ). whole (part l k 4)) (omega arith) in
    omega (arith, whole_part4 l a, whole_part l a 7, whole_part l (a + 1) 6, p, whole_part l (a + 2) 5, q, whole_part l (a + 3) 4, r)

-- the low bytes of a number are its remainder
pub whole_cut : (n x : ℕ) → whole (lows n x) ≡ x % 256 ^ n
unfolding lows whole
whole_cut zero x = omega arith
whole_cut (suc n) x =
    let q : x % (256 ^ n * 256) ≡ (x / 256 % 256 ^ n) * 256 + x % 256 = mod-mul x (one-le-pow n 256 (lit< tt)) (lit< tt) in
    rw (pow-suc 256 n, q) (omega (arith, whole_cut n (x / 256)))

-- ---- std's words for bytes, low byte first
-- eight bytes as a number
read_eight : (bs : List ℕ) → length bs ≡ 8 → from_le_bytes w64 bs ≡ whole bs
unfolding part
read_eight bs e =
    let all : part bs 0 8 ≡ bs = take_all 8 bs (omega arith) in
    let w : whole (part bs 0 8) ≡ whole bs = ap whole all in
    omega (arith, whole_part8 bs 0, whole_part4 bs 0, whole_part4 bs 4, w)

no_more : (n m : ℕ) → whole (drop n (replicate {A = ℕ} m 0)) ≡ 0
unfolding whole
no_more zero zero = refl
no_more zero (suc m) = omega (arith, no_more zero m)
no_more (suc n) zero = refl
no_more (suc n) (suc m) = no_more n m

whole_padded : (p z : List ℕ) → whole z ≡ 0 → whole (p ++ z) ≡ whole p
unfolding whole
whole_padded [] z e = e
whole_padded (b ∷ p) z e = ap (λ (w : ℕ). b + 256 * w) (whole_padded p z e)

-- n bytes of a list, with zeros up to the eighth
pub read_padded : (l : List ℕ) (a n k : ℕ) (p : List ℕ) → n ≤ 8 → a + n ≤ length l → k ≡ n → p ≡ take k (drop a l) → from_le_bytes w64 (p ++ drop n (replicate 8 0)) ≡ whole (part l a n)
unfolding part
read_padded l a n k p f h e q =
    let z : p ≡ part l a n = q ∙ ap (λ (j : ℕ). take j (drop a l)) e in
    let long : length (p ++ drop n (replicate {A = ℕ} 8 0)) ≡ 8 =
    omega (arith, length-append p (drop n (replicate {A = ℕ} 8 0)), length-drop n (replicate {A = ℕ} 8 0), length-replicate {A = ℕ} 8 0, ap length z, length_part l a n h) in
    read_eight _ long ∙ whole_padded p _ (no_more n 8) ∙ ap whole z

-- a number in n bytes is below 256 to the n
pub whole_small : (l : List ℕ) → ((i : ℕ) → get_or l i 0 < 256) → (n a : ℕ) → whole (part l a n) < 256 ^ n
unfolding whole part
whole_small l f zero a = omega arith
whole_small l f (suc n) a = rw (pow-suc 256 n) (omega (arith, whole_part l a n, whole_small l f n (a + 1), f a))

-- the first n of some bytes of a number, from byte i on
bytes_lows : (n i k x : ℕ) → n ≤ k → take n (bytes_low_first i k x) ≡ lows n (x / 256 ^ i)
unfolding lows
bytes_lows zero i k x h = refl
bytes_lows (suc n) i zero x h = absurd (omega arith)
bytes_lows (suc n) zero (suc k) x h =
    let e : x / 256 ^ 0 ≡ x = omega arith in
    let f : x / 256 ^ 1 ≡ x / 256 = refl in
    rw e (ap {B = List ℕ} (λ (t : List ℕ). x % 256 ∷ t) (bytes_lows n 1 k x (omega arith) ∙ ap (lows n) f))
bytes_lows (suc n) (suc i) (suc k) x h =
    let e : x / 256 ^ suc (suc i) ≡ x / 256 ^ suc i / 256 = ap (λ (m : ℕ). x / m) (pow-suc 256 (suc i)) ∙ sym (div-div-eq-div-mul x (256 ^ suc i) 256) in
    ap {B = List ℕ} (λ (t : List ℕ). x / 256 ^ suc i % 256 ∷ t) (bytes_lows n (suc (suc i)) k x (omega arith) ∙ ap (lows n) e)

pub low_bytes : (n x : ℕ) → n ≤ 8 → take n (to_le_bytes w64 x) ≡ lows n x
low_bytes n x h = bytes_lows n 0 8 x h ∙ ap (lows n) (omega arith)
