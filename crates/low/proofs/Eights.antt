-- Laws of numbers of 8 bytes each, one after another.
use mathlib.Core.Path.{◌≡◌, refl, sym, ap, ◌∙◌}
use mathlib.Core.List.{List, [], ◌∷◌, ◌++◌, append_assoc, append-nil}
use mathlib.Core.Logic.{⊎_elim}
use Prim.Native.Nat.{ℕ, zero, suc, ◌+◌, ◌-◌, ◌*◌, ◌%◌, ◌^◌, ◌≤◌, ◌<◌}
use native.Mathlib.Omega.{arith}
use native.Mathlib.Numerals.{add-one}
use native.Mathlib.Nat.{le_antisymm, le_of_suc-le-suc, not-suc-le-zero}
use Rattle.integer.proofs.Order.{le_or_lt}
use lib.ListN.{length, take, drop, get_or, set, replicate, length-append}
use lib.Seq.{take_at, drop_at, set_at, get_or-drop}
use Rattle.low.specs.Bytes.{lows, whole, part, patch, eights, numbers}
use Rattle.low.proofs.Parts.{part_past, part_part, patch_next}
use Rattle.low.proofs.Lows.{lows_long, whole_lows, whole_cut}

pub eights_long : (n : ℕ) (xs : List ℕ) → length (eights n xs) ≡ 8 * n
unfolding eights
eights_long zero xs = refl
eights_long (suc n) xs = omega (arith, length-append (lows 8 (get_or xs 0 0)) (eights n (drop 1 xs)), lows_long 8 (get_or xs 0 0), eights_long n (drop 1 xs))

eights_snoc : (n : ℕ) (xs : List ℕ) → eights n xs ++ lows 8 (get_or xs n 0) ≡ eights (suc n) xs
unfolding eights
eights_snoc zero xs = sym (append-nil (lows 8 (get_or xs 0 0)))
eights_snoc (suc n) xs =
    append_assoc (lows 8 (get_or xs 0 0)) (eights n (drop 1 xs)) (lows 8 (get_or xs (suc n) 0))
    ∙ ap (λ (k : ℕ). lows 8 (get_or xs 0 0) ++ (eights n (drop 1 xs) ++ lows 8 k)) (sym (get_or-drop 1 xs n 0 ∙ ap (λ (k : ℕ). get_or xs k 0) (omega arith)))
    ∙ ap {B = List ℕ} (λ (t : List ℕ). lows 8 (get_or xs 0 0) ++ t) (eights_snoc n (drop 1 xs))

-- one number more is put
pub eights_more : (l : List ℕ) (a : ℕ) (xs : List ℕ) (i : ℕ) → i < 16 → a + 128 ≤ length l
    → patch (patch l a (eights i xs)) (a + 8 * i) (lows 8 (get_or xs i 0)) ≡ patch l a (eights (i + 1) xs)
eights_more l a xs i h fits =
    patch_next l a (eights i xs) (a + 8 * i) (lows 8 (get_or xs i 0)) (omega (arith, eights_long i xs)) (omega (arith, lows_long 8 (get_or xs i 0)))
    ∙ ap (patch l a) (eights_snoc i xs ∙ ap (λ (n : ℕ). eights n xs) (sym (add-one i)))

pub numbers_long : (n : ℕ) (b : List ℕ) (a : ℕ) → length (numbers n b a) ≡ n
unfolding numbers
numbers_long zero b a = refl
numbers_long (suc n) b a = ap suc (numbers_long n b (a + 8))

pub numbers_snoc : (n : ℕ) (b : List ℕ) (a : ℕ) → numbers (suc n) b a ≡ numbers n b a ++ whole (part b (a + 8 * n) 8) ∷ []
unfolding numbers
numbers_snoc zero b a = ap (λ (k : ℕ). whole (part b k 8) ∷ []) (omega arith)
numbers_snoc (suc n) b a =
    ap {B = List ℕ} (λ (l : List ℕ). whole (part b a 8) ∷ l) (numbers_snoc n b (a + 8))
    ∙ ap (λ (k : ℕ). whole (part b a 8) ∷ (numbers n b (a + 8) ++ whole (part b k 8) ∷ [])) (omega arith)

-- an array of 16 after n numbers are read into it
abbrev pub filled : ℕ → List ℕ → ℕ → List ℕ
filled n b a = numbers n b a ++ replicate (16 - n) 0

zeros : (n : ℕ) → n < 16 → replicate {A = ℕ} (16 - n) 0 ≡ 0 ∷ replicate (16 - (n + 1)) 0
zeros n h = ap (λ (k : ℕ). replicate {A = ℕ} k 0) (let e : 16 - n ≡ suc (16 - (n + 1)) = omega arith in e)

-- one number more in an array of 16 of which n are set
pub one_set : (xs : List ℕ) (n v : ℕ) → n < 16 → length xs ≡ n → set (xs ++ replicate (16 - n) 0) n v ≡ (xs ++ v ∷ []) ++ replicate (16 - (n + 1)) 0
one_set xs n v h e =
    ap (λ (l : List ℕ). set (xs ++ l) n v) (zeros n h)
    ∙ set_at xs 0 (replicate (16 - (n + 1)) 0) v n e
    ∙ sym (append_assoc xs (v ∷ []) (replicate (16 - (n + 1)) 0))

pub filled_none : (b : List ℕ) (a : ℕ) → replicate 16 0 ≡ filled 0 b a
unfolding numbers
filled_none b a = refl

pub filled_more : (xs b : List ℕ) (a n w : ℕ) → n < 16 → xs ≡ filled n b a → w ≡ whole (part b (a + 8 * n) 8) → set xs n w ≡ filled (n + 1) b a
filled_more xs b a n w h e q =
    ap (λ (l : List ℕ). set l n w) e
    ∙ one_set (numbers n b a) n w h (numbers_long n b a)
    ∙ ap (λ (k : ℕ). (numbers n b a ++ k ∷ []) ++ replicate (16 - (n + 1)) 0) q
    ∙ ap (λ (l : List ℕ). l ++ replicate (16 - (n + 1)) 0) (sym (numbers_snoc n b a) ∙ ap (λ (k : ℕ). numbers k b a) (sym (add-one n)))

pub filled_all : (xs b : List ℕ) (a i : ℕ) → i ≤ 16 → 16 ≤ i → xs ≡ filled i b a → xs ≡ numbers 16 b a
filled_all xs b a i h k e = e ∙ ap (λ (j : ℕ). filled j b a) (le_antisymm h k) ∙ append-nil (numbers 16 b a)

-- numbers put one after another are read back
pub numbers_eights : (h cs : List ℕ) (a : ℕ) → length h ≡ a → ((i : ℕ) → get_or cs i 0 < 256 ^ 8) → numbers (length cs) (h ++ eights (length cs) cs) a ≡ cs
unfolding numbers eights part
numbers_eights h [] a e g = refl
numbers_eights h (x ∷ cs) a e g =
    let q : length (h ++ lows 8 x) ≡ a + 8 = omega (arith, length-append h (lows 8 x), lows_long 8 x) in
    rw (first, rest (numbers_eights (h ++ lows 8 x) cs (a + 8) q (λ i. g (suc i))))
  where
    first : whole (part (h ++ (lows 8 x ++ eights (length cs) cs)) a 8) ≡ x
    first =
        ap (λ (t : List ℕ). whole (take 8 t)) (drop_at h (lows 8 x ++ eights (length cs) cs) a e)
        ∙ ap whole (take_at (lows 8 x) (eights (length cs) cs) 8 (lows_long 8 x)) ∙ whole_lows 8 x (g 0)

    rest : numbers (length cs) ((h ++ lows 8 x) ++ eights (length cs) cs) (a + 8) ≡ cs → numbers (length cs) (h ++ (lows 8 x ++ eights (length cs) cs)) (a + 8) ≡ cs
    rest q = ap (λ (t : List ℕ). numbers (length cs) t (a + 8)) (sym (append_assoc h (lows 8 x) (eights (length cs) cs))) ∙ q

-- numbers of which no byte is there are 0
pub numbers_past : (n : ℕ) (b : List ℕ) (a : ℕ) → length b ≤ a → numbers n b a ≡ replicate n 0
unfolding numbers whole
numbers_past zero b a h = refl
numbers_past (suc n) b a h = rw (part_past b a 8 h, numbers_past n b (a + 8) (omega arith))

numbers_split : (i k : ℕ) (b : List ℕ) (a : ℕ) → numbers (i + k) b a ≡ numbers i b a ++ numbers k b (a + 8 * i)
unfolding numbers
numbers_split zero k b a = let p : 0 + k ≡ k = omega arith in let q : a + 8 * 0 ≡ a = omega arith in rw (p, q)
numbers_split (suc i) k b a =
    let p : suc i + k ≡ suc (i + k) = omega arith in
    rw p
    (ap {B = List ℕ} (λ (l : List ℕ). whole (part b a 8) ∷ l) (numbers_split i k b (a + 8))
    ∙ ap (λ (j : ℕ). whole (part b a 8) ∷ (numbers i b (a + 8) ++ numbers k b j)) (omega arith))

-- so where no more bytes are there, all are read
pub filled_rest : (xs b : List ℕ) (a i : ℕ) → i ≤ 16 → length b ≤ a + 8 * i → xs ≡ filled i b a → xs ≡ numbers 16 b a
filled_rest xs b a i h l e =
    let q : i + (16 - i) ≡ 16 = omega arith in
    e ∙ sym (ap (λ (k : ℕ). numbers k b a) (sym q) ∙ numbers_split i (16 - i) b a ∙ ap (λ (t : List ℕ). numbers i b a ++ t) (numbers_past (16 - i) b (a + 8 * i) l))

pub filled_end : (xs s : List ℕ) (i : ℕ) → i ≤ 16 → (i < 16 → length s ≤ 8 * i) → xs ≡ filled i s 0 → xs ≡ numbers 16 s 0
filled_end xs s i h l e = ⊎_elim (λ (k : 16 ≤ i). filled_all xs s 0 i h k e) (λ (k : i < 16). filled_rest xs s 0 i h (omega (arith, l k)) e) (le_or_lt 16 i)

-- of at most eight bytes there is one number, and fifteen zeros
pub numbers_one : (s : List ℕ) → length s ≤ 8 → whole (part s 0 8) ∷ replicate 15 0 ≡ numbers 16 s 0
numbers_one s h = filled_rest _ s 0 1 (omega arith) (omega arith) (filled_more _ s 0 0 _ (omega arith) (filled_none s 0) refl)

-- components that are written are read back cut to 8 bytes
pub numbers_cut : (n : ℕ) (h xs : List ℕ) (a : ℕ) → length h ≡ a → (i : ℕ) → i < n → get_or (numbers n (h ++ eights n xs) a) i 0 ≡ get_or xs i 0 % 256 ^ 8
unfolding numbers eights part
numbers_cut zero h xs a e i q = absurd (not-suc-le-zero q)
numbers_cut (suc n) h xs a e zero q =
    ap (λ (t : List ℕ). whole (part t 0 8)) (drop_at h (lows 8 (get_or xs 0 0) ++ eights n (drop 1 xs)) a e)
    ∙ ap whole (take_at (lows 8 (get_or xs 0 0)) (eights n (drop 1 xs)) 8 (lows_long 8 (get_or xs 0 0))) ∙ whole_cut 8 (get_or xs 0 0)
numbers_cut (suc n) h xs a e (suc i) q =
    ap (λ (t : List ℕ). get_or (numbers n t (a + 8)) i 0) (sym (append_assoc h (lows 8 (get_or xs 0 0)) (eights n (drop 1 xs))))
    ∙ numbers_cut n (h ++ lows 8 (get_or xs 0 0)) (drop 1 xs) (a + 8) (omega (arith, length-append h (lows 8 (get_or xs 0 0)), lows_long 8 (get_or xs 0 0))) i (le_of_suc-le-suc q)
    ∙ ap (λ (x : ℕ). x % 256 ^ 8) (get_or-drop 1 xs i 0 ∙ ap (λ (k : ℕ). get_or xs k 0) (omega arith))

-- numbers that lie in a part are those of the whole
pub numbers_part : (n : ℕ) (l : List ℕ) (a m k : ℕ) → k + 8 * n ≤ m → numbers n (part l a m) k ≡ numbers n l (a + k)
unfolding numbers
numbers_part zero l a m k h = refl
numbers_part (suc n) l a m k h =
    rw (part_part l a m k 8 (omega arith), numbers_part n l a m (k + 8) (omega arith))
    (ap (λ (j : ℕ). whole (part l (a + k) 8) ∷ numbers n l j) (omega arith))
