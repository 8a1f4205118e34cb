-- Laws of a part of a list and of a list with a part replaced.
use mathlib.Core.Path.{◌≡◌, refl, sym, ap, ◌∙◌}
use mathlib.Core.List.{List, [], ◌∷◌, ◌++◌, append_assoc, append-nil}
use mathlib.Core.Logic.{⊎_elim}
use Prim.Native.Nat.{ℕ, zero, suc, ◌+◌, ◌-◌, min, ◌≤◌, ◌<◌}
use native.Mathlib.Omega.{arith}
use native.Mathlib.Nat.{add-zero}
use native.Mathlib.Numerals.{add-one, add-two, add-three}
use lib.ListN.{length, take, drop, get_or, set, replicate, length-append, length-take, length-drop, take-append-drop, drop_of_length-le, get_or-append}
use Rattle.integer.proofs.Order.{le_or_lt}
use Rattle.low.specs.Bytes.{part, patch}
use lib.Seq.{take_all, get_or-take, get_or-drop, ext_get_or, get_or-append-add, drop_at, take_at, take-append_seam, drop-append-add, drop-drop, sets-eq}

pub length_part : (l : List ℕ) (a n : ℕ) → a + n ≤ length l → length (part l a n) ≡ n
unfolding part
length_part l a n h = simp (length-take, length-drop) (omega arith)

pub length_patch : (l : List ℕ) (a : ℕ) (b : List ℕ) → a + length b ≤ length l → length (patch l a b) ≡ length l
unfolding patch
length_patch l a b h = simp (length-append, length-take, length-drop) (omega arith)

pub at_part : (l : List ℕ) (a n i : ℕ) → i < n → get_or (part l a n) i 0 ≡ get_or l (a + i) 0
unfolding part
at_part l a n i h = rw (get_or-take, get_or-drop)

-- nothing is past the end
pub part_past : (l : List ℕ) (a n : ℕ) → length l ≤ a → part l a n ≡ []
unfolding part
part_past l a n h = rw (drop_of_length-le l h) (take_all n [] (omega arith))

-- what is left, where no more is there
pub part_rest : (l : List ℕ) (a n : ℕ) → length l - a ≤ n → take (length l - a) (drop a l) ≡ part l a n
unfolding part
part_rest l a n h = take_all (length l - a) (drop a l) (omega (arith, length-drop a l)) ∙ sym (take_all n (drop a l) (omega (arith, length-drop a l)))

-- as the code goes: of what is left from the place on, or from the end where the place is past it, the first n bytes or all
pub part_min : (l : List ℕ) (a n i k : ℕ) → i ≡ min a (length l) → k ≡ min n (length (take (length l - i) (drop i l))) → take k (take (length l - i) (drop i l)) ≡ part l a n
unfolding part
part_min l a n i k e q =
    let all : take (length l - i) (drop i l) ≡ drop i l = take_all (length l - i) (drop i l) (omega (arith, length-drop i l)) in
    let m : k ≡ min n (length l - i) = q ∙ ap (min n) (ap length all ∙ length-drop i l) in
    ap (take k) all
    ∙ ⊎_elim
    (λ (h : length l ≤ a). let z : k ≡ 0 = omega arith in rw z (sym (part_past l a n h)))
    (λ (h : a < length l).
    let f : i ≡ a = omega arith in
    ap (λ (j : ℕ). take k (drop j l)) f
    ∙ ⊎_elim
    (λ (g : n ≤ length l - a). let z : k ≡ n = omega arith in ap (λ (j : ℕ). take j (drop a l)) z)
    (λ (g : length l - a < n). let z : k ≡ length l - a = omega arith in ap (λ (j : ℕ). take j (drop a l)) z ∙ part_rest l a n (omega arith))
    (le_or_lt n (length l - a)))
    (le_or_lt (length l) a)

-- a part of a part
pub part_part : (l : List ℕ) (a n b m : ℕ) → b + m ≤ n → part (part l a n) b m ≡ part l (a + b) m
unfolding part
part_part l a n b m h = ext_get_or 0 _ _ (simp (length-take, length-drop) (omega arith)) (λ i k. cell i (omega (arith, length-take m (drop b (take n (drop a l))))))
  where
    cell : (i : ℕ) → i < m → get_or (take m (drop b (take n (drop a l)))) i 0 ≡ get_or (take m (drop (a + b) l)) i 0
    cell i k =
        get_or-take m (drop b (take n (drop a l))) i 0 k ∙ get_or-drop b (take n (drop a l)) i 0 ∙ get_or-take n (drop a l) (b + i) 0 (omega arith) ∙ get_or-drop a l (b + i) 0
        ∙ ap (λ (j : ℕ). get_or l j 0) (omega arith) ∙ sym (get_or-take m (drop (a + b) l) i 0 k ∙ get_or-drop (a + b) l i 0)

pub part_again : (l : List ℕ) (a n : ℕ) → part (part l a n) 0 n ≡ part l a n
part_again l a n = part_part l a n 0 n (omega arith) ∙ ap (λ (k : ℕ). part l k n) (omega arith)

past : (xs ys : List ℕ) (i : ℕ) → length xs ≤ i → get_or (xs ++ ys) i 0 ≡ get_or ys (i - length xs) 0
past xs ys i h =
    let e : i ≡ length xs + (i - length xs) = omega arith in
    ap (λ (j : ℕ). get_or (xs ++ ys) j 0) e ∙ get_or-append-add xs ys (i - length xs) 0

module _ (l : List ℕ) (a : ℕ) (b : List ℕ) (fits : a + length b ≤ length l) where
  head_long : length (take a l) ≡ a
  head_long = simp length-take (omega arith)

  both_long : length (take a l ++ b) ≡ a + length b
  both_long = simp (length-append, length-take) (omega arith)

  pub part_patch : part (patch l a b) a (length b) ≡ b
  unfolding part patch
  part_patch = rw (append_assoc, drop_at (take a l) (b ++ drop (a + length b) l) a head_long, take-append_seam)

  pub at_patch_before : (i : ℕ) → i < a → get_or (patch l a b) i 0 ≡ get_or l i 0
  unfolding patch
  at_patch_before i h =
      get_or-append (take a l ++ b) _ 0 i (omega (arith, both_long))
      ∙ get_or-append (take a l) b 0 i (omega (arith, head_long))
      ∙ get_or-take a l i 0 h

  pub at_patch_after : (i : ℕ) → a + length b ≤ i → get_or (patch l a b) i 0 ≡ get_or l i 0
  unfolding patch
  at_patch_after i h =
      past (take a l ++ b) _ i (omega (arith, both_long))
      ∙ get_or-drop (a + length b) l (i - length (take a l ++ b)) 0
      ∙ ap (λ (j : ℕ). get_or l j 0) (omega (arith, both_long))

  pub part_patch_before : (c n : ℕ) → c + n ≤ a → part (patch l a b) c n ≡ part l c n
  part_patch_before c n h =
      ext_get_or 0 _ _ (omega (arith, length_part (patch l a b) c n (omega (arith, length_patch l a b fits)), length_part l c n (omega arith)))
      (λ i hi.
      let k : i < n = omega (arith, length_part (patch l a b) c n (omega (arith, length_patch l a b fits))) in
      at_part (patch l a b) c n i k ∙ at_patch_before (c + i) (omega arith) ∙ sym (at_part l c n i k))

  pub part_patch_after : (c n : ℕ) → a + length b ≤ c → c + n ≤ length l → part (patch l a b) c n ≡ part l c n
  part_patch_after c n h m =
      ext_get_or 0 _ _ (omega (arith, length_part (patch l a b) c n (omega (arith, length_patch l a b fits)), length_part l c n (omega arith)))
      (λ i hi.
      let k : i < n = omega (arith, length_part (patch l a b) c n (omega (arith, length_patch l a b fits))) in
      at_part (patch l a b) c n i k ∙ at_patch_after (c + i) (omega arith) ∙ sym (at_part l c n i k))

-- stores one after another are a patch
pub stores4 : (l : List ℕ) (i v w x y : ℕ) → i + 4 ≤ length l → set (set (set (set l i v) (i + 1) w) (i + 2) x) (i + 3) y ≡ patch l i (v ∷ w ∷ x ∷ y ∷ [])
unfolding patch
stores4 l i v w x y h = rw (add-one, add-two, add-three) (sets-eq (v ∷ w ∷ x ∷ y ∷ []) l i h)

-- nothing replaced
pub patch_none : (l : List ℕ) (a : ℕ) → l ≡ patch l a []
unfolding patch
patch_none l a = sym (rw (add-zero, append-nil, take-append-drop))

-- all replaced
pub patch_all : (l b : List ℕ) → length b ≡ length l → patch l 0 b ≡ b
unfolding patch
patch_all l b e =
    let h : length l ≤ 0 + length b = omega arith in
    rw (drop_of_length-le l h) (append-nil b)

-- a part that was lent, back in its place
pub lent_back : (l : List ℕ) (a k : ℕ) (b : List ℕ) → k ≡ length b → take a l ++ (b ++ drop k (drop a l)) ≡ patch l a b
unfolding patch
lent_back l a k b e = rw (e, drop-drop, append_assoc)

-- a patch right after a patch
pub patch_next : (l : List ℕ) (a : ℕ) (x : List ℕ) (b : ℕ) (y : List ℕ) → b ≡ a + length x → b + length y ≤ length l → patch (patch l a x) b y ≡ patch l a (x ++ y)
unfolding patch
patch_next l a x b y e h =
    let f : a + length x ≤ length l = omega arith in
    let n : b + length y ≡ length (take a l ++ x) + length y = omega (arith, both_long l a x f) in
    let m : (a + length x) + length y ≡ a + length (x ++ y) = omega (arith, length-append x y) in
    let head : take b (take a l ++ x ++ drop (a + length x) l) ≡ take a l ++ x = take_at (take a l ++ x) (drop (a + length x) l) b (both_long l a x f ∙ sym e) in
    let tail : drop (b + length y) (take a l ++ x ++ drop (a + length x) l) ≡ drop (a + length (x ++ y)) l =
    ap (λ (k : ℕ). drop k (take a l ++ x ++ drop (a + length x) l)) n
    ∙ drop-append-add (take a l ++ x) (drop (a + length x) l) (length y)
    ∙ drop-drop (length y) (a + length x) l
    ∙ ap (λ (k : ℕ). drop k l) m in
    rw (head, tail) (ap (λ (t : List ℕ). t ++ drop (a + length (x ++ y)) l) (append_assoc (take a l) x y))

-- n zeros of m or more
pub zeros_of : (n m : ℕ) → n ≤ m → take n (replicate {A = ℕ} m 0) ≡ replicate n 0
zeros_of zero m h = refl
zeros_of (suc n) zero h = absurd (omega arith)
zeros_of (suc n) (suc m) h = ap (λ (l : List ℕ). 0 ∷ l) (zeros_of n m (omega arith))
