-- Numbers as bytes, low byte first, and parts of a list of bytes.
use Rattle.std.specs.Prelude.{List, [], ◌∷◌, ◌++◌, ℕ, zero, suc, ◌+◌, ◌*◌, ◌/◌, ◌%◌, length, take, drop, get_or}

-- the n low bytes of x, low byte first
unfoldable pub lows : ℕ → ℕ → List ℕ
lows zero x = []
lows (suc n) x = x % 256 ∷ lows n (x / 256)

-- the number whose bytes these are, low byte first
unfoldable pub whole : List ℕ → ℕ
whole [] = 0
whole (b ∷ bs) = b + 256 * whole bs

-- the n bytes from place a on, or as many of them as there are: `whole (part l a n)` is the number there, with 0 for each byte past the end
unfoldable pub part : List ℕ → ℕ → ℕ → List ℕ
part l a n = take n (drop a l)

-- l with b in the place of as many bytes from place a on
unfoldable pub patch : List ℕ → ℕ → List ℕ → List ℕ
patch l a b = take a l ++ b ++ drop (a + length b) l

-- n numbers of 8 bytes from place a on
unfoldable pub numbers : ℕ → List ℕ → ℕ → List ℕ
numbers zero b a = []
numbers (suc n) b a = whole (part b a 8) ∷ numbers n b (a + 8)

-- the first n numbers as 8 bytes each
unfoldable pub eights : ℕ → List ℕ → List ℕ
eights zero xs = []
eights (suc n) xs = lows 8 (get_or xs 0 0) ++ eights n (drop 1 xs)

-- f 0, f 1 and so on, n of them
unfoldable pub up_to : {A : Type 0} → (ℕ → A) → ℕ → List A
up_to f zero = []
up_to f (suc n) = up_to f n ++ (f n ∷ [])
