-- The number that a word spells.
use Rattle.std.specs.Prelude.{ℕ, ◌+◌, ◌-◌, ◌*◌, ◌^◌, Bool, true, cond, ◌&&◌, List, [], ◌∷◌, Option, Some, None, ltb, length}

-- `0` to `9`, and 16 below them
unfoldable pub low_digit : ℕ → ℕ
low_digit c = cond (ltb c 48) 16 (c - 48)

-- `A` to `F` and `a` to `f`; 16 for any other
unfoldable pub letter_digit : ℕ → ℕ
letter_digit c = cond (ltb c 65) 16 (cond (ltb c 71) (c - 55) (cond (ltb c 97) 16 (cond (ltb c 103) (c - 87) 16)))

-- what a digit stands for; 16 where it is none
unfoldable pub digit_of : ℕ → ℕ
digit_of c = cond (ltb c 58) (low_digit c) (letter_digit c)

-- the number n, and then the digits of a word
unfoldable pub onwards : ℕ → ℕ → List ℕ → ℕ
onwards b n [] = n
onwards b n (c ∷ cs) = onwards b (n * b + digit_of c) cs

-- each is a digit of the base
unfoldable pub digits_only : ℕ → List ℕ → Bool
digits_only b [] = true
digits_only b (c ∷ cs) = ltb (digit_of c) b && digits_only b cs

-- a word that is empty, has another byte or spells a number of more than 64 bits spells nothing
unfoldable pub spelled : ℕ → List ℕ → Option ℕ
spelled b s = cond (ltb 0 (length s)) (cond (digits_only b s && ltb (onwards b 0 s) (2 ^ 64)) (Some (onwards b 0 s)) None) None
