-- Wrong programs that the contracts rule out, beside the edits of must-fail: at these bytes the definitions that the contracts cite give an
-- answer that the wrong program does not. Assumes nothing.
use mathlib.Core.Path.{◌≡◌, refl}
use mathlib.Core.List.{List, [], ◌∷◌}
use Prim.Native.Nat.{ℕ, ◌+◌}
use lib.ListN.{length, drop, replicate}
use Rattle.std.proofs.Common.{Some, None}
use Rattle.words.specs.Spelling.{low_digit, letter_digit, digit_of, onwards, digits_only, spelled}
use Rattle.words.specs.Split.{before, behind, word_at, next_place, word_place, word_count}

-- decimal: "12" is not 11, as where each digit counts as 1
pub digits_count : spelled 10 (49 ∷ 50 ∷ []) ≡ Some 12
unfolding spelled digits_only onwards digit_of low_digit letter_digit
digits_count = refl

-- hex: sixteen letters F and f just fit, and one more is too long
pub bits_fit : spelled 16 (70 ∷ 102 ∷ replicate 14 70) ≡ Some 18446744073709551615
unfolding spelled digits_only onwards digit_of low_digit letter_digit
bits_fit = refl

pub bits_over : spelled 16 (replicate 17 70) ≡ None
unfolding spelled digits_only onwards digit_of low_digit letter_digit
bits_over = refl

-- "a b", a byte 0, "c" and a byte 0
abbrev line : List ℕ
line = 97 ∷ 32 ∷ 98 ∷ 0 ∷ 99 ∷ 0 ∷ []

-- word: a space ends no word; count: each byte is looked at, not the first alone; end_of: a part starts where it is asked for
pub second_word : word_at 1 line ≡ 99 ∷ []
unfolding word_at behind before
second_word = refl

pub words_counted : word_count line ≡ 2
unfolding word_count
words_counted = refl

pub second_end : 4 + length (before 0 (drop 4 line)) ≡ 5
unfolding before
second_end = refl

-- a word of one byte, twice
abbrev twice : List ℕ
twice = 99 ∷ 0 ∷ 99 ∷ 0 ∷ []

-- word: another word of the same bytes is not the one that is asked for
pub second_place_lem : (word_at 1 twice ≡ word_at 0 twice) × (word_place 1 twice ≡ 2)
unfolding word_at word_place next_place behind before
second_place_lem = (refl, refl)
