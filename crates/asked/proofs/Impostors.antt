-- Wrong programs that the contracts rule out, beside the edits of must-fail: at these words the definitions that the contracts cite give an answer
-- that the wrong program does not. Assumes nothing.
use mathlib.Core.Path.{◌≡◌, refl}
use mathlib.Core.List.{List, [], ◌∷◌}
use Prim.Native.Nat.{ℕ}
use Rattle.words.specs.Spelling.{low_digit, letter_digit, digit_of, onwards, digits_only, spelled}
use Rattle.words.specs.Split.{before, behind, word_at, next_place, word_place}
use Rattle.std.proofs.Common.{Some, None, Ok, Err}
use Rattle.asked.specs.Asked.{dash_v, verbose, sheet_at, spelled_in, code_of, asked_at, asked_from, first_bad}

-- `-v`, `s`, `1`, a type's digit and `10`, each ended by a byte 0
abbrev line : ℕ → List ℕ
line ty = 45 ∷ 118 ∷ 0 ∷ 115 ∷ 0 ∷ 49 ∷ 0 ∷ ty ∷ 0 ∷ 49 ∷ 48 ∷ 0 ∷ []

-- change_at: the content is hexadecimal, the entry and the type are not; a type past the last is no type
pub bits_in_hex : asked_at (line 52) 2 ≡ Ok (record { entry = 1; ty = 4; bits = 16 })
unfolding asked_at spelled_in code_of before behind word_at low_digit letter_digit digit_of onwards digits_only spelled
bits_in_hex = refl

pub type_named : asked_at (line 55) 2 ≡ Err 3
unfolding asked_at spelled_in code_of before behind word_at low_digit letter_digit digit_of onwards digits_only spelled
type_named = refl

-- first_bad: the word that is told is the bad one, not the first of its change; good words are none
pub bad_told : first_bad (asked_from 1 (line 55) 2) ≡ Some 3
unfolding asked_at asked_from first_bad spelled_in code_of before behind word_at low_digit letter_digit digit_of onwards digits_only spelled
bad_told = refl

pub good_passed : first_bad (asked_from 1 (line 52) 2) ≡ None
unfolding asked_at asked_from first_bad spelled_in code_of before behind word_at low_digit letter_digit digit_of onwards digits_only spelled
good_passed = refl

-- sheet_at and sheet_word: `-v` is not the sheet's name
pub name_after : sheet_at (line 52) ≡ 1
unfolding sheet_at verbose dash_v before word_at
name_after = refl

pub name_told : word_at (sheet_at (line 52)) (line 52) ≡ 115 ∷ []
unfolding sheet_at verbose dash_v before behind word_at
name_told = refl

-- sheet_word: a later word of the same bytes is not the sheet's name
pub name_place : (word_at 3 (line 115) ≡ word_at (sheet_at (line 115)) (line 115)) × (word_place (sheet_at (line 115)) (line 115) ≡ 3)
unfolding sheet_at verbose dash_v before behind word_at next_place word_place
name_place = (refl, refl)
