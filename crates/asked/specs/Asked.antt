-- The words of the command `listing [-v] SHEET [ENTRY TYPE BITS]...`, and the changes that they ask for.
use Rattle.std.specs.Prelude.{ℕ, zero, suc, ◌+◌, ◌-◌, Bool, ◌&&◌, List, [], ◌∷◌, Option, Some, None, Result, Ok, Err, eqb, length, get_or}
use Rattle.integer.specs.Range.{pick}
use Rattle.types.specs.Types.{known_of}
use Rattle.words.specs.Spelling.{spelled}
use Rattle.words.specs.Split.{word_at, word_count}
use Rattle.asked.specs.declared.asked.Change.{Change}

-- a word is `-v`
unfoldable pub dash_v : List ℕ → Bool
dash_v w = eqb (length w) 2 && (eqb (get_or w 0 0) 45 && eqb (get_or w 1 0) 118)

-- `-v` first asks for the entries that each change moves
unfoldable pub verbose : List ℕ → Bool
verbose line = dash_v (word_at 0 line)

-- which word is SHEET, counted from 0, and how many follow it
unfoldable pub sheet_at : List ℕ → ℕ
sheet_at line = pick (verbose line) 1 0

unfoldable pub words_after : List ℕ → ℕ
words_after line = word_count line - sheet_at line - 1

-- a change, or the number of the first word that is bad
abbrev pub Asked : Type 0
Asked = Result Change ℕ

-- what follows from what a word spells; a word that spells none is bad
unfoldable pub spelled_in : Option ℕ → ℕ → (ℕ → Asked) → Asked
spelled_in (Some n) k then = then n
spelled_in None k then = Err k

-- a number that is a type's code
unfoldable pub code_of : Option ℕ → Option ℕ
code_of (Some n) = pick (known_of n) (Some n) None
code_of None = None

-- the change in the three words from word k on: ENTRY in decimal digits, TYPE 0 to 6, BITS in hexadecimal ones; else the first word that is bad
unfoldable pub asked_at : List ℕ → ℕ → Asked
asked_at line k =
    spelled_in (spelled 10 (word_at k line)) k (λ entry.
    spelled_in (code_of (spelled 10 (word_at (k + 1) line))) (k + 1) (λ ty.
    spelled_in (spelled 16 (word_at (k + 2) line)) (k + 2) (λ bits. Ok (record { entry = entry; ty = ty; bits = bits }))))

-- n changes in the words from word k on
unfoldable pub asked_from : ℕ → List ℕ → ℕ → List Asked
asked_from zero line k = []
asked_from (suc n) line k = asked_at line k ∷ asked_from n line (k + 3)

-- the first bad word; none where all are good
unfoldable pub first_bad : List Asked → Option ℕ
first_bad [] = None
first_bad (Err k ∷ more) = Some k
first_bad (Ok c ∷ more) = first_bad more
