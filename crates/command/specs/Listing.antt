-- What the program prints, as bytes: one definition over the words of the command and what its file was.
use Rattle.std.specs.Prelude.{ℕ, ◌+◌, ◌-◌, ◌*◌, ◌/◌, ◌%◌, Bool, false, List, [], ◌∷◌, ◌++◌, Option, Some, None, Result, Ok, Err, eqb, leb, ltb, length, take, replicate}
use Rattle.value.specs.Pattern.{pick}
use Rattle.low.specs.declared.Refused.{Refused}
use Rattle.low.specs.Read.{Read, found, refused, must}
use Rattle.sheet.specs.Sheet.{Sheet, read_sheet}
use Rattle.fold.specs.Fresh.{fresh_answer, fresh_bytes}
use Rattle.fold.specs.Change.{change_answer, change_bytes, change_marks}
use Rattle.words.specs.Split.{word_at, word_count}
use Rattle.text.specs.Text.{ascii, listing, refusal_line, moved_line}
use Rattle.asked.specs.Asked.{Asked, verbose, sheet_at, words_after, asked_from, first_bad}

-- ---- the lines that list nothing
-- what the words are to be
abbrev pub usage : List ℕ
usage = ascii "usage: listing [-v] SHEET [ENTRY TYPE BITS]...\n"

-- one clear line: what is wrong, and the word that it is said of
unfoldable pub complaint : List ℕ → List ℕ → List ℕ
complaint what word = ascii "listing: " ++ what ++ word ++ ascii "\n"

-- ---- the pages
-- "A refused sheet lists as `refused` and its number", and so does a refused change; else the results are listed
unfoldable pub page : Result ℕ Refused → List ℕ → List ℕ
page (Ok n) results = listing results
page (Err r) results = refusal_line r.number

-- with `-v`, the entries that a change moved stand before its listing
unfoldable pub moved_page : Bool → Result ℕ Refused → List Bool → ℕ → List ℕ
moved_page v (Ok n) marks own = pick v (moved_line n marks own) []
moved_page v (Err r) marks own = []

-- one change of the results: what is printed of it, and the results afterwards
unfoldable pub change_page : Bool → Read Sheet → List ℕ → Asked → List ℕ
change_page v sheet results (Ok c) =
    moved_page v (change_answer sheet results c.entry c.ty c.bits) (change_marks sheet results c.entry c.ty c.bits (replicate 128 false)) c.entry
    ++ page (change_answer sheet results c.entry c.ty c.bits) (change_bytes sheet results c.entry c.ty c.bits)
change_page v sheet results (Err k) = []

unfoldable pub after_change : Read Sheet → List ℕ → Asked → List ℕ
after_change sheet results (Ok c) = change_bytes sheet results c.entry c.ty c.bits
after_change sheet results (Err k) = results

-- after each change its listing, over the results as they then stand
unfoldable pub change_pages : Bool → Read Sheet → List ℕ → List Asked → List ℕ
change_pages v sheet results [] = []
change_pages v sheet results (a ∷ more) = change_page v sheet results a ++ change_pages v sheet (after_change sheet results a) more

-- "Results: 136 bytes an entry": fresh evaluation fills them, whatever they held; a refused sheet has no entries
unfoldable pub entries_of : Read Sheet → ℕ
entries_of (found sh n) = length sh.entries
entries_of (refused number place) = 0

unfoldable pub blank : Read Sheet → List ℕ
blank sheet = replicate (136 * entries_of sheet) 0

-- the listing of the fresh results, and then each change
unfoldable pub pages : Bool → Read Sheet → List Asked → List ℕ
pages v sheet changes =
    page (fresh_answer sheet (blank sheet)) (fresh_bytes sheet (blank sheet))
    ++ change_pages v sheet (fresh_bytes sheet (blank sheet)) changes

-- ---- the whole text
-- the changes that the words after SHEET ask for
abbrev pub changes_in : List ℕ → List Asked
changes_in line = asked_from (words_after line / 3) line (sheet_at line + 1)

-- a line says which word is bad; where none is, the text follows
unfoldable pub unless_bad : Option ℕ → List ℕ → List ℕ → List ℕ
unless_bad (Some k) line text = complaint (ascii "bad word ") (word_at k line)
unless_bad None line text = text

-- the words after SHEET are judged, then whether its file could be read, and then the bytes are listed
unfoldable pub judged_text : List ℕ → Bool → List ℕ → List ℕ
judged_text line readable bytes =
    must (eqb (words_after line % 3) 0) (complaint (ascii "too few words after ") (word_at (sheet_at line + words_after line - words_after line % 3) line))
    (unless_bad (first_bad (changes_in line)) line
    (must readable (complaint (ascii "cannot read ") (word_at (sheet_at line) line))
    (pages (verbose line) (read_sheet bytes) (changes_in line))))

-- the text of the words and of the file, which is readable with these bytes or is not: the words take at most 65,536 bytes, and one is SHEET
unfoldable pub listing_of : List ℕ → Bool → List ℕ → List ℕ
listing_of line readable bytes =
    must (leb (length line) 65536) (complaint (ascii "the words are over 65536 bytes") [])
    (must (ltb (sheet_at line) (word_count line)) usage
    (judged_text line readable bytes))

-- what is printed where there is room for so many bytes: the text, or else as much of a line that says so as there is room for
abbrev pub too_much : List ℕ
too_much = complaint (ascii "too much for one command") []

unfoldable pub printed : ℕ → List ℕ → List ℕ
printed room text = must (leb (length text) room) (take room too_much) text
