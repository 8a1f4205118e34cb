-- Wrong programs that the contract of `listing` rules out, beside the edits of must-fail: at these words and files the definition that the contract
-- cites gives a text that the wrong program does not.
use mathlib.Core.Path.{◌≡◌, refl, ap, ◌∙◌}
use mathlib.Core.Bool.{true, false}
use mathlib.Core.List.{List, [], ◌++◌}
use Prim.Native.Nat.{ℕ, ◌<◌}
use lib.ListN.{length}
use Rattle.low.specs.Read.{Read, refused, must}
use Rattle.sheet.specs.Sheet.{Sheet, read_sheet}
use Rattle.fold.specs.Fresh.{fresh_answer, fresh_bytes}
use Rattle.fold.specs.Change.{change_answer, change_bytes, change_marks}
use Rattle.words.specs.Spelling.{low_digit, letter_digit, digit_of, onwards, digits_only, spelled}
use Rattle.words.specs.Split.{before, behind, word_at, word_count}
use Rattle.text.specs.Text.{ascii, decimals, dec, refusal_line}
use Rattle.asked.specs.Asked.{dash_v, verbose, sheet_at, words_after, spelled_in, code_of, asked_at, asked_from, first_bad}
use Rattle.command.specs.Listing.{complaint, page, moved_page, change_page, after_change, change_pages, entries_of, blank, pages, unless_bad, judged_text, listing_of, printed}
use Rattle.command.proofs.Judging.{long_refused}

-- a sheet and one change, whose last word is given
abbrev changing : List ℕ → List ℕ
changing bits = ascii "s\0" ++ ascii "0\0" ++ ascii "4\0" ++ bits

-- a file that cannot be read is no empty sheet
pub unread : listing_of (changing (ascii "20\0")) false [] ≡ ascii "listing: cannot read s\n"
unfolding listing_of judged_text unless_bad must dash_v verbose sheet_at words_after spelled_in code_of asked_at asked_from first_bad complaint before behind word_at word_count
    low_digit letter_digit digit_of onwards digits_only spelled
unread = refl

-- a bad word is told before the file is looked at, and lists nothing
pub judged_first : listing_of (changing (ascii "2g\0")) false [] ≡ ascii "listing: bad word 2g\n"
unfolding listing_of judged_text unless_bad must dash_v verbose sheet_at words_after spelled_in code_of asked_at asked_from first_bad complaint before behind word_at word_count
    low_digit letter_digit digit_of onwards digits_only spelled
judged_first = refl

-- a change of two words is no change
pub too_few : listing_of (changing []) true [] ≡ ascii "listing: too few words after s\n"
unfolding listing_of judged_text unless_bad must dash_v verbose sheet_at words_after spelled_in code_of asked_at asked_from first_bad complaint before behind word_at word_count
    low_digit letter_digit digit_of onwards digits_only spelled
too_few = refl

-- a file over 16,384 bytes is refused, and so is each change of it, with `-v` too
refused_pages : pages true (refused 20 0) (asked_from 1 (changing (ascii "20\0")) 1) ≡ ascii "refused 20\n" ++ ascii "refused 20\n"
unfolding pages page moved_page change_page after_change change_pages entries_of blank decimals dec refusal_line fresh_answer fresh_bytes change_answer change_bytes
    change_marks spelled_in code_of asked_at asked_from before behind word_at low_digit letter_digit digit_of onwards digits_only spelled must
refused_pages = refl

pub long_listed : (s : List ℕ) → 16384 < length s
    → pages true (read_sheet s) (asked_from 1 (changing (ascii "20\0")) 1) ≡ ascii "refused 20\n" ++ ascii "refused 20\n"
long_listed s h = ap (λ (r : Read Sheet). pages true r (asked_from 1 (changing (ascii "20\0")) 1)) (long_refused s h) ∙ refused_pages

-- a text that has no room is not cut short: a line says so, as much of it as there is room for
pub no_room : printed 8 (ascii "sheet 3\n1") ≡ ascii "listing:"
unfolding printed must complaint
no_room = refl

-- and one that just fits is printed
pub just_fits : printed 8 (ascii "sheet 3\n") ≡ ascii "sheet 3\n"
unfolding printed must complaint
just_fits = refl
