-- 01's example: its 59 bytes and the words `SHEET 0 4 20` are listed as 01 prints them, fresh and after setting entry 0 to 32.
use mathlib.Core.Path.{◌≡◌, refl, ap, ◌∙◌}
use mathlib.Core.Bool.{true, false}
use mathlib.Core.List.{List, [], ◌∷◌, ◌++◌}
use Prim.Native.Nat.{ℕ}
use lib.ListN.{replicate}
use Rattle.integer.specs.Wrap.{wrap_u, wrap_s}
use Rattle.types.specs.Types.{common_type}
use Rattle.types.specs.Edition.{plain}
use Rattle.value.specs.Pattern.{kept_of}
use Rattle.scalar.specs.Step.{step_of, conv_of}
use Rattle.operand.specs.declared.Instance.{Instance}
use Rattle.operand.specs.Operand.{every, operand_formed}
use Rattle.low.specs.Bytes.{up_to, lows, whole, part, patch, eights, numbers}
use Rattle.components.specs.Components.{all_or_refusal}
use Rattle.pairing.specs.Pairing.{targets_of}
use Rattle.dispatch.specs.Meaning.{by_component, on_converted, converted_to, judged, binary_meaning}
use Rattle.slot.specs.Slot.{bytes_of, said_by, slot, put, each, component_formed, components_formed, value_formed, blank, integer_formed, formed, well_formed, reference_to}
use Rattle.low.specs.Read.{Read, found, must}
use Rattle.sheet.specs.Tree.{literal, reference, binary, setting, expression, names, names_of}
use Rattle.sheet.specs.Sheet.{Sheet, sheet_of, read_sheet}
use Rattle.sheet.proofs.Example.{bytes, example}
use Rattle.entries.specs.Entries.{entry_at, refs_of, is_setting, setting_type}
use Rattle.entries.specs.Depend.{any, chain, tally}
use Rattle.work.specs.Meaning.{on_two, meaning, entry_meaning}
use Rattle.fold.specs.Fresh.{means_of, evaluated, fresh, fresh_answer, fresh_bytes}
use Rattle.fold.specs.Change.{content, fault_of, with_content, changed, change_answer, change_bytes}
use Rattle.words.specs.Spelling.{low_digit, letter_digit, digit_of, onwards, digits_only, spelled}
use Rattle.words.specs.Split.{before, behind, word_at, word_count}
use Rattle.text.specs.Text.{ascii, decimals, dec, hex, spaced, shown, line, lines, entries, listing, refusal_line}
use Rattle.std.proofs.Common.{Ok}
use Rattle.asked.specs.Asked.{Asked, dash_v, verbose, sheet_at, words_after, spelled_in, code_of, asked_at, asked_from, first_bad}
use Rattle.command.specs.Listing as text
use Rattle.command.specs.Listing.{page, moved_page, change_page, after_change, change_pages, entries_of, pages, unless_bad, judged_text, listing_of}

abbrev words : List ℕ
words = ascii "SHEET\0" ++ ascii "0\0" ++ ascii "4\0" ++ ascii "20\0"

abbrev asked : List Asked
asked = Ok (record { entry = 0; ty = 4; bits = 32 }) ∷ []

-- the words ask for one change of the sheet
words_ask : listing_of words true bytes ≡ pages false (read_sheet bytes) asked
unfolding listing_of judged_text unless_bad must dash_v verbose sheet_at words_after spelled_in code_of asked_at asked_from first_bad before behind word_at word_count low_digit letter_digit
    digit_of onwards digits_only spelled
words_ask = refl

-- what the sheet says: a setting, 1 shifted by it, and that less 1
abbrev number : ℕ → Instance
number k = record { ty = 4; cols = 1; rows = 1; comps = k ∷ replicate 15 0 }

abbrev read : Read Sheet
read = found (sheet_of plain 0 (
    setting (number 5) ∷
    expression 1 (binary 0 17 (literal (number 1)) (reference 0)) ∷
    expression 1 (binary 0 4 (reference 1) (literal (number 1))) ∷ [])) 59

sheet_says : read_sheet bytes ≡ read
unfolding kept_of
sheet_says = example

-- the listing, and the one after setting entry 0 to 32
abbrev pub listings : List ℕ
listings =
    ascii "sheet 3\n"
    ++ ascii "0 0 4 1 1 0 0000000000000005\n"
    ++ ascii "1 0 4 1 1 0 0000000000000020\n"
    ++ ascii "2 0 4 1 1 0 000000000000001f\n"
    ++ ascii "sheet 3\n"
    ++ ascii "0 0 4 1 1 0 0000000000000020\n"
    ++ ascii "1 9 4 1 1 32 0000000000000001\n"
    ++ ascii "2 11 0 0 0 1\n"

sheet_lists : pages false read asked ≡ listings
unfolding pages page moved_page change_page after_change change_pages entries_of text.blank decimals dec hex spaced shown line lines entries listing refusal_line
    fresh_answer fresh_bytes fresh change_answer change_bytes changed with_content evaluated means_of content on_two meaning entry_meaning fault_of is_setting setting_type
    entry_at refs_of names names_of any chain tally kept_of must lows whole part patch eights numbers bytes_of said_by slot put each component_formed
    components_formed value_formed blank integer_formed formed well_formed reference_to step_of conv_of up_to every operand_formed all_or_refusal targets_of by_component on_converted
    converted_to judged binary_meaning common_type wrap_u wrap_s
sheet_lists = refl

pub example_listed : listing_of words true bytes ≡ listings
example_listed = words_ask ∙ ap (λ (r : Read Sheet). pages false r asked) sheet_says ∙ sheet_lists
