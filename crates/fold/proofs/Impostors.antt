-- Wrong programs that the contracts rule out, beside the edits of must-fail: at 01's example sheet, or one near it, the definitions that the
-- contracts cite give an answer that the wrong program does not. Assumes nothing.
use mathlib.Core.Path.{◌≡◌, refl}
use mathlib.Core.Bool.{true, false}
use mathlib.Core.List.{List, [], ◌∷◌, ◌++◌, map}
use Prim.Native.Nat.{ℕ, ◌+◌, ◌*◌}
use lib.ListN.{get_or, replicate}
use Rattle.value.specs.Pattern.{kept_of}
use Rattle.scalar.specs.Step.{step_of, conv_of}
use Rattle.operand.specs.Operand.{every, operand_formed}
use Rattle.low.specs.Bytes.{up_to, lows, whole, part, patch, eights, numbers}
use Rattle.components.specs.Components.{all_or_refusal}
use Rattle.pairing.specs.Pairing.{targets_of}
use Rattle.operand.specs.declared.Instance.{Instance}
use Rattle.operand.specs.Outcome.{refused_with}
use Rattle.dispatch.specs.Meaning.{by_component, on_converted, converted_to, judged, binary_meaning}
use Rattle.slot.specs.Slot.{bytes_of, said_by, slot, put, each, component_formed, components_formed, value_formed, blank, formed, well_formed, reference_to}
use Rattle.low.specs.Read.{found, must, then_read, read_as, refusal}
use Rattle.sheet.specs.Tree.{literal, reference, binary, setting, expression, names, names_of}
use Rattle.sheet.specs.Record.{read_head, read_record}
use Rattle.sheet.specs.Sheet.{sheet_of, read_records, read_from, read_sheet, counted_of}
use Rattle.sheet.proofs.Example.{example}
use Rattle.entries.specs.Entries.{entry_at, refs_of, is_setting, setting_type}
use Rattle.entries.specs.Depend.{any, chain, tally}
use Rattle.work.specs.Meaning.{on_two, meaning, entry_meaning}
use Rattle.std.specs.Prelude.{Ok}
use Rattle.types.specs.Edition.{plain}
use Rattle.fold.specs.Fresh.{means_of, evaluated, fresh_answer}
use Rattle.fold.specs.Change.{content, fault_of, with_content, changed, change_answer, change_bytes, change_marks}

-- a U32 literal below 256, as bytes and as a value
abbrev number : ℕ → List ℕ
number low = 1 ∷ 4 ∷ 1 ∷ 1 ∷ low ∷ replicate 7 0

abbrev value : ℕ → Instance
value low = record { ty = 4; cols = 1; rows = 1; comps = low ∷ replicate 15 0 }

-- a record of a stage, and its body's length
abbrev recorded : ℕ → ℕ → List ℕ → List ℕ
recorded stage len body = 0xD5 ∷ 0x17 ∷ stage ∷ len ∷ 0 ∷ body

-- 01's example: a setting, a shift by it and a difference; and results that hold nothing yet
abbrev sheet : List ℕ
sheet = recorded 3 12 (number 5) ++ recorded 1 16 (4 ∷ 17 ∷ number 1 ++ (2 ∷ 0 ∷ [])) ++ recorded 1 16 (4 ∷ 4 ∷ 2 ∷ 1 ∷ number 1)

abbrev results : List ℕ
results = replicate 408 0

example_read : read_sheet sheet
    ≡ found (sheet_of plain 0 (setting (value 5) ∷ expression 1 (binary 0 17 (literal (value 1)) (reference 0)) ∷ expression 1 (binary 0 4 (reference 1) (literal (value 1))) ∷ [])) 59
unfolding kept_of
example_read = example

-- check: a refusal is told with its place; and no count but the sheet's own is told
pub place_told : counted_of (read_sheet (recorded 4 0 [])) ≡ refusal 23 2
unfolding read_records read_record read_head must then_read read_as read_from read_sheet
place_told = refl

pub entries_counted : counted_of (read_sheet sheet) ≡ Ok 3
entries_counted = rw example_read

-- evaluate: results of another size are not filled
pub larger_refused : fresh_answer (read_sheet sheet) (replicate 544 0) ≡ refusal 30 0
unfolding fresh_answer must
larger_refused = rw example_read

-- evaluate and change: where both operands refuse, the left one's refusal stands
pub left_refusal_first : on_two 3 0 (refused_with 7 0) (refused_with 4 0) ≡ refused_with 7 0
unfolding on_two
left_refusal_first = refl

-- change: content of another type is refused, also where the setting's slot has that type
pub other_type_refused : change_answer (read_sheet sheet) results 0 5 0 ≡ refusal 32 0
unfolding change_answer fault_of is_setting setting_type entry_at must
other_type_refused = rw example_read

pub slot_type_refused : change_answer (read_sheet sheet) (0 ∷ 3 ∷ replicate 406 0) 0 3 32 ≡ refusal 32 0
unfolding change_answer fault_of is_setting setting_type entry_at must
slot_type_refused = rw example_read

-- change: an entry that depends by a chain is counted
pub dependents_counted : change_answer (read_sheet sheet) results 0 4 32 ≡ Ok 2
unfolding change_answer fault_of is_setting setting_type entry_at must refs_of names names_of any chain tally
dependents_counted = rw example_read

-- change_marking: the setting and both dependents are marked, and no other entry
pub dependents_marked : change_marks (read_sheet sheet) results 0 4 32 [] ≡ true ∷ true ∷ true ∷ replicate 125 false
unfolding change_marks fault_of is_setting setting_type entry_at must refs_of names names_of any chain up_to
dependents_marked = rw example_read

-- change: 01's second listing. The statuses and details of the three slots: a refused dependent ends nothing, and the place of a refusal is told
abbrev bytes_at : ℕ → List ℕ → List ℕ
bytes_at at r = map (λ (k : ℕ). get_or r (136 * k + at) 0) (0 ∷ 1 ∷ 2 ∷ [])

pub example_changed : (bytes_at 0 (change_bytes (read_sheet sheet) results 0 4 32) ≡ 0 ∷ 9 ∷ 11 ∷ []) × (bytes_at 4 (change_bytes (read_sheet sheet) results 0 4 32) ≡ 0 ∷ 32 ∷ 1 ∷ [])
unfolding change_bytes changed with_content evaluated means_of content on_two meaning entry_meaning fault_of is_setting setting_type entry_at refs_of names
    names_of any chain kept_of must lows whole part patch eights numbers bytes_of said_by slot put each component_formed components_formed value_formed
    blank formed well_formed reference_to step_of conv_of up_to every operand_formed all_or_refusal targets_of by_component on_converted converted_to judged binary_meaning
example_changed = rw example_read (refl, refl)
