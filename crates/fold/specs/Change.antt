-- The change of a setting: its checks, and the buffer afterwards.
use Rattle.std.specs.Prelude.{ℕ, Bool, ◌&&◌, List, eqb, length, Result, Ok}
use Rattle.low.specs.declared.Refused.{Refused}
use Rattle.low.specs.Bytes.{up_to}
use Rattle.low.specs.Read.{Read, found, refused, must, refusal}
use Rattle.types.specs.Edition.{Edition, in_edition}
use Rattle.value.specs.Pattern.{pick, proper_of, kept_of}
use Rattle.value.specs.Refusals as No
use Rattle.operand.specs.declared.Instance.{Instance}
use Rattle.operand.specs.Operand.{a_scalar}
use Rattle.operand.specs.Outcome.{value_of}
use Rattle.slot.specs.Slot.{bytes_of}
use Rattle.sheet.specs.Sheet.{Sheet}
use Rattle.entries.specs.Entries.{entry_at, refs_of, is_setting, setting_type}
use Rattle.entries.specs.Depend.{depends, touched, tally}
use Rattle.fold.specs.Fresh.{Means, means_of, evaluated, sized}

-- new content is a type and 8 bytes; any NaN pattern is kept as its type's one
unfoldable pub content : ℕ → ℕ → Instance
content ty bits = a_scalar ty (kept_of ty bits)

-- its bytes as a slot
abbrev pub content_bytes : ℕ → ℕ → List ℕ
content_bytes ty bits = bytes_of (value_of (content ty bits))

-- a pattern of a type of the edition
abbrev pub proper_in : Edition → ℕ → ℕ → Bool
proper_in e ty bits = in_edition e ty && proper_of ty bits

-- the checks after the sheet's own: ResultsSize, NotASetting (also past the last entry), BadValue, SettingType; 0 if none fails
unfoldable pub fault_of : Sheet → ℕ → ℕ → ℕ → ℕ → ℕ
fault_of sh size i ty bits =
    must (sized sh size) No.ResultsSize
    (must (is_setting (entry_at sh i)) No.NotASetting
    (must (proper_in sh.edition ty bits) No.BadValue
    (must (eqb ty (setting_type (entry_at sh i))) No.SettingType
    0)))

-- the meanings, but the content for the setting
unfoldable pub with_content : Means → ℕ → List ℕ → Means
with_content m i c k l = pick (eqb k i) c (m k l)

-- the setting's slot holds the new content, and its dependents are worked in rising order over the slots as they stand
unfoldable pub changed : Means → (ℕ → List ℕ) → ℕ → List ℕ → ℕ → List ℕ → List ℕ
changed m refs i c n l = evaluated (with_content m i c) (touched refs i) n l

-- what a change answers: the sheet's own refusals, those above, or the number of dependents
unfoldable pub change_answer : Read Sheet → List ℕ → ℕ → ℕ → ℕ → Result ℕ Refused
change_answer (found sh n) l i ty bits =
    pick (eqb (fault_of sh (length l) i ty bits) 0) (Ok (tally (depends (refs_of sh) i) (length sh.entries))) (refusal (fault_of sh (length l) i ty bits) 0)
change_answer (refused k p) l i ty bits = refusal k p

-- the buffer afterwards; a refusal changes no byte
unfoldable pub change_bytes : Read Sheet → List ℕ → ℕ → ℕ → ℕ → List ℕ
change_bytes (found sh n) l i ty bits =
    pick (eqb (fault_of sh (length l) i ty bits) 0) (changed (means_of sh) (refs_of sh) i (content_bytes ty bits) (length sh.entries) l) l
change_bytes (refused k p) l i ty bits = l

-- the marks afterwards: of 128 entries those that were worked; a refusal changes none
unfoldable pub change_marks : Read Sheet → List ℕ → ℕ → ℕ → ℕ → List Bool → List Bool
change_marks (found sh n) l i ty bits marks = pick (eqb (fault_of sh (length l) i ty bits) 0) (up_to (touched (refs_of sh) i) 128) marks
change_marks (refused k p) l i ty bits marks = marks
