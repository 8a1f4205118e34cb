-- The change that also tells which entries' slots it worked, a byte for each of 128 entries.
use Rattle.std.specs.Prelude.{ℕ, Bool, false, ◌&&◌, List, eqb, length, get_or, Result}
use Rattle.low.specs.declared.Refused.{Refused}
use Rattle.low.specs.Bytes.{up_to}
use Rattle.low.specs.Read.{Read, found, refused, refusal}
use Rattle.value.specs.Pattern.{pick}
use Rattle.value.specs.Refusals as No
use Rattle.sheet.specs.Sheet.{Sheet}
use Rattle.entries.specs.Entries.{refs_of}
use Rattle.entries.specs.Depend.{touched}
use Rattle.fold.specs.Change.{fault_of, change_answer, change_bytes}

-- 1 for an entry whose slot was worked, and 0 for any other
abbrev pub mark_byte : Bool → ℕ
mark_byte worked = pick worked 1 0

-- marks of another size are ResultsSize; the sheet's own refusals come before that
unfoldable pub other_size : Read Sheet → Result ℕ Refused
other_size (found sh n) = refusal No.ResultsSize 0
other_size (refused k p) = refusal k p

-- what the call answers: with marks of 128 bytes what the change does
unfoldable pub marks_answer : Read Sheet → List ℕ → ℕ → ℕ → ℕ → List ℕ → Result ℕ Refused
marks_answer q l i ty bits m = pick (eqb (length m) 128) (change_answer q l i ty bits) (other_size q)

-- the results afterwards
unfoldable pub marks_results : Read Sheet → List ℕ → ℕ → ℕ → ℕ → List ℕ → List ℕ
marks_results q l i ty bits m = pick (eqb (length m) 128) (change_bytes q l i ty bits) l

-- the marks afterwards: the setting's and its dependents' are 1, also past the last entry every other is 0; a refusal changes none
unfoldable pub marks_bytes : Read Sheet → List ℕ → ℕ → ℕ → ℕ → List ℕ → List ℕ
marks_bytes (found sh n) l i ty bits m =
    pick (eqb (length m) 128 && eqb (fault_of sh (length l) i ty bits) 0) (up_to (λ k. mark_byte (touched (refs_of sh) i k)) 128) m
marks_bytes (refused k p) l i ty bits m = m

-- ---- for the contracts of private functions
-- the bytes of 128 entries, from whether each was worked
unfoldable pub mark_bytes : List Bool → List ℕ
mark_bytes ws = up_to (λ k. mark_byte (get_or ws k false)) 128
