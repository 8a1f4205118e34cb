-- The third demand, over the bytes of a sheet and of its results. proofs/Meets.antt has a proof of Demand3, and proofs/Calls.antt one for each call.
-- "Any accepted sheet, any results buffer of the right length whatever it holds, any setting, any proper new content of its type: after the change,
-- slots of other entries that do not depend on the setting hold their old bytes; its own slot holds the new content (a NaN as 01 keeps it); every
-- dependent's slot holds what its expression means over the slots as they now stand; the count returned is the number of dependents. So fresh results
-- become the fresh results for the changed setting."
use Rattle.std.specs.Prelude.{ℕ, ◌*◌, ◌≡◌, true, List, [], ◌∷◌, length, take, Result, Ok}
use Rattle.value.specs.Pattern.{proper_of}
use Rattle.operand.specs.declared.Instance.{Instance}
use Rattle.low.specs.Bytes.{lows, patch}
use Rattle.low.specs.Read.{Read, found, refused, refusal}
use Rattle.sheet.specs.Tree.{setting}
use Rattle.sheet.specs.Sheet.{Sheet, read_sheet}
use Rattle.entries.specs.Entries.{entry_at, refs_of, with_setting}
use Rattle.writer.specs.Write.{content_place, Bytes}
use Rattle.low.specs.declared.Refused.{Refused}
use Rattle.fold.specs.Fresh.{means_of, fresh_bytes}
use Rattle.fold.specs.Change.{content, content_bytes, change_answer, change_bytes}
use Rattle.fold.specs.Demand.{Changed, Version}

-- ---- the change, as the contract of `change` says it: what it answers, and the results afterwards
abbrev pub answered : List ℕ → List ℕ → ℕ → ℕ → ℕ → Result ℕ Refused
answered s l i ty bits = change_answer (read_sheet s) l i ty bits

abbrev pub after : List ℕ → List ℕ → ℕ → ℕ → ℕ → List ℕ
after s l i ty bits = change_bytes (read_sheet s) l i ty bits

-- "any setting, any proper new content of its type"
pub record Content (es : Sheet) (i ty bits : ℕ) : Type 0 where
  pub value : Instance
  pub setting : entry_at es i ≡ setting value
  pub type : ty ≡ value.ty
  pub proper : proper_of ty bits ≡ true

-- "Any accepted sheet, any results buffer of the right length whatever it holds": s is accepted, as the sheet es, and l has a slot for each
pub record Asked (s l : List ℕ) (es : Sheet) (i ty bits : ℕ) : Type 0 where
  pub end : ℕ
  pub accepted : read_sheet s ≡ found es end
  pub sized : length l ≡ 136 * length es.entries
  pub content : Content es i ty bits

-- of an answer and the results r afterwards: such a change, and no other, is done. It answers a count, and of count and results holds what Changed says
-- (kept, own, works, counted) over what the sheet's entries mean and name; a refused change writes no byte
pub record ChangeMeets (s l : List ℕ) (i ty bits : ℕ) (answer : Result ℕ Refused) (r : List ℕ) : Type 0 where
  pub works : (es : Sheet) → Asked s l es i ty bits
      → (count : ℕ) × (answer ≡ Ok count) × Changed (means_of es) (refs_of es) i (content_bytes ty bits) (length es.entries) l r count
  pub only : (count : ℕ) → answer ≡ Ok count → (es : Sheet) × Asked s l es i ty bits
  pub refuses : (k p : ℕ) → answer ≡ refusal k p → r ≡ l

-- ---- the changed setting
-- a sheet with 8 bytes of new content in the place of those of entry i
unfoldable pub amended_as : Read Sheet → List ℕ → ℕ → ℕ → List ℕ
amended_as (found es n) s i bits = patch s (content_place (take i es.entries)) (lows 8 bits)
amended_as (refused k p) s i bits = s

abbrev pub amended : List ℕ → ℕ → ℕ → List ℕ
amended s i bits = amended_as (read_sheet s) s i bits

-- it is as long, and accepted, and reads as the old one with that setting replaced
pub record AmendMeets (s : List ℕ) (es : Sheet) (n i ty bits : ℕ) : Type 0 where
  pub bytes : Bytes (amended s i bits)
  pub long : length (amended s i bits) ≡ length s
  pub reads : read_sheet (amended s i bits) ≡ found (with_setting es i (content ty bits)) n

abbrev pub Amends : Type 0
Amends = (s : List ℕ) (es : Sheet) (n i ty bits : ℕ) → Bytes s → read_sheet s ≡ found es n → Content es i ty bits → AmendMeets s es n i ty bits

-- ---- fresh results
-- "So fresh results become the fresh results for the changed setting": those of s become those of s with the new content in its bytes. Neither depends on
-- what the buffers l and r held
abbrev pub FreshChanged : Type 0
FreshChanged = (s : List ℕ) (es : Sheet) (n : ℕ) → Bytes s → read_sheet s ≡ found es n
    → (l r : List ℕ) → length l ≡ 136 * length es.entries → length r ≡ 136 * length es.entries
    → (i ty bits : ℕ) → Content es i ty bits → after s (fresh_bytes (read_sheet s) l) i ty bits ≡ fresh_bytes (read_sheet (amended s i bits)) r

-- a sheet s and a version t of it: both are accepted, and they are the same but for what settings hold
pub record Versions (s t : List ℕ) (es : Sheet) : Type 0 where
  pub end : ℕ
  pub accepted : read_sheet s ≡ found es end
  pub bytes : Bytes t
  pub others : Sheet
  pub ends : ℕ
  pub accepts : read_sheet t ≡ found others ends
  pub version : Version es others

-- and so after any changes before: the sheet lent is s, and the results are the fresh results of any version t of it; they become those of t with the new
-- content in its bytes
abbrev pub FreshAgain : Type 0
FreshAgain = (s t : List ℕ) (es : Sheet) → Versions s t es → (l r : List ℕ) → length l ≡ 136 * length es.entries → length r ≡ 136 * length es.entries
    → (i ty bits : ℕ) → Content es i ty bits → after s (fresh_bytes (read_sheet t) l) i ty bits ≡ fresh_bytes (read_sheet (amended t i bits)) r

-- ---- one change after another, over the same sheet
pub record Edit : Type 0 where
  pub entry : ℕ
  pub ty : ℕ
  pub bits : ℕ

-- the results after all of them, and the sheet with all their contents in its bytes
unfoldable pub after_all : List ℕ → List ℕ → List Edit → List ℕ
after_all s l [] = l
after_all s l (e ∷ edits) = after_all s (after s l e.entry e.ty e.bits) edits

unfoldable pub amended_all : List ℕ → List Edit → List ℕ
amended_all t [] = t
amended_all t (e ∷ edits) = amended_all (amended t e.entry e.bits) edits

-- each is of a setting, with proper content of its type
unfoldable pub Contents : Sheet → List Edit → Type 0
Contents es [] = Unit
Contents es (e ∷ edits) = Content es e.entry e.ty e.bits × Contents es edits

abbrev pub FreshAfterAll : Type 0
FreshAfterAll = (s t : List ℕ) (es : Sheet) → Versions s t es → (l r : List ℕ) → length l ≡ 136 * length es.entries → length r ≡ 136 * length es.entries
    → (edits : List Edit) → Contents es edits → after_all s (fresh_bytes (read_sheet t) l) edits ≡ fresh_bytes (read_sheet (amended_all t edits)) r

-- ---- the whole demand
pub record Demand3 : Type 0 where
  pub change : (s l : List ℕ) (i ty bits : ℕ) → ChangeMeets s l i ty bits (answered s l i ty bits) (after s l i ty bits)
  pub amends : Amends
  pub fresh_changed : FreshChanged
  pub fresh_again : FreshAgain
  pub fresh_after_all : FreshAfterAll
