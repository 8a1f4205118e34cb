-- The whole sheet: its records one after another.
use Rattle.std.specs.Prelude.{ℕ, zero, suc, List, [], ◌∷◌, ◌++◌, map, length, ltb, leb, Result, Ok}
use Rattle.low.specs.declared.Refused.{Refused}
use Rattle.low.specs.Read.{Read, found, refused, must, then_read, read_as, refusal}
use Rattle.types.specs.Edition.{Edition, plain}
use Rattle.value.specs.Pattern.{pick}
use Rattle.value.specs.Refusals as No
use Rattle.sheet.specs.Tree.{Entry, entry_stage}
use Rattle.sheet.specs.Record.{read_record}

-- what a sheet is: its edition, its entries, and the place where their records begin
pub record Sheet : Type 0 where
  pub edition : Edition
  pub entries : List Entry
  pub begins : ℕ

abbrev pub sheet_of : Edition → ℕ → List Entry → Sheet
sheet_of e begins es = record { edition = e; entries = es; begins = begins }

-- the records from a place on, where so many more entries have room and these stand before: the count is judged first
unfoldable pub read_records : Edition → ℕ → List ℕ → List Entry → ℕ → Read (List Entry)
read_records e zero s done at = pick (ltb at (length s)) (refused No.TooManyEntries at) (found done at)
read_records e (suc room) s done at =
    pick (ltb at (length s))
    (then_read (read_record e (map entry_stage done) s at) (λ x n. read_records e room s (done ++ x ∷ []) n))
    (found done at)

-- a sheet of this edition, whose records begin at this place
unfoldable pub read_from : Edition → ℕ → List ℕ → Read Sheet
read_from e begins s = read_as (sheet_of e begins) (read_records e 128 s [] begins)

-- at most 16,384 bytes and 128 entries; empty is good. Its edition is the plain one, and the records begin at its first byte
unfoldable pub read_sheet : List ℕ → Read Sheet
read_sheet s = must (leb (length s) 16384) (refused No.SheetTooLong 0) (read_from plain 0 s)

-- an answer with the number of entries alone
abbrev pub counted_of : Read Sheet → Result ℕ Refused
counted_of (found sh n) = Ok (length sh.entries)
counted_of (refused k p) = refusal k p
