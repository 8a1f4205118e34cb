-- What is claimed of the reader, from outside it: it is the writer's inverse. proofs/Inverse.antt has a proof of each claim.
-- `sheet_of plain 0 es` is the plain sheet of the entries es, whose records begin at its first byte.
use Rattle.std.specs.Prelude.{ℕ, ◌<◌, ◌≡◌, List, ◌∷◌, ◌++◌, length}
use Rattle.low.specs.Read.{found, refused}
use Rattle.sheet.specs.Tree.{Entry}
use Rattle.types.specs.Edition.{plain}
use Rattle.sheet.specs.Sheet.{Sheet, sheet_of, read_sheet}
use Rattle.writer.specs.Write.{write_body, write_sheet, Writable, settled, Written, Bytes}

-- every list of entries that can be written is accepted, and read back as itself, settled
abbrev pub ReadBack : Type 0
ReadBack = (es : List Entry) → Writable es → read_sheet (write_sheet es) ≡ found (sheet_of plain 0 (settled es)) (length (write_sheet es))

-- it is read back as it was where its NaNs are as kept, unused components are 0, and operators have the places that they are written at
abbrev pub ReadItself : Type 0
ReadItself = (es : List Entry) → Writable es → settled es ≡ es → read_sheet (write_sheet es) ≡ found (sheet_of plain 0 es) (length (write_sheet es))

-- two bytes hold the length of each body
abbrev pub BodyFits : Type 0
BodyFits = (before : List Entry) (e : Entry) (after : List Entry) → Writable (before ++ e ∷ after) → length (write_body e) < 65536

-- what an accepted sheet reads as can be written and is settled, and the sheet's bytes are those written of it, but for the patterns of its NaNs
abbrev pub Accepted : Type 0
Accepted = (s : List ℕ) (sh : Sheet) (n : ℕ) → Bytes s → read_sheet s ≡ found sh n
    → Written s sh.entries n × Writable sh.entries × (settled sh.entries ≡ sh.entries)

-- the sheet is refused: some number and some place answer it
abbrev pub Refuses : List ℕ → Type 0
Refuses s = (k : ℕ) × (p : ℕ) × (read_sheet s ≡ refused k p)

-- no list of entries that can be written has these bytes
abbrev pub NotWritten : List ℕ → Type 0
NotWritten s = (es : List Entry) → Writable es → write_sheet es ≡ s → ⊥

-- a sheet is refused exactly if it is no such list's bytes
abbrev pub RefusedExactly : Type 0
RefusedExactly = (s : List ℕ) → Bytes s → (Refuses s → NotWritten s) × (NotWritten s → Refuses s)
