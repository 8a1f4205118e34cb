-- What the reader means, from outside it: the claims of specs/Claims.antt, and the same of the answer of `check`.
use mathlib.Core.Path.{◌≡◌, refl, sym, ap, ◌∙◌}
use mathlib.Core.List.{List, ◌∷◌}
use Prim.Native.Nat.{ℕ}
use native.Mathlib.Omega.{arith}
use lib.ListN.{length, length-append}
use Rattle.std.specs.Prelude.{Ok}
use Rattle.low.specs.Read.{Read, found, refused}
use Rattle.sheet.specs.Tree.{Entry}
use Rattle.types.specs.Edition.{plain}
use Rattle.sheet.specs.Sheet.{Sheet, sheet_of, read_sheet, counted_of}
use Rattle.low.proofs.Reading.{never}
use Rattle.sheet.proofs.Sheets.{was_good}
use Rattle.writer.specs.Write.{write_record, write_sheet, Writable, settled, Written, Bytes}
use Rattle.writer.specs.Claims.{ReadBack, ReadItself, BodyFits, Accepted, Refuses, NotWritten, RefusedExactly}
use Rattle.writer.proofs.ReadBack as forth
use Rattle.writer.proofs.Accepted as back
use Rattle.writer.proofs.ReadBack.{length_record}
use Rattle.writer.proofs.Settled.{found_writable}
use Rattle.writer.proofs.Replaced.{write_append}

-- ---- the claims
pub read_back : ReadBack
read_back = forth.read_back

pub read_itself : ReadItself
read_itself = forth.read_same

pub body_fits : BodyFits
unfolding write_sheet
body_fits before e after g =
    omega (
      arith,
      g.short,
      ap length (write_append before (e ∷ after)),
      length-append (write_sheet before) (write_sheet (e ∷ after)),
      length-append (write_record e) (write_sheet after),
      length_record e,
    )

pub accepted : Accepted
accepted s sh n bytes e = let w = found_writable s sh n bytes e in (back.accepted s sh n bytes e, w.0, w.1)

-- a sheet that was written is not refused
refused_none : (s : List ℕ) → Refuses s → NotWritten s
refused_none s r es g e = never r.0 r.1 (sheet_of plain 0 (settled es)) (length (write_sheet es)) (sym r.2 ∙ ap read_sheet (sym e) ∙ forth.read_back es g)

-- one that was not written is
none_refused : (s : List ℕ) → Bytes s → NotWritten s → Refuses s
none_refused s bytes h = go (read_sheet s) refl
  where
    go : (x : Read Sheet) → read_sheet s ≡ x → Refuses s
    go (found sh n) e = let w = back.accepted s sh n bytes e in absurd (h w.raw w.writable w.bytes)
    go (refused k p) e = (k, p, e)

pub refused_exactly : RefusedExactly
refused_exactly s bytes = (refused_none s, none_refused s bytes)

-- ---- what follows
-- what was written is accepted
pub reads : (s : List ℕ) (es : List Entry) (n : ℕ) → Written s es n → read_sheet s ≡ found (sheet_of plain 0 es) n
reads s es n w =
    ap read_sheet (sym w.bytes) ∙ forth.read_back w.raw w.writable
    ∙ ap (λ (k : List Entry). found (sheet_of plain 0 k) (length (write_sheet w.raw))) w.same
    ∙ ap (found (sheet_of plain 0 es)) (ap length w.bytes ∙ sym w.ends)

-- no two lists are written alike, but for NaNs, unused components and places
pub written_once : (xs ys : List Entry) → Writable xs → Writable ys → write_sheet xs ≡ write_sheet ys → settled xs ≡ settled ys
written_once xs ys f g e =
    let h : found (sheet_of plain 0 (settled xs)) (length (write_sheet xs)) ≡ found (sheet_of plain 0 (settled ys)) (length (write_sheet ys)) =
    sym (forth.read_back xs f) ∙ ap read_sheet e ∙ forth.read_back ys g in
    let k : sheet_of plain 0 (settled xs) ≡ sheet_of plain 0 (settled ys) = cc in
    ap (λ (x : Sheet). x.entries) k

-- ---- the answer of `check`, whose contract is counted_of (read_sheet s): done exactly if the sheet was written
pub good_written : (s : List ℕ) (n : ℕ) → Bytes s → Ok n ≡ counted_of (read_sheet s) → (es : List Entry) × Written s es (length s) × (length es ≡ n)
good_written s n bytes e =
    let w = was_good (read_sheet s) n e in
    let a = back.accepted s w.0 w.1 bytes w.2 in
    (w.0.entries, record { raw = a.raw; writable = a.writable; bytes = a.bytes; same = a.same; ends = refl }, w.3)

pub written_good : (s : List ℕ) (es : List Entry) → Written s es (length s) → Ok (length es) ≡ counted_of (read_sheet s)
written_good s es w = sym (ap counted_of (reads s es (length s) w))
