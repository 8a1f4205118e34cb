-- What follows good records: the checks of the next record, each with its number and place.
use mathlib.Core.Path.{◌≡◌, refl, sym, ap, ◌∙◌}
use mathlib.Core.Bool.{Bool, true, false, ◌&&◌, and-false}
use mathlib.Core.Logic.{⊎_elim, ◌⊎◌, inl, inr, ◌≢◌}
use mathlib.Core.List.{List, [], ◌∷◌, ◌++◌, map}
use Prim.Native.Nat.{ℕ, ◌+◌, ◌-◌, ◌/◌, ◌%◌, ◌≤◌, ◌<◌}
use native.Mathlib.Omega.{arith}
use lib.Dec.{eqb}
use lib.ListN.{length, get_or, take, length-append}
use lib.Seq.{get_or-append-add, get_or-take, length-take-le}
use borrow.Author.Tests.{le-leb, lt-leb, eq-eqb, ne_eqb}
use Rattle.types.specs.Edition.{plain}
use Rattle.low.proofs.Tests.{both_true}
use Rattle.low.specs.Bytes.{lows}
use Rattle.low.proofs.Lows.{whole_part2}
use Rattle.integer.proofs.Order.{le_or_lt}
use Rattle.std.specs.Prelude.{Result}
use Rattle.low.specs.declared.Refused.{Refused}
use Rattle.low.specs.Read.{refusal}
use Rattle.sheet.specs.declared.Head.{Head}
use Rattle.low.specs.Read.{refused, read_as}
use Rattle.sheet.specs.Tree.{Entry, entry_stage}
use Rattle.sheet.specs.Record.{body_len, read_head, on_head, read_record}
use Rattle.sheet.specs.Sheet.{sheet_of, read_records, read_from, read_sheet}
use Rattle.low.proofs.Reading.{must_is}
use Rattle.sheet.proofs.Records.{head_cut, head_mark, head_stage, head_short}
use Rattle.sheet.proofs.Sheets.{records_full, records_bad}
use Rattle.writer.specs.Write.{write_body, stage_byte, write_record, write_sheet, WritableEntries, Writable, settled}
use Rattle.writer.specs.Refused.{Follows, TooMany, CutHead, OtherMark, UnknownStage, CutBody, Truncated}
use Rattle.writer.proofs.ReadBack.{stage_small, length_record, records_pass}
use Rattle.writer.proofs.Replaced.{write_append}
use Rattle.writer.proofs.Inverse.{body_fits}
use Rattle.value.specs.Refusals as No

module _ (es : List Entry) (r : List ℕ) (f : Follows es r) where
  abbrev whole : List ℕ
  whole = write_sheet es ++ r

  abbrev place : ℕ
  place = length (write_sheet es)

  long : length whole ≡ place + length r
  long = length-append (write_sheet es) r

  -- the sheet's answer is that of the records from there on
  passed : read_sheet whole ≡ read_as (sheet_of plain 0) (read_records plain (128 - length es) whole (settled es) place)
  unfolding read_sheet read_from
  passed =
      must_is _ _ _ _ _ (le-leb (length whole) 16384 f.short)
      (ap (read_as (sheet_of plain 0))
      (records_pass whole es [] 128 0 f.short f.each f.few (record { before = []; after = r; whole = refl; place = refl })
      ∙ ap (read_records plain (128 - length es) whole (settled es)) (omega arith)))

  -- and their refusal is the sheet's
  refuses : (k p : ℕ) → read_records plain (128 - length es) whole (settled es) place ≡ refused k p → read_sheet whole ≡ refused k p
  unfolding read_as
  refuses k p e = passed ∙ ap (read_as (sheet_of plain 0)) e

  full : length es ≡ 128 → read_sheet whole ≡ refused No.TooManyEntries place
  full e = refuses No.TooManyEntries place (records_full plain (128 - length es) whole (settled es) place (omega (arith, long, f.some)) (omega arith))

  -- a refusal of the head is the sheet's
  stopped : (k p : ℕ) → length es < 128 → refusal k p ≡ read_head whole place → read_sheet whole ≡ refused k p
  unfolding read_record
  stopped k p l e =
      refuses k p
      (records_bad plain (128 - length es) whole (settled es) place (map entry_stage (settled es)) (omega (arith, long, f.some)) (omega arith) refl k p
      (ap (λ (h : Result Head Refused). on_head plain h (map entry_stage (settled es)) whole) (sym e)))

  byte : (i : ℕ) → get_or whole (place + i) 0 ≡ get_or r i 0
  byte i = get_or-append-add (write_sheet es) r i 0

  first : get_or whole place 0 ≡ get_or r 0 0
  first = ap (λ (k : ℕ). get_or whole k 0) (omega arith) ∙ byte 0

  marked : get_or r 0 0 ≡ 0xD5 → get_or r 1 0 ≡ 0x17 → (eqb (get_or whole place 0) 213 && eqb (get_or whole (place + 1) 0) 23) ≡ true
  marked e h = both_true _ _ (eq-eqb (get_or whole place 0) 213 (first ∙ e)) (eq-eqb (get_or whole (place + 1) 0) 23 (byte 1 ∙ h))

  unmarked : (get_or r 0 0 ≢ 0xD5) ⊎ (get_or r 1 0 ≢ 0x17) → (eqb (get_or whole place 0) 213 && eqb (get_or whole (place + 1) 0) 23) ≡ false
  unmarked =
      ⊎_elim
      (λ ne. ap (λ (g : Bool). g && eqb (get_or whole (place + 1) 0) 23) (ne_eqb (get_or whole place 0) 213 (λ z. ne (sym first ∙ z))))
      (λ ne. ap (λ (g : Bool). eqb (get_or whole place 0) 213 && g) (ne_eqb (get_or whole (place + 1) 0) 23 (λ z. ne (sym (byte 1) ∙ z))) ∙ and-false (eqb (get_or whole place 0) 213))

  body_long : body_len r 0 ≡ body_len whole place
  body_long =
      let four : get_or whole (place + 3 + 1) 0 ≡ get_or whole (place + 4) 0 = ap (λ (k : ℕ). get_or whole k 0) (omega arith) in
      omega (arith, whole_part2 r 3, whole_part2 whole (place + 3), byte 3, byte 4, four)

pub too_many : TooMany
too_many es r f e = full es r f e

pub cut_head : CutHead
cut_head es r f l h = stopped es r f 22 _ l (head_cut (write_sheet es ++ r) (length (write_sheet es)) (omega (arith, long es r f)))

pub other_mark : OtherMark
other_mark es r f l h m = stopped es r f 21 _ l (head_mark (write_sheet es ++ r) (length (write_sheet es)) (omega (arith, long es r f)) (unmarked es r f m))

pub unknown_stage : UnknownStage
unknown_stage es r f l h a b g =
    stopped es r f 23 _ l (head_stage (write_sheet es ++ r) (length (write_sheet es)) (omega (arith, long es r f)) (marked es r f a b)
    (lt-leb (get_or (write_sheet es ++ r) (length (write_sheet es) + 2) 0) 3 (omega (arith, byte es r f 2))))

pub cut_body : CutBody
cut_body es r f l h a b g m =
    stopped es r f 22 _ l
    (head_short (write_sheet es ++ r) (length (write_sheet es)) (omega (arith, long es r f)) (marked es r f a b)
    (le-leb (get_or (write_sheet es ++ r) (length (write_sheet es) + 2) 0) 3 (omega (arith, byte es r f 2))) (body_len r 0) (body_long es r f)
    (omega (arith, long es r f)))

-- ---- a sheet that ends inside a record
records_before : (stages : List ℕ) (xs : List Entry) (e : Entry) → WritableEntries stages (xs ++ e ∷ []) → WritableEntries stages xs
unfolding WritableEntries
records_before stages [] e g = tt
records_before stages (x ∷ xs) e g = (g.0, records_before (stages ++ entry_stage x ∷ []) xs e g.1)

record_after : (stages : List ℕ) (xs : List Entry) (e : Entry) → WritableEntries stages (xs ++ e ∷ []) → stage_byte e ≤ 3
unfolding WritableEntries
record_after stages [] e g = stage_small stages e g.0
record_after stages (x ∷ xs) e g = record_after (stages ++ entry_stage x ∷ []) xs e g.1

module _ (before : List Entry) (e : Entry) (m : ℕ) (g : Writable (before ++ e ∷ [])) (some : 0 < m) (less : m < length (write_record e)) where
  abbrev part : List ℕ
  part = take m (write_record e)

  part_long : length part ≡ m
  part_long = length-take-le m (write_record e) (omega arith)

  count : length before < 128
  count = omega (arith, g.few, length-append before (e ∷ []))

  follows : Follows before part
  unfolding write_sheet
  follows =
      record {
        few = omega (arith, count);
        each = records_before [] before e g.each;
        some = omega (arith, part_long);
        short = omega (
          arith,
          g.short,
          part_long,
          length-append (write_sheet before) part,
          ap length (write_append before (e ∷ [])),
          length-append (write_sheet before) (write_sheet (e ∷ [])),
          length-append (write_record e) [],
        );
      }

  kept : (i : ℕ) → i < m → get_or part i 0 ≡ get_or (write_record e) i 0
  kept i h = get_or-take m (write_record e) i 0 h

  -- its first five bytes
  first_five : 5 ≤ m → (get_or part 0 0 ≡ 0xD5) × (get_or part 1 0 ≡ 0x17) × (get_or part 2 0 ≡ stage_byte e) × (body_len part 0 ≡ length (write_body e))
  unfolding write_record lows
  first_five h =
      let fits : length (write_body e) < 65536 = body_fits before e [] g in
      let low : get_or part 3 0 ≡ length (write_body e) % 256 = kept 3 (omega arith) in
      let high : get_or part 4 0 ≡ length (write_body e) / 256 % 256 = kept 4 (omega arith) in
      (kept 0 (omega arith), kept 1 (omega arith), kept 2 (omega arith), omega (arith, whole_part2 part 3))

  ends : read_sheet (write_sheet before ++ part) ≡ refused No.CutShort (length (write_sheet before) + m)
  ends =
      elim (le_or_lt 5 m) [
        | inl h ↦
            let w = first_five h in
            cut_body before part follows count (omega (arith, part_long)) w.0 w.1 (omega (arith, w.2, record_after [] before e g.each))
            (omega (arith, w.3, part_long, length_record e)) ∙ ap (refused 22) (omega (arith, part_long, length-append (write_sheet before) part))
        | inr h ↦ cut_head before part follows count (omega (arith, part_long)) ∙ ap (refused 22) (omega (arith, part_long, length-append (write_sheet before) part))
      ]

pub truncated : Truncated
truncated before e m g some less = ends before e m g some less
