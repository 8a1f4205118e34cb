-- What is claimed of refusals, from outside the reader: which bytes decide one (proved in proofs/Alike.antt), and which one follows good records
-- (proofs/Follows.antt).
use Rattle.std.specs.Prelude.{ℕ, ◌+◌, ◌-◌, ◌≤◌, ◌<◌, ◌≡◌, ◌⊎◌, ◌≢◌, List, [], ◌∷◌, ◌++◌, length, get_or, take}
use Rattle.low.specs.Read.{refused}
use Rattle.sheet.specs.Tree.{Entry}
use Rattle.sheet.specs.Record.{body_len}
use Rattle.sheet.specs.Sheet.{read_sheet}
use Rattle.writer.specs.Write.{write_record, write_sheet, WritableEntries, Writable}
use Rattle.value.specs.Refusals as No

-- ---- which bytes decide a refusal
-- how many bytes from its place on the check of a refusal looks at, at most, by its number from 20 on: the mark's two; a stage byte, or a node's tag and the
-- byte after it; a literal's 4 and its components. A length, a count, a depth and what is left over are decided by the bytes before the place
unfoldable pub extent : ℕ → ℕ
extent k = get_or (0 ∷ 2 ∷ 0 ∷ 2 ∷ 0 ∷ 2 ∷ 132 ∷ 2 ∷ 0 ∷ 0 ∷ []) (k - 20) 0

-- the first q bytes of s, as many as there are, are those of t
abbrev pub Agree : ℕ → List ℕ → List ℕ → Type 0
Agree q s t = (i : ℕ) → i < q → i < length s → get_or s i 0 ≡ get_or t i 0

-- t is as long as s; or it is longer, and the refusal is not that s itself is cut short
abbrev pub LongEnough : List ℕ → List ℕ → ℕ → ℕ → Type 0
LongEnough s t k p = (length s ≡ length t) ⊎ ((length s ≤ length t) × (length t ≤ 16384) × (k ≡ 22 → p < length s))

-- a refusal is decided by the bytes up to those that its check looked at: what agrees on them and is long enough is refused alike
abbrev pub RefusedAlike : Type 0
RefusedAlike = (s t : List ℕ) (k p : ℕ) → read_sheet s ≡ refused k p → Agree (p + extent k) s t → LongEnough s t k p → read_sheet t ≡ refused k p

-- ---- after good records: the checks of the next record in their order, at the place where it starts
-- s is entries that can be written, and then r, which is not empty; in all at most 16,384 bytes
pub record Follows (es : List Entry) (r : List ℕ) : Type 0 where
  pub few : length es ≤ 128
  pub each : WritableEntries [] es
  pub some : 0 < length r
  pub short : length (write_sheet es ++ r) ≤ 16384

-- count of entries: TooManyEntries at the record
abbrev pub TooMany : Type 0
TooMany = (es : List Entry) (r : List ℕ) → Follows es r → length es ≡ 128 → read_sheet (write_sheet es ++ r) ≡ refused No.TooManyEntries (length (write_sheet es))

-- 5 bytes there: CutShort at the sheet's end, the first missing byte
abbrev pub CutHead : Type 0
CutHead = (es : List Entry) (r : List ℕ) → Follows es r → length es < 128 → length r < 5 → read_sheet (write_sheet es ++ r) ≡ refused No.CutShort (length (write_sheet es ++ r))

-- mark: BadMark at the record
abbrev pub OtherMark : Type 0
OtherMark = (es : List Entry) (r : List ℕ) → Follows es r → length es < 128 → 5 ≤ length r → (get_or r 0 0 ≢ 0xD5) ⊎ (get_or r 1 0 ≢ 0x17)
    → read_sheet (write_sheet es ++ r) ≡ refused No.BadMark (length (write_sheet es))

-- stage: BadStage at the stage byte
abbrev pub UnknownStage : Type 0
UnknownStage = (es : List Entry) (r : List ℕ) → Follows es r → length es < 128 → 5 ≤ length r → get_or r 0 0 ≡ 0xD5 → get_or r 1 0 ≡ 0x17 → 3 < get_or r 2 0
    → read_sheet (write_sheet es ++ r) ≡ refused No.BadStage (length (write_sheet es) + 2)

-- body there: CutShort at the sheet's end
abbrev pub CutBody : Type 0
CutBody = (es : List Entry) (r : List ℕ) → Follows es r → length es < 128 → 5 ≤ length r → get_or r 0 0 ≡ 0xD5 → get_or r 1 0 ≡ 0x17 → get_or r 2 0 ≤ 3
    → length r < 5 + body_len r 0 → read_sheet (write_sheet es ++ r) ≡ refused No.CutShort (length (write_sheet es ++ r))

-- so a sheet that ends anywhere inside a record is CutShort at its end
abbrev pub Truncated : Type 0
Truncated = (before : List Entry) (e : Entry) (m : ℕ) → Writable (before ++ e ∷ []) → 0 < m → m < length (write_record e)
    → read_sheet (write_sheet before ++ take m (write_record e)) ≡ refused No.CutShort (length (write_sheet before) + m)
