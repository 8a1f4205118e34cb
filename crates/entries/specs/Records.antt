-- The record at a place, as its head tells it. Of an accepted sheet it is the record of an entry (proofs/Places.antt).
use Rattle.std.specs.Prelude.{ℕ, zero, suc, ◌+◌, List, get_or, Option, Some, None, Result, Ok, Err}
use Rattle.low.specs.Bytes.{part}
use Rattle.low.specs.declared.Refused.{Refused}
use Rattle.low.specs.Read.{Read, found, refused}
use Rattle.sheet.specs.declared.Head.{Head}
use Rattle.sheet.specs.declared.Kind.{Kind}
use Rattle.sheet.specs.declared.Kind.TheVariants as kind
use Rattle.sheet.specs.Stage.{kind_of}
use Rattle.sheet.specs.Record.{read_head}
use Rattle.sheet.specs.Sheet.{Sheet}
use Rattle.entries.specs.declared.Span.{Span}

-- where the records of a sheet begin; 0 for a refused one
unfoldable pub begins_in : Read Sheet → ℕ
begins_in (found sh n) = sh.begins
begins_in (refused k p) = 0

-- stage byte, start and length of the body, and the place after it; an empty body where no head can be read
unfoldable pub span_in : ℕ → Result Head Refused → Span
span_in at (Ok h) = record { stage = h.stage; start = h.start; len = h.len; next = h.start + h.len }
span_in at (Err r) = record { stage = 0; start = at; len = 0; next = at }

abbrev pub span_of : List ℕ → ℕ → Span
span_of s at = span_in at (read_head s at)

-- the place after k records from a place on
unfoldable pub place_after : List ℕ → ℕ → ℕ → ℕ
place_after s at zero = at
place_after s at (suc k) = (span_of s (place_after s at k)).next

-- the type of a setting, that of its one node; none where the record is no setting's
unfoldable pub setting_in : Kind → List ℕ → Option ℕ
setting_in kind.Setting b = Some (get_or b 1 0)
setting_in kind.Expression b = None

abbrev pub setting_of : List ℕ → ℕ → Option ℕ
setting_of s at = setting_in (kind_of (span_of s at).stage) (part s (span_of s at).start (span_of s at).len)
