-- What the private functions ask and tell. No public contract cites it.
use Rattle.std.specs.Prelude.{ℕ, ◌+◌, ◌<◌, ◌≤◌, ◌≡◌, ◌≢◌, Bool, false, ◌&&◌, List, leb, length, get_or, Option, Some, None, Result, Ok, Err}
use Rattle.low.specs.Bytes.{up_to}
use Rattle.low.specs.declared.Refused.{Refused}
use Rattle.low.specs.Read.{found}
use Rattle.value.specs.Pattern.{pick}
use Rattle.slot.specs.Slot.{put}
use Rattle.sheet.specs.Sheet.{Sheet, read_sheet}
use Rattle.entries.specs.Entries.{refs_of}
use Rattle.entries.specs.Depend.{depends, touched, tally}
use Rattle.entries.specs.Inside.{At, Accepted}
use Rattle.fold.specs.Fresh.{means_of, evaluated}
use Rattle.fold.specs.Change.{fault_of, content_bytes, changed}

-- a sheet of n entries was accepted, and its entry k starts at this place; past the last one this is its end
pub record Placed (s : List ℕ) (n k place : ℕ) : Type 0 where
  pub accepted : Accepted s n
  pub here : At s accepted.sheet k place

-- the marked entries from entry k on
abbrev pub marked_from : ℕ → List Bool → ℕ → Bool
marked_from k marks j = leb k j && get_or marks j false

-- entry k has its turn: it is worked out over l, giving r, if it is marked; its record ends at next
pub record Worked (s : List ℕ) (sh : Sheet) (k : ℕ) (marks : List Bool) (l r : List ℕ) (next : ℕ) : Type 0 where
  pub after : At s sh (k + 1) next
  pub wrote : r ≡ pick (get_or marks k false) (put l k (means_of sh k l)) l

unfoldable pub Works : List ℕ → ℕ → ℕ → List Bool → List ℕ → List ℕ → ℕ → Type 0
Works s k at marks l r next = (sh : Sheet) → At s sh k at → k < length sh.entries → Worked s sh k marks l r next

-- of n entries the marked ones from entry k on are worked out
unfoldable pub WorksAll : List ℕ → ℕ → ℕ → List Bool → List ℕ → List ℕ → Type 0
WorksAll s n k marks l r = (sh : Sheet) (z : ℕ) → read_sheet s ≡ found sh z → length sh.entries ≡ n → r ≡ evaluated (means_of sh) (marked_from k marks) n l

-- where entry i starts, if there is one
unfoldable pub Found : List ℕ → ℕ → ℕ → Option ℕ → Type 0
Found s n i (Some at) = (i < n) × ((sh : Sheet) (z : ℕ) → read_sheet s ≡ found sh z → length sh.entries ≡ n → At s sh i at)
Found s n i None = n ≤ i

-- no check fails, and setting i starts here; or this is the first check that fails, and it has no place
unfoldable pub Judges : List ℕ → Sheet → ℕ → ℕ → ℕ → ℕ → Result ℕ Refused → Type 0
Judges s sh size i ty bits (Ok at) = (fault_of sh size i ty bits ≡ 0) × At s sh i at
Judges s sh size i ty bits (Err z) = (fault_of sh size i ty bits ≡ z.number) × (z.number ≢ 0) × (z.place ≡ 0)

unfoldable pub Judged : List ℕ → ℕ → ℕ → ℕ → ℕ → ℕ → Result ℕ Refused → Type 0
Judged s size n i ty bits r = (sh : Sheet) (z : ℕ) → read_sheet s ≡ found sh z → length sh.entries ≡ n → Judges s sh size i ty bits r

-- entry i of n was given the content, and its dependents were worked, marked and counted
pub record AppliedTo (sh : Sheet) (n i ty bits : ℕ) (l r : List ℕ) (ms : List Bool) (count : ℕ) : Type 0 where
  pub wrote : r ≡ changed (means_of sh) (refs_of sh) i (content_bytes ty bits) n l
  pub marked : ms ≡ up_to (touched (refs_of sh) i) 128
  pub counted : count ≡ tally (depends (refs_of sh) i) n

unfoldable pub Applied : List ℕ → ℕ → ℕ → ℕ → ℕ → List ℕ → List ℕ → List Bool → ℕ → Type 0
Applied s n i ty bits l r ms count = (sh : Sheet) (z : ℕ) → read_sheet s ≡ found sh z → length sh.entries ≡ n → AppliedTo sh n i ty bits l r ms count
