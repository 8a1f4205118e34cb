-- What calls that go through an accepted sheet ask and tell.
use Rattle.std.specs.Prelude.{ℕ, ◌-◌, ◌≤◌, ◌<◌, ◌≡◌, Bool, List, length, take}
use Rattle.low.specs.Bytes.{up_to}
use Rattle.low.specs.Read.{found}
use Rattle.sheet.specs.Sheet.{Sheet, read_records, read_sheet}
use Rattle.entries.specs.Entries.{refs_of}
use Rattle.entries.specs.Depend.{depends, touched, tally}

-- the record of entry k of the sheet sh starts at this place of its bytes; past the last one this is their end
pub record At (s : List ℕ) (sh : Sheet) (k at : ℕ) : Type 0 where
  pub within : k ≤ length sh.entries
  pub end : ℕ
  pub rest : read_records sh.edition (128 - k) s (take k sh.entries) at ≡ found sh.entries end

-- some accepted sheet's entry k starts there
pub record Here (s : List ℕ) (k at : ℕ) : Type 0 where
  pub sheet : Sheet
  pub place : At s sheet k at
  pub more : k < length sheet.entries

-- a sheet of n entries was accepted
pub record Accepted (s : List ℕ) (n : ℕ) : Type 0 where
  pub sheet : Sheet
  pub end : ℕ
  pub read : read_sheet s ≡ found sheet end
  pub count : length sheet.entries ≡ n

-- one was, and its entry i of n starts at this place
pub record Ready (s : List ℕ) (n i place : ℕ) : Type 0 where
  pub accepted : Accepted s n
  pub here : At s accepted.sheet i place
  pub among : i < n

-- entry i and its dependents are marked, of 128, and its dependents counted
pub record Depended (sh : Sheet) (n i : ℕ) (ms : List Bool) (count : ℕ) : Type 0 where
  pub marked : ms ≡ up_to (touched (refs_of sh) i) 128
  pub counted : count ≡ tally (depends (refs_of sh) i) n

unfoldable pub Dependents : List ℕ → ℕ → ℕ → List Bool → ℕ → Type 0
Dependents s n i ms count = (sh : Sheet) (z : ℕ) → read_sheet s ≡ found sh z → length sh.entries ≡ n → Depended sh n i ms count
