-- What is asked of a change, in the words of the demand: which slots it works, which it keeps, and its count.
use Rattle.std.specs.Prelude.{ℕ, ◌*◌, ◌<◌, ◌≡◌, Bool, ◌≢◌, List, length}
use Rattle.operand.specs.declared.Instance.{Instance}
use Rattle.slot.specs.Slot.{slot}
use Rattle.sheet.specs.Tree.{Entry, setting}
use Rattle.sheet.specs.Sheet.{Sheet}
use Rattle.entries.specs.Entries.{entry_at}
use Rattle.entries.specs.Depend.{Leads, Tells, tally}
use Rattle.fold.specs.Fresh.{Means}

-- after setting i of n entries is changed to the content c over the buffer l: the buffer r and the count.
-- kept: the other slots of entries that do not depend on it; own: its slot is the content;
-- works: a dependent's slot is what it means over the slots as they now stand; counted: how many dependents there are
pub record Changed (m : Means) (refs : ℕ → List ℕ) (i : ℕ) (c : List ℕ) (n : ℕ) (l r : List ℕ) (count : ℕ) : Type 0 where
  pub long : length r ≡ 136 * n
  pub kept : (k : ℕ) → k < n → k ≢ i → (Leads refs i k → ⊥) → slot r k ≡ slot l k
  pub own : slot r i ≡ c
  pub works : (k : ℕ) → k < n → Leads refs i k → slot r k ≡ m k r
  pub counted : (p : ℕ → Bool) → Tells refs i n p → count ≡ tally p n

-- an entry e and f are the same, or both are settings of one type, whatever they hold
pub data SameButContent (e f : Entry) : Type 0 where
  same : f ≡ e → SameButContent e f
  contents : (v w : Instance) → e ≡ setting v → f ≡ setting w → w.ty ≡ v.ty → SameButContent e f

-- the sheet fs is a version of the sheet es: of the same edition, and entry by entry the same, but for what settings hold
pub record Version (es fs : Sheet) : Type 0 where
  pub edition : fs.edition ≡ es.edition
  pub long : length fs.entries ≡ length es.entries
  pub each : (k : ℕ) → SameButContent (entry_at es k) (entry_at fs k)
