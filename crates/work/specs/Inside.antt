-- What the calls over an accepted body ask and tell.
use Rattle.std.specs.Prelude.{ℕ, ◌≡◌, Bool, true, false, List}
use Rattle.types.specs.Edition.{Edition}
use Rattle.operand.specs.declared.Outcome.{Outcome}
use Rattle.sheet.specs.Tree.{Expr, Entry}
use Rattle.sheet.specs.Accepted.{Parsed, Body}
use Rattle.work.specs.declared.Walked.{Walked}
use Rattle.work.specs.Meaning.{meaning, entry_meaning}

-- whatever tree stands at a place, this is its meaning and its end
unfoldable pub NodeMeans : Edition → ℕ → List ℕ → List ℕ → ℕ → Walked → Type 0
NodeMeans e stage b results at r = (t : Expr) (n : ℕ) → Parsed e b at t n → (r.answer ≡ meaning e stage results t) × (r.next ≡ n)

-- the tag of an operator before one operand or two
abbrev pub tag_byte : Bool → ℕ
tag_byte false = 3
tag_byte true = 4

-- whichever entry's body it is, this is its meaning
unfoldable pub BodyMeans : Edition → ℕ → List ℕ → List ℕ → Outcome → Type 0
BodyMeans e stage b results o = (x : Entry) → Body e stage b x → o ≡ entry_meaning e results x
