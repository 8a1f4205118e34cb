-- Dependence: an entry depends on another if a chain of references leads there, whatever the answers are.
use Rattle.std.specs.Prelude.{ℕ, zero, suc, ◌+◌, ◌<◌, ◌≡◌, Bool, true, false, ◌||◌, eqb}
use mathlib.Core.List.{List, [], ◌∷◌, Memᴰ}
use Rattle.value.specs.Pattern.{pick}

-- a chain of references leads from entry k to entry i
pub data Leads (refs : ℕ → List ℕ) (i : ℕ) : ℕ → Type 0 where
  direct : {k : ℕ} → Memᴰ i (refs k) → Leads refs i k
  chained : {k j : ℕ} → Memᴰ j (refs k) → Leads refs i j → Leads refs i k

-- a test tells which of the first n entries depend on i
pub record Tells (refs : ℕ → List ℕ) (i n : ℕ) (p : ℕ → Bool) : Type 0 where
  pub only : (k : ℕ) → k < n → p k ≡ true → Leads refs i k
  pub all : (k : ℕ) → k < n → Leads refs i k → p k ≡ true

-- some entry of a list passes
unfoldable pub any : (ℕ → Bool) → List ℕ → Bool
any p [] = false
any p (j ∷ js) = p j || any p js

-- a chain of at most n references leads from entry k to entry i
unfoldable pub chain : (ℕ → List ℕ) → ℕ → ℕ → ℕ → Bool
chain refs i zero k = false
chain refs i (suc n) k = any (λ j. eqb j i || chain refs i n j) (refs k)

-- entry k depends on entry i: each reference names an earlier entry, so no chain from k has more than k
abbrev pub depends : (ℕ → List ℕ) → ℕ → ℕ → Bool
depends refs i k = chain refs i k k

-- the entries that a change works: the setting and its dependents
abbrev pub touched : (ℕ → List ℕ) → ℕ → ℕ → Bool
touched refs i k = eqb k i || depends refs i k

-- how many of the first n numbers pass
unfoldable pub tally : (ℕ → Bool) → ℕ → ℕ
tally p zero = 0
tally p (suc k) = tally p k + pick (p k) 1 0
