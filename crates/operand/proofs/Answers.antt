-- What an operator may answer: a well_formed_lem value, or a refusal of its own beside zeros, or beside an operand that it carries. Assumes nothing.
use mathlib.Core.Path.{◌≡◌}
use mathlib.Core.Bool.{true, false}
use mathlib.Core.List.{List}
use mathlib.Core.Logic.{◌⊎◌}
use Prim.Native.Nat.{ℕ, ◌≤◌, ◌<◌}
use lib.ListN.{length, get_or}
use Rattle.types.specs.Types.{integer_of}
use Rattle.value.specs.Answer.{carries}
use Rattle.value.specs.Pattern.{proper_of, kept_of}
use Rattle.operand.specs.Operand.{shape_ok, shape_of, component_count, a_scalar}
use Rattle.operand.specs.Outcome.{refused_with}
use Rattle.operand.specs.declared.Instance.{Instance}
use Rattle.operand.specs.declared.Outcome.{Outcome}

-- a pattern of its type, a NaN as it is kept
abbrev pub Fine : ℕ → ℕ → Type 0
Fine ty b = (proper_of ty b ≡ true) × (kept_of ty b ≡ b)

-- sixteen components: a fact of each one in use, and 0 beyond
pub record Sixteen (Q : ℕ → Type 0) (n : ℕ) (cs : List ℕ) : Type 0 where
  pub long : length cs ≡ 16
  pub used : (i : ℕ) → i < n → Q (get_or cs i 0)
  pub rest : (i : ℕ) → n ≤ i → get_or cs i 0 ≡ 0

-- a value: status 0, detail 0, a known type and shape, proper components in use, 0 beyond
pub record Value (o : Outcome) : Type 0 where
  pub status : o.status ≡ 0
  pub detail : o.detail ≡ 0
  pub shape : shape_ok o.value.ty o.value.cols o.value.rows ≡ true
  pub parts : Sixteen (Fine o.value.ty) (component_count (shape_of o.value)) o.value.comps

-- an operand that a refusal carries: a scalar of an integer type
pub record Carried (v : Instance) : Type 0 where
  pub integer : integer_of v.ty ≡ true
  pub fine : Fine v.ty (get_or v.comps 0 0)
  pub alone : v ≡ a_scalar v.ty (get_or v.comps 0 0)

-- a refusal: a number from 1 to 10; the shifts' have a count below 2^32 and carry an operand, the others detail 0 and zeros
pub record Refusing (o : Outcome) : Type 0 where
  pub low : 1 ≤ o.status
  pub high : o.status ≤ 10
  pub plain : (o.status ≡ 9 → ⊥) → (o.status ≡ 10 → ⊥) → o.detail ≡ 0
  pub small : o.detail < 4294967296
  pub carried : carries o.status ≡ true → Carried o.value
  pub zeros : carries o.status ≡ false → o ≡ refused_with o.status o.detail

abbrev pub Answers : Outcome → Type 0
Answers o = Value o ⊎ Refusing o
