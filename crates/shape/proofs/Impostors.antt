-- 01's impostors, against every operator at once: no program that refuses all, has one fixed answer, or in a vector works only component 0
-- meets the contracts, for on these operands they ask for two values that differ, and for a vector of both. Assumes nothing.
use mathlib.Core.Path.{◌≡◌, refl}
use mathlib.Core.Bool.{false}
use mathlib.Core.List.{List, [], ◌∷◌, ◌++◌, map}
use Prim.Native.Nat.{ℕ}
use lib.Dec.{eqb}
use lib.ListN.{get_or, replicate}
use Rattle.value.specs.Pattern.{kept_of}
use Rattle.scalar.specs.Step.{step_of, unary_step_of, conv_of}
use Rattle.operand.specs.Operand.{every, operand_formed}
use Rattle.low.specs.Bytes.{up_to}
use Rattle.components.specs.Components.{all_or_refusal}
use Rattle.pairing.specs.Pairing.{targets_of}
use Rattle.types.specs.Types.{common_type}
use Rattle.operand.specs.Outcome.{refused_with, value_of}
use Rattle.dispatch.specs.Meaning.{by_component, on_converted, converted_to, judged, binary_meaning, unary_judged, unary_meaning}
use Rattle.operand.specs.declared.Instance.{Instance}
use Rattle.integer.specs.Wrap.{wrap_u, wrap_s}
use Rattle.shape.proofs.Cases.{value, one}

-- an operator on two pairs of operands, each given by its type and bits, and their two answers
pub record Witness : Type 0 where
  pub op : ℕ
  pub left_type : ℕ
  pub right_type_lem : ℕ
  pub type : ℕ
  pub lefts : List ℕ
  pub rights : List ℕ
  pub answers : List ℕ

abbrev witness : ℕ → ℕ → ℕ → ℕ → List ℕ → List ℕ → List ℕ → Witness
witness op x y t l r a = record { op = op; left_type = x; right_type_lem = y; type = t; lefts = l; rights = r; answers = a }

abbrev two : ℕ → ℕ → List ℕ
two a b = a ∷ b ∷ []

-- `||` and `&&`, which vectors do not have
pub conditions : List Witness
conditions = witness 1 0 0 0 (two 0 1) (two 0 0) (two 0 1) ∷ witness 2 0 0 0 (two 1 1) (two 0 1) (two 0 1) ∷ []

-- the others: arithmetic, comparison and bits of I32, shifts of I32 by U32
pub operators : List Witness
operators =
    witness 3 3 3 3 (two 5 1) (two 2 1) (two 7 2)
    ∷ witness 4 3 3 3 (two 5 1) (two 2 1) (two 3 0)
    ∷ witness 5 3 3 3 (two 5 1) (two 2 1) (two 10 1)
    ∷ witness 6 3 3 3 (two 5 1) (two 2 1) (two 2 1)
    ∷ witness 7 3 3 3 (two 5 1) (two 2 1) (two 1 0)
    ∷ witness 8 3 3 0 (two 5 1) (two 2 1) (two 0 1)
    ∷ witness 9 3 3 0 (two 5 1) (two 2 1) (two 1 0)
    ∷ witness 10 3 3 0 (two 5 1) (two 2 3) (two 0 1)
    ∷ witness 11 3 3 0 (two 5 1) (two 2 1) (two 0 1)
    ∷ witness 12 3 3 0 (two 5 1) (two 2 1) (two 1 0)
    ∷ witness 13 3 3 0 (two 5 1) (two 2 3) (two 1 0)
    ∷ witness 14 3 3 3 (two 5 1) (two 2 1) (two 7 1)
    ∷ witness 15 3 3 3 (two 5 1) (two 4 1) (two 4 1)
    ∷ witness 16 3 3 3 (two 5 1) (two 2 1) (two 7 0)
    ∷ witness 17 3 4 3 (two 5 1) (two 2 0) (two 20 1)
    ∷ witness 18 3 4 3 (two 5 4) (two 2 0) (two 1 4)
    ∷ []

-- `!`, `-` and `~`
pub unaries : List Witness
unaries =
    witness 1 0 0 0 (two 0 1) [] (two 1 0)
    ∷ witness 2 3 0 3 (two 5 1) [] (two 0xFFFFFFFB 0xFFFFFFFF)
    ∷ witness 3 3 0 3 (two 5 1) [] (two 0xFFFFFFFA 0xFFFFFFFE)
    ∷ []

-- the two answers of an operator differ
pub unlike : map (λ (a : Witness). eqb (get_or a.answers 0 0) (get_or a.answers 1 0)) (conditions ++ operators ++ unaries) ≡ replicate 21 false
unfolding conditions operators unaries
unlike = refl

-- one of the two as a scalar, and both as a vector
abbrev scalar : ℕ → ℕ → List ℕ → Instance
scalar i t bs = one t (get_or bs i 0)

abbrev vector : ℕ → List ℕ → Instance
vector t bs = value t 1 2 bs

-- an operand made by f, of each operator: what the operators give is the answer made by f
abbrev Binary : (ℕ → List ℕ → Instance) → List Witness → Type 0
Binary f cs =
    map (λ (a : Witness). binary_meaning a.op 0 (f a.left_type a.lefts) (f a.right_type_lem a.rights)) cs
    ≡ map (λ (a : Witness). value_of (f a.type a.answers)) cs

abbrev Unary : (ℕ → List ℕ → Instance) → List Witness → Type 0
Unary f cs = map (λ (a : Witness). unary_meaning a.op 0 (f a.left_type a.lefts)) cs ≡ map (λ (a : Witness). value_of (f a.type a.answers)) cs

-- scalars: neither is all refused, nor is there one fixed answer
pub binary_values : Binary (scalar 0) (conditions ++ operators) × Binary (scalar 1) (conditions ++ operators)
unfolding conditions operators wrap_u wrap_s kept_of step_of conv_of up_to every operand_formed all_or_refusal targets_of common_type by_component on_converted converted_to judged binary_meaning
binary_values = (refl, refl)

pub unary_values : Unary (scalar 0) unaries × Unary (scalar 1) unaries
unfolding unaries wrap_u wrap_s kept_of unary_step_of up_to every operand_formed all_or_refusal unary_judged unary_meaning
unary_values = (refl, refl)

-- vectors: each component is its own
pub binary_vectors : Binary vector operators
unfolding operators wrap_u wrap_s kept_of step_of conv_of up_to every operand_formed all_or_refusal targets_of common_type by_component on_converted converted_to judged binary_meaning
binary_vectors = refl

pub unary_vectors : Unary vector unaries
unfolding unaries wrap_u wrap_s kept_of unary_step_of up_to every operand_formed all_or_refusal unary_judged unary_meaning
unary_vectors = refl

-- ---- the checks in front of an operator, and the conversions of scalars
-- an unknown operator, then an unknown stage, then a malformed operand; a setting's mark, which is 3, is no stage
pub binary_calls : (binary_meaning 19 3 (one 0 2) (one 0 0) ≡ refused_with 25 0) × (binary_meaning 1 3 (one 0 2) (one 0 0) ≡ refused_with 23 0)
    × (binary_meaning 1 2 (one 0 0) (one 0 2) ≡ refused_with 26 0)
unfolding up_to every operand_formed binary_meaning
binary_calls = (refl, refl, refl)

pub unary_calls : (unary_meaning 4 3 (one 0 2) ≡ refused_with 25 0) × (unary_meaning 1 3 (one 0 2) ≡ refused_with 23 0) × (unary_meaning 1 2 (one 0 2) ≡ refused_with 26 0)
unfolding up_to every operand_formed unary_meaning
unary_calls = (refl, refl, refl)

-- AbstractInt -1 + I32 1 = I32 0, and the other way round: neither operand is left as it is
pub conversions : (binary_meaning 3 0 (one 1 0xFFFFFFFFFFFFFFFF) (one 3 1) ≡ value_of (one 3 0)) × (binary_meaning 3 0 (one 3 1) (one 1 0xFFFFFFFFFFFFFFFF) ≡ value_of (one 3 0))
unfolding wrap_u wrap_s kept_of step_of conv_of up_to every operand_formed all_or_refusal targets_of common_type by_component on_converted converted_to judged binary_meaning
conversions = (refl, refl)
