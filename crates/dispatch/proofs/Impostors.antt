-- For each public call a witness at which a wrong program's answer is not the one that the contract asks for. Assumes nothing.
use mathlib.Core.Path.{◌≡◌, refl}
use mathlib.Core.List.{List, [], ◌∷◌, ◌++◌}
use Prim.Native.Nat.{ℕ, ◌-◌}
use lib.ListN.{length, replicate}
use Rattle.integer.specs.Wrap.{wrap_u, wrap_s}
use Rattle.types.specs.Types.{common_type}
use Rattle.value.specs.Pattern.{kept_of}
use Rattle.scalar.specs.Step.{step_of, unary_step_of, conv_of}
use Rattle.low.specs.Bytes.{up_to}
use Rattle.operand.specs.Outcome.{refused_with, refused_on, value_of}
use Rattle.operand.specs.Operand.{a_scalar}
use Rattle.operand.specs.declared.Instance.{Instance}
use Rattle.components.specs.Components.{all_or_refusal}
use Rattle.pairing.specs.Pairing.{targets_of}
use Rattle.dispatch.specs.Meaning.{by_component, on_converted, converted_to, judged, unary_judged}

-- a scalar or vector of a type
abbrev of : ℕ → List ℕ → Instance
of ty cs = record { ty = ty; cols = 1; rows = length cs; comps = cs ++ replicate (16 - length cs) 0 }

-- AbstractInt (5,-1) + I32 (2,1) = (7,0), and the other way round: the left not converted, or the right where only the left has its type
pub converted_first : (judged 3 0 (of 1 (5 ∷ 0xFFFFFFFFFFFFFFFF ∷ [])) (of 3 (2 ∷ 1 ∷ [])) ≡ value_of (of 3 (7 ∷ 0 ∷ [])))
    × (judged 3 0 (of 3 (2 ∷ 1 ∷ [])) (of 1 (5 ∷ 0xFFFFFFFFFFFFFFFF ∷ [])) ≡ value_of (of 3 (7 ∷ 0 ∷ [])))
unfolding wrap_u wrap_s kept_of step_of conv_of up_to all_or_refusal targets_of common_type by_component on_converted converted_to judged
converted_first = (refl, refl)

-- Exec, I32 (5,1) << AbstractInt (2 ^ 31, 2 ^ 31 + 1) = (5,2): the counts converted to the left operand's type, which has no 2 ^ 31
pub counts : judged 17 2 (of 3 (5 ∷ 1 ∷ [])) (of 1 (0x80000000 ∷ 0x80000001 ∷ [])) ≡ value_of (of 3 (5 ∷ 2 ∷ []))
unfolding wrap_u wrap_s kept_of step_of conv_of up_to all_or_refusal targets_of by_component on_converted converted_to judged
counts = refl

-- Const, U32 (1,3,5) << AbstractInt (0,31,40): the operand of component 0, of the last that fails, or the converted count for that of the first
pub failing_operand : judged 17 0 (of 4 (1 ∷ 3 ∷ 5 ∷ [])) (of 1 (0 ∷ 31 ∷ 40 ∷ [])) ≡ refused_on 9 31 (a_scalar 4 3)
unfolding kept_of step_of conv_of up_to all_or_refusal targets_of by_component on_converted converted_to judged
failing_operand = refl

-- AbstractInt (1, 2 ^ 32) / I32 (0,1) is Binary: converted when its turn comes, component 0 would be DivByZero first
pub conversions_first : judged 6 0 (of 1 (1 ∷ 0x100000000 ∷ [])) (of 3 (0 ∷ 1 ∷ [])) ≡ refused_with 2 0
unfolding wrap_u wrap_s kept_of step_of conv_of up_to all_or_refusal targets_of common_type by_component on_converted converted_to judged
conversions_first = refl

-- I32 5 + (2,1) = (7,6): what stands behind a scalar read on
pub scalar_for_each : judged 3 0 (of 3 (5 ∷ [])) (of 3 (2 ∷ 1 ∷ [])) ≡ value_of (of 3 (7 ∷ 6 ∷ []))
unfolding wrap_u wrap_s kept_of step_of conv_of up_to all_or_refusal targets_of common_type by_component on_converted converted_to judged
scalar_for_each = refl

-- (2,1) - (5,3), vectors of unequal length, Bool + Bool: operands swapped, cut short, a right that Bool has not
pub refusals : (judged 4 0 (of 3 (2 ∷ 1 ∷ [])) (of 3 (5 ∷ 3 ∷ [])) ≡ value_of (of 3 (0xFFFFFFFD ∷ 0xFFFFFFFE ∷ [])))
    × (judged 4 0 (of 3 (2 ∷ 1 ∷ [])) (of 3 (5 ∷ 3 ∷ 1 ∷ [])) ≡ refused_with 3 0) × (judged 3 0 (of 0 (1 ∷ 1 ∷ [])) (of 0 (1 ∷ 1 ∷ [])) ≡ refused_with 2 0)
unfolding wrap_u wrap_s kept_of step_of conv_of up_to all_or_refusal targets_of common_type by_component on_converted converted_to judged
refusals = (refl, refl, refl)

-- - I32 (5,1,0), - U32 and - of a matrix: a vector turned round, a right that U32 has not, a matrix taken
pub negations : (unary_judged 2 (of 3 (5 ∷ 1 ∷ 0 ∷ [])) ≡ value_of (of 3 (0xFFFFFFFB ∷ 0xFFFFFFFF ∷ 0 ∷ []))) × (unary_judged 2 (of 4 (5 ∷ [])) ≡ refused_with 1 0)
    × (unary_judged 2 (record { ty = 5; cols = 2; rows = 2; comps = replicate 16 0 }) ≡ refused_with 1 0)
unfolding wrap_u wrap_s kept_of unary_step_of up_to all_or_refusal unary_judged
negations = (refl, refl, refl)
