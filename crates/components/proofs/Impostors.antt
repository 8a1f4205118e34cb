-- For each public call a witness at which a wrong program's answer is not the one that the contract asks for. Assumes nothing.
use mathlib.Core.Path.{◌≡◌, refl}
use mathlib.Core.List.{List, [], ◌∷◌}
use Prim.Native.Nat.{ℕ}
use lib.ListN.{replicate}
use Rattle.std.specs.Prelude.{Ok, Err}
use Rattle.value.specs.Answer.{refusal}
use Rattle.value.specs.Pattern.{kept_of}
use Rattle.scalar.specs.Step.{step_of, unary_step_of, conv_of}
use Rattle.integer.specs.Wrap.{wrap_u, wrap_s}
use Rattle.low.specs.Bytes.{up_to}
use Rattle.components.specs.Components.{Out, all_or_refusal, each_component, step_result, lane, binary_at, unary_at, converted_at}

abbrev two : ℕ → ℕ → List ℕ
two a b = a ∷ b ∷ replicate 14 0

-- the last refusal for the first; a refusal passed over; component 0 for all
pub first_refusal : (all_or_refusal (Err (refusal 4 0) ∷ Err (refusal 6 0) ∷ []) ≡ Err (refusal 4 0)) × (all_or_refusal (Ok 1 ∷ Err (refusal 6 0) ∷ []) ≡ Err (refusal 6 0))
unfolding all_or_refusal
first_refusal = (refl, refl)

-- the next place read for the first; a refused step taken for one with bits
pub places : (lane (two 7 9) 0 1 1 ≡ 9) × (lane (two 7 9) 1 0 5 ≡ 9) × (each_component (λ i. step_result (Err (refusal 9 32))) 2 ≡ Err (refusal 9 32))
unfolding up_to all_or_refusal
places = (refl, refl, refl)

-- I32: 5 + 2 and 1 + 1; a component beyond the count worked out
abbrev sum : ℕ → Out ℕ
sum = binary_at 3 0 3 (lane (two 5 1) 0 1) (lane (two 2 1) 0 1)

pub sums : (each_component sum 2 ≡ Ok (two 7 2)) × (each_component sum 1 ≡ Ok (two 7 0))
unfolding wrap_u wrap_s kept_of step_of up_to all_or_refusal
sums = (refl, refl)

-- Bool: `!` of false and true, and not of the first twice
pub negations : each_component (unary_at 1 0 (two 0 1)) 2 ≡ Ok (two 1 0)
unfolding kept_of unary_step_of up_to all_or_refusal
negations = refl

-- AbstractInt 7 and 2 ^ 32 to U32: Binary, and not the first alone
pub conversions : (each_component (converted_at 1 4 (two 7 0x100000000)) 2 ≡ Err (refusal 2 0)) × (each_component (converted_at 1 4 (two 7 9)) 2 ≡ Ok (two 7 9))
unfolding kept_of conv_of up_to all_or_refusal
conversions = (refl, refl)
