-- A step, from what its calls promise. Assumes nothing.
use Prim.Native.Nat.{ℕ, ◌<◌}
use mathlib.Core.Path.{◌≡◌, ap, ◌∙◌}
use borrow.Author.Tests.{lt-leb}
use Rattle.std.specs.Prelude.{Option}
use Rattle.types.proofs.Choice.{passed}
use Rattle.value.specs.declared.ShaderStage.{ShaderStage}
use Rattle.value.specs.declared.Pair.{Pair}
use Rattle.value.specs.Answer.{Result, stage_of}
use Rattle.value.specs.Pair.{both_of}
use Rattle.value.specs.Scalar.{scalar_of}
use Rattle.scalar.specs.Step.{Step, binary_of, stepped, step_of}

-- an operator that is no shift
pub by_pair : (op stage ty l r : ℕ) {at : ShaderStage} {a : Result} {s : Step} {p : Option Pair} → at ≡ stage_of stage → op < 17
    → p ≡ both_of (scalar_of ty l) (scalar_of ty r) → a ≡ binary_of op at p → s ≡ stepped a → s ≡ step_of op stage ty l r
unfolding step_of
by_pair op stage ty l r e h b m n = n ∙ ap stepped (m ∙ (λ i. binary_of op (e i) (b i))) ∙ passed _ _ (lt-leb 17 op h)
