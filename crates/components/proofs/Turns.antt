-- A loop over components: it starts with none worked out, a turn has one more or ends the work, and after the last all are there.
-- Assumes nothing.
use mathlib.Core.Path.{◌≡◌, refl, sym, ap, ◌∙◌}
use mathlib.Core.List.{List}
use Prim.Native.Nat.{ℕ, ◌+◌, ◌≤◌, ◌<◌}
use native.Mathlib.Omega.{arith}
use lib.ListN.{length, set, replicate, length-set}
use Rattle.std.specs.Prelude.{Ok, Err}
use Rattle.value.specs.declared.Refusal.{Refusal}
use Rattle.scalar.specs.Step.{Step, step_of}
use Rattle.low.specs.Bytes.{up_to}
use Rattle.components.specs.Components.{Out, all_or_refusal, each_component, step_result}
use Rattle.components.proofs.Traverse.{each_more, each_stop}

-- components 0 to i - 1 of n stand in sixteen places
abbrev pub Turn : (ℕ → Out ℕ) → ℕ → List ℕ → ℕ → Type 0
Turn f n out i = (i ≤ n) × (length out ≡ 16) × (each_component f i ≡ Ok out)

pub turn_first : (f : ℕ → Out ℕ) (n : ℕ) → Turn f n (replicate 16 0) 0
unfolding up_to all_or_refusal
turn_first f n = (omega arith, refl, refl)

module _ (f : ℕ → Out ℕ) (n : ℕ) (out : List ℕ) (i : ℕ) (t : Turn f n out i) where
  module _ (h : i < n) where
    pub turn_next : n ≤ 16 → (b : ℕ) → Ok b ≡ f i → Turn f n (set out i b) (i + 1)
    turn_next k b e = (omega arith, length-set out i b ∙ t.1, each_more f i out b (omega arith) t.2 (sym e))

    pub turn_stop : (r : Refusal) → Err r ≡ f i → Err r ≡ each_component f n
    turn_stop r e = sym (each_stop f i n out r h t.2 (sym e))

  pub turn_last : n ≤ i → Ok out ≡ each_component f n
  turn_last h =
      let q : i ≡ n = omega arith in
      sym t.2 ∙ ap (each_component f) q

-- a step on what was read is the step on the places
pub step_at : (op stage ty : ℕ) {x y a b : ℕ} (s : Step) → x ≡ a → y ≡ b → s ≡ step_of op stage ty x y → step_result s ≡ step_result (step_of op stage ty a b)
step_at op stage ty s p q e = rw (← p, ← q, e)
