-- The tests of the code against the checks of the definitions. Assumes nothing.
use mathlib.Core.Path.{◌≡◌}
use mathlib.Core.Bool.{Bool, true, false, not}
use mathlib.Core.List.{List}
use Prim.Native.Nat.{ℕ}
use borrow.Author.Tests.{not-true, not-false}
use Rattle.std.specs.Prelude.{Ok, Err}
use Rattle.value.specs.declared.Refusal.{Refusal}
use Rattle.components.specs.Components.{Out}
use Rattle.operand.specs.Outcome.{refused_with, refused_as}
use Rattle.dispatch.specs.Meaning.{refuse_unless, on_result, shaped_answer}
use Rattle.operand.specs.declared.Outcome.{Outcome}

-- a check that the code tests: it refuses, or lets what comes after it answer
module _ (r b : Bool) (e : r ≡ b) (n : ℕ) (v o : Outcome) where
  pub refuses : not r ≡ true → v ≡ refused_with n 0 → v ≡ refuse_unless b n o
  refuses h q = rw (← e, not-true r h) q

  pub passes : not r ≡ false → v ≡ o → v ≡ refuse_unless b n o
  passes h q = rw (← e, not-false r h) q

-- a run that the code takes apart: a refused one is the answer, any other goes on
module _ (o : Out (List ℕ)) (v : Outcome) (k : List ℕ → Outcome) where
  pub on_refusal : (r : Refusal) → Err r ≡ o → v ≡ refused_as r → v ≡ on_result o k
  on_refusal r e q = rw (← e) q

  pub on_components : (xs : List ℕ) → Ok xs ≡ o → v ≡ k xs → v ≡ on_result o k
  on_components xs e q = rw (← e) q

-- a run's answer is that of what it worked out
pub answer_same : (o p : Out (List ℕ)) (v : Outcome) (t u c w : ℕ) → v ≡ shaped_answer o t c w → o ≡ p → t ≡ u → v ≡ shaped_answer p u c w
answer_same o p v t u c w e q h = cc
