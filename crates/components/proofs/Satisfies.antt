-- What holds of each component's step holds of all components, and of their refusal. Assumes nothing.
use mathlib.Core.Path.{◌≡◌, refl, ◌∙◌}
use mathlib.Core.List.{List}
use mathlib.Core.Logic.{⊎_elim}
use Prim.Native.Nat.{ℕ, zero, suc, ◌≤◌, ◌<◌}
use native.Mathlib.Omega.{arith}
use native.Mathlib.Nat.{eq-or-lt_of_le, le_of_suc-le-suc, not-suc-le-zero}
use lib.ListN.{get_or, replicate, length-set}
use lib.Seq.{get_or-set_same, get_or-set_other}
use Rattle.types.specs.Types.{result_type}
use Rattle.std.specs.Prelude.{Option, Some, None, Ok, Err}
use Rattle.value.specs.declared.Refusal.{Refusal}
use Rattle.scalar.specs.Step.{Step, step_of, unary_step_of, conv_of}
use Rattle.scalar.proofs.Keeps.{Refuses, no_binary}
use Rattle.scalar.proofs.Promises.{Stepped, Converted, step_answers, unary_answers, conversion_answers}
use Rattle.operand.specs.Operand.{component_at}
use Rattle.low.specs.Bytes.{up_to}
use Rattle.operand.proofs.Answers.{Fine, Sixteen}
use Rattle.components.specs.Components.{Out, and_then, all_or_refusal, each_component, step_result, conv_result, binary_at, unary_at, converted_at}
use Rattle.components.proofs.Traverse.{put_at, each_step}

-- a fact of what was worked out, or a fact of the refusal
abbrev pub Satisfies : {A : Type 0} → (A → Type 0) → (Refusal → Type 0) → Out A → Type 0
Satisfies P R (Ok a) = P a
Satisfies P R (Err r) = R r

zeros : (n i : ℕ) → ◌≡◌ {A = ℕ} (get_or (replicate n 0) i 0) 0
zeros zero i = refl
zeros (suc n) zero = refl
zeros (suc n) (suc i) = zeros n i

module _ (Q : ℕ → Type 0) (R : Refusal → Type 0) where
  put_held : (n : ℕ) (o : Out (List ℕ)) (s : Out ℕ) → n < 16 → Satisfies (Sixteen Q n) R o → Satisfies Q R s → Satisfies (Sixteen Q (suc n)) R (and_then o (λ cs. put_at cs n s))
  put_held n (Ok cs) (Ok b) h k q =
      record {
        long = length-set cs n b ∙ k.long;
        used = λ i z. ⊎_elim
            (λ (e : i ≡ n). rw (e, get_or-set_same cs n b 0 (omega (arith, k.long))) q)
            (λ (l : i < n). rw (get_or-set_other cs n i b 0 (omega arith)) (k.used i l))
            (eq-or-lt_of_le (le_of_suc-le-suc z));
        rest = λ i z. get_or-set_other cs n i b 0 (omega arith) ∙ k.rest i (omega arith);
      }
  put_held n (Ok cs) (Err r) h k q = q
  put_held n (Err r) s h k q = k

  -- by component
  pub each_held : (f : ℕ → Out ℕ) (n : ℕ) → n ≤ 16 → ((i : ℕ) → i < n → Satisfies Q R (f i)) → Satisfies (Sixteen Q n) R (each_component f n)
  unfolding up_to all_or_refusal
  each_held f zero h q = record { long = refl; used = λ i z. absurd (not-suc-le-zero z); rest = λ i z. zeros 16 i }
  each_held f (suc n) h q =
      rw (each_step f n h) (put_held n (each_component f n) (f n) h (each_held f n (omega arith) (λ i z. q i (omega arith))) (q n (omega arith)))

-- ---- one component: what the scalar layer promises
stepped : (ty : ℕ) (s : Step) → Stepped ty s → Satisfies (Fine ty) Refuses (step_result s)
stepped ty (Ok (t, b)) h = h.1
stepped ty (Err r) h = h

pub step_held : (op stage ty l r : ℕ) → Satisfies (Fine (result_type op ty)) Refuses (step_result (step_of op stage ty l r))
step_held op stage ty l r = stepped (result_type op ty) (step_of op stage ty l r) (step_answers op stage ty l r)

converted : (ty : ℕ) (c : Option ℕ) → Converted ty c → Satisfies (Fine ty) Refuses (conv_result c)
converted ty (Some b) h = h
converted ty None h = no_binary

-- ---- all components
module _ (n : ℕ) (few : n ≤ 16) where
  pub unary_held : (op ty : ℕ) (xs : List ℕ) → Satisfies (Sixteen (Fine ty) n) Refuses (each_component (unary_at op ty xs) n)
  unary_held op ty xs =
      each_held (Fine ty) Refuses (unary_at op ty xs) n few
      (λ i z. stepped ty (unary_step_of op ty (component_at xs i)) (unary_answers op ty (component_at xs i)))

  pub conv_held : (from to : ℕ) (xs : List ℕ) → Satisfies (Sixteen (Fine to) n) Refuses (each_component (converted_at from to xs) n)
  conv_held from to xs =
      each_held (Fine to) Refuses (converted_at from to xs) n few
      (λ i z. converted to (conv_of from to (component_at xs i)) (conversion_answers from to (component_at xs i)))

  pub pair_held : (op stage ty : ℕ) (x y : ℕ → ℕ) → Satisfies (Sixteen (Fine (result_type op ty)) n) Refuses (each_component (binary_at op stage ty x y) n)
  pair_held op stage ty x y =
      each_held (Fine (result_type op ty)) Refuses (binary_at op stage ty x y) n few (λ i z. step_held op stage ty (x i) (y i))
