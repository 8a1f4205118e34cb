-- What holds of each step holds of sums of products, of one component or of all at once. Assumes nothing.
use mathlib.Core.List.{List}
use Prim.Native.Nat.{ℕ, zero, suc, ◌-◌, ◌≤◌}
use native.Mathlib.Omega.{arith}
use Rattle.std.specs.Prelude.{Ok, Err}
use Rattle.value.specs.declared.Refusal.{Refusal}
use Rattle.scalar.proofs.Keeps.{Refuses}
use Rattle.operand.proofs.Answers.{Fine, Sixteen}
use Rattle.components.specs.Components.{Out, each_component, lane, binary_at}
use Rattle.components.proofs.Satisfies.{Satisfies, each_held, step_held, pair_held}
use Rattle.products.specs.Products.{plus_next, sum_to, plus_one, dot_of, cell_at, plus_all, times_row, vector_matrix}

module _ {A : Type 0} (P : A → Type 0) (R : Refusal → Type 0) (add : A → A → Out A) (sum : (s p : A) → P s → P p → Satisfies P R (add s p)) where
  next_held : (s p : Out A) → Satisfies P R s → Satisfies P R p → Satisfies P R (plus_next add s p)
  next_held (Ok s) (Ok p) h k = sum s p h k
  next_held (Ok s) (Err r) h k = k
  next_held (Err r) p h k = h

  pub sum_held : (p : ℕ → Out A) (k : ℕ) → ((i : ℕ) → i ≤ k → Satisfies P R (p i)) → Satisfies P R (sum_to add p k)
  unfolding sum_to
  sum_held p zero h = h 0 (omega arith)
  sum_held p (suc k) h = next_held (sum_to add p k) (p (suc k)) (sum_held p k (λ i z. h i (omega arith))) (h (suc k) (omega arith))

-- ---- one component's sum, and all of them
module _ (stage ty : ℕ) where
  dot_held : (x y : ℕ → ℕ) (k : ℕ) → Satisfies (Fine ty) Refuses (dot_of stage ty x y k)
  dot_held x y k =
      sum_held (Fine ty) Refuses (plus_one stage ty) (λ s p h q. step_held 3 stage ty s p) (binary_at 5 stage ty x y) k
      (λ i z. step_held 5 stage ty (x i) (y i))

  pub cells_held : (l r : List ℕ) (rows inner n : ℕ) → n ≤ 16 → Satisfies (Sixteen (Fine ty) n) Refuses (each_component (cell_at stage ty l r rows inner) n)
  cells_held l r rows inner n h = each_held (Fine ty) Refuses (cell_at stage ty l r rows inner) n h (λ i z. dot_held _ _ (inner - 1))

  pub rounds_held : (v m : List ℕ) (rows cols k : ℕ) → cols ≤ 16 → Satisfies (Sixteen (Fine ty) cols) Refuses (vector_matrix stage ty v m rows cols k)
  rounds_held v m rows cols k h =
      sum_held (Sixteen (Fine ty) cols) Refuses (plus_all stage ty cols) (λ s p a b. pair_held cols h 3 stage ty (lane s 0 1) (lane p 0 1))
      (times_row stage ty v m rows cols) k (λ i z. pair_held cols h 5 stage ty (lane v i 0) (lane m i rows))
