-- One product more in a sum of products, or the refusal that ends it. Assumes nothing.
use mathlib.Core.Path.{◌≡◌, refl, sym, ap, ◌∙◌}
use mathlib.Core.List.{List}
use Prim.Native.Nat.{ℕ, zero, suc, ◌+◌, ◌-◌, ◌≤◌}
use native.Mathlib.Omega.{arith}
use Rattle.std.specs.Prelude.{Ok, Err}
use Rattle.value.specs.declared.Refusal.{Refusal}
use Rattle.scalar.specs.Step.{Step, step_of, on_bits, product_added}
use Rattle.components.specs.Components.{Out, step_result}
use Rattle.products.specs.Products.{plus_next, sum_to, plus_one, plus_all, times_row, dot_of, vector_matrix}

pub sum_more : {A : Type 0} (add : A → A → Out A) (p : ℕ → Out A) (k : ℕ) (s v : Out A) → 1 ≤ k → s ≡ sum_to add p (k - 1)
    → v ≡ plus_next add s (p k) → v ≡ sum_to add p (k + 1 - 1)
unfolding sum_to
sum_more add p zero s v h e q = absurd (omega arith)
sum_more {A} add p (suc j) s v h e q =
    let a : suc j - 1 ≡ j = omega arith in
    let b : suc j + 1 - 1 ≡ suc j = omega arith in
    rw b (q ∙ ap (λ (z : Out A). plus_next add z (p (suc j))) (rw a at e))

-- sums of products that are the same one by one
pub sum_same : {A : Type 0} (add : A → A → Out A) (p q : ℕ → Out A) (k : ℕ) → ((i : ℕ) → i ≤ k → p i ≡ q i) → sum_to add p k ≡ sum_to add q k
unfolding sum_to
sum_same add p q zero h = h 0 (omega arith)
sum_same add p q (suc k) h = rw (sum_same add p q k (λ i z. h i (omega arith)), h (suc k) (omega arith))

-- a sum that refuses still refuses k products on
stays : {A : Type 0} (add : A → A → Out A) (p : ℕ → Out A) (j k : ℕ) (r : Refusal) → sum_to add p j ≡ Err r → sum_to add p (j + k) ≡ Err r
unfolding sum_to
stays add p j zero r e =
    let h : j + 0 ≡ j = omega arith in
    rw h e
stays add p j (suc k) r e =
    let h : j + suc k ≡ suc (j + k) = omega arith in
    rw (h, stays add p j k r e)

-- a refused sum is the sum to the end, whatever products follow
pub sum_stop : {A : Type 0} (add : A → A → Out A) (p : ℕ → Out A) (j m : ℕ) (r : Refusal) → j ≤ m → Err r ≡ sum_to add p j → Err r ≡ sum_to add p m
sum_stop add p j m r h e =
    let g : j + (m - j) ≡ m = omega arith in
    sym (rw g at (stays add p j (m - j) r (sym e)))

-- one component's sum: the first product, and each one after it added to the sum of those before
module _ (stage ty : ℕ) (x y : ℕ → ℕ) (l r : ℕ) (o : Step) where
  pub dot_first : l ≡ x 0 → r ≡ y 0 → o ≡ step_of 5 stage ty l r → step_result o ≡ dot_of stage ty x y 0
  unfolding sum_to
  dot_first p q w = rw (← p, ← q) (ap step_result w)

  pub dot_more : (k s : ℕ) → 1 ≤ k → Ok s ≡ dot_of stage ty x y (k - 1) → l ≡ x k → r ≡ y k → o ≡ product_added stage ty s l r → step_result o ≡ dot_of stage ty x y (k + 1 - 1)
  unfolding product_added
  dot_more k s h e p q w = sum_more _ _ _ _ _ h e (rw (← p, ← q, w) (go (step_of 5 stage ty l r)))
    where
      go : (f : Step) → step_result (on_bits f (step_of 3 stage ty s)) ≡ plus_next (plus_one stage ty) (Ok s) (step_result f)
      go (Ok (t, b)) = refl
      go (Err u) = refl

-- sums that stand and the next products: the sums with them
module _ {A : Type 0} (add : A → A → Out A) (s t : A) (p : Out A) (e : Ok t ≡ p) where
  pub next_go : (v : Out A) → v ≡ add s t → v ≡ plus_next add (Ok s) p
  next_go v k = rw (← e) k

-- vector times matrix: the products of the first place, and those of each place after it added to the sums of those before
module _ (stage ty : ℕ) (v m : List ℕ) (rows cols : ℕ) where
  abbrev sums : ℕ → Out (List ℕ)
  sums k = vector_matrix stage ty v m rows cols k

  abbrev row : ℕ → Out (List ℕ)
  row k = times_row stage ty v m rows cols k

  pub rows_first : (o : Out (List ℕ)) → o ≡ row 0 → o ≡ sums 0
  unfolding sum_to
  rows_first o e = e

  module _ (k : ℕ) (s : List ℕ) (h : 1 ≤ k) (e : Ok s ≡ sums (k - 1)) where
    pub rows_refused : (r : Refusal) → Err r ≡ row k → Err r ≡ sums (k + 1 - 1)
    rows_refused r q = sum_more _ _ k (Ok s) (Err r) h e (rw (← q))

    pub rows_more : (t : List ℕ) (o : Out (List ℕ)) → Ok t ≡ row k → o ≡ plus_all stage ty cols s t → o ≡ sums (k + 1 - 1)
    rows_more t o q w = sum_more _ _ k (Ok s) o h e (next_go (plus_all stage ty cols) s t (row k) q o w)

  pub rows_stop : (k : ℕ) (r : Refusal) → k ≤ rows - 1 → Err r ≡ sums k → Err r ≡ sums (rows - 1)
  rows_stop k r h e = sum_stop _ _ k (rows - 1) r h e
