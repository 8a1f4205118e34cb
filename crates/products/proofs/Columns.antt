-- Vector times matrix by its components: where no step refuses, the order of the steps does not matter. Assumes nothing.
use mathlib.Core.Path.{◌≡◌, refl, sym, ◌∙◌}
use mathlib.Core.List.{List}
use mathlib.Core.Logic.{⊎_elim}
use Prim.Native.Nat.{ℕ, zero, suc, ◌+◌, ◌-◌, ◌*◌, ◌/◌, ◌%◌, ◌≤◌, ◌<◌}
use native.Mathlib.Omega.{arith}
use native.Mathlib.Nat.{eq-or-lt_of_le, le_of_suc-le-suc, not-suc-le-zero}
use Rattle.std.specs.Prelude.{Ok, Err}
use Rattle.value.specs.declared.Refusal.{Refusal}
use Rattle.components.specs.Components.{Out, and_then, each_component, lane, binary_at}
use Rattle.components.proofs.Traverse.{put_at, each_step, each_same, all_of, each_got, all_at}
use Rattle.products.specs.Products.{plus_next, sum_to, plus_one, cell_at, vector_matrix}
use Rattle.products.proofs.Sums.{sum_same}

-- what was worked out; 0 for a refusal
abbrev worked : Out ℕ → ℕ
worked (Ok a) = a
worked (Err r) = 0

-- it was worked out
abbrev Got : Out ℕ → Type 0
Got o = o ≡ Ok (worked o)

no_refusal : {A X : Type 0} (r : Refusal) (a : A) → Err r ≡ Ok a → X
no_refusal r a e = let z : ◌≡◌ {A = ℕ} 0 1 = cc in absurd (omega arith)

-- ---- where all components are there, each one is
put_got : (cs : Out (List ℕ)) (n : ℕ) (o : Out ℕ) (xs : List ℕ) → and_then cs (λ l. put_at l n o) ≡ Ok xs → Got o × ((ys : List ℕ) × (cs ≡ Ok ys))
put_got (Ok ys) n (Ok b) xs e = (refl, (ys, refl))
put_got (Ok ys) n (Err r) xs e = no_refusal r xs e
put_got (Err r) n o xs e = no_refusal r xs e

each_there : (f : ℕ → Out ℕ) (n : ℕ) (xs : List ℕ) → n ≤ 16 → each_component f n ≡ Ok xs → (i : ℕ) → i < n → Got (f i)
each_there f zero xs h e i k = absurd (not-suc-le-zero k)
each_there f (suc n) xs h e i k =
    let q = put_got (each_component f n) n (f n) xs (sym (each_step f n h) ∙ e) in
    ⊎_elim (λ (p : i ≡ n). rw p q.0) (λ (p : i < n). each_there f n q.1.0 (omega arith) q.1.1 i p) (eq-or-lt_of_le (le_of_suc-le-suc k))

-- ---- a sum that is there, and the next product
module _ (add : ℕ → ℕ → Out ℕ) where
  next_got : (s p : Out ℕ) → Got (plus_next add s p) → Got s × Got p
  next_got (Ok s) (Ok p) h = (refl, refl)
  next_got (Ok s) (Err r) h = no_refusal r 0 h
  next_got (Err r) p h = no_refusal r 0 h

  -- sums of n components, row after row, are the n sums of the columns
  module _ (n : ℕ) (p : ℕ → ℕ → Out ℕ) where
    abbrev column : ℕ → ℕ → Out ℕ
    column k i = sum_to add (p i) k

    abbrev row : ℕ → Out (List ℕ)
    row j = each_component (λ i. p i j) n

    abbrev add_all : List ℕ → List ℕ → Out (List ℕ)
    add_all s t = each_component (λ i. add (lane s 0 1 i) (lane t 0 1 i)) n

    at : (g : ℕ → ℕ) (i : ℕ) → i < n → lane (all_of g n) 0 1 i ≡ g i
    at g i h =
        let q : 0 + i * 1 ≡ i = omega arith in
        rw q (all_at g n i h)

    columns : (k : ℕ) → ((i : ℕ) → i < n → Got (column k i)) → sum_to add_all row k ≡ Ok (all_of (λ i. worked (column k i)) n)
    unfolding sum_to
    columns zero h = each_got (λ i. worked (p i 0)) (λ i. p i 0) n h
    columns (suc k) h =
        let both : (i : ℕ) → i < n → Got (column k i) × Got (p i (suc k)) = λ i z. next_got (column k i) (p i (suc k)) (h i z) in
        let a : ℕ → ℕ = λ i. worked (column k i) in
        let b : ℕ → ℕ = λ i. worked (p i (suc k)) in
        let s = columns k (λ i z. (both i z).0) in
        let t = each_got b (λ i. p i (suc k)) n (λ i z. (both i z).1) in
        (λ i. plus_next add_all (s i) (t i))
        ∙ each_got (λ i. worked (column (suc k) i)) _ n
        (λ i z. (λ j. add (at a i z j) (at b i z j)) ∙ sym (λ j. plus_next add ((both i z).0 j) ((both i z).1 j)) ∙ h i z)

-- ---- the components of vector times matrix, each as a cell of a matrix of one row
module _ (stage ty : ℕ) (v m : List ℕ) (rows cols : ℕ) where
  abbrev factor : ℕ → ℕ → Out ℕ
  factor i j = binary_at 5 stage ty (lane v j 0) (lane m j rows) i

  same_cell : (i : ℕ) → cell_at stage ty v m 1 rows i ≡ column (plus_one stage ty) cols factor (rows - 1) i
  same_cell i = sum_same (plus_one stage ty) _ (factor i) (rows - 1) (λ j z.
      let d : i / 1 ≡ i = omega arith in
      let x : i % 1 + j * 1 ≡ j + i * 0 = omega arith in
      let y : i / 1 * rows + j * 1 ≡ j + i * rows = rw d (omega arith) in
      rw (x, y))

  pub by_columns : (w : List ℕ) → Ok w ≡ each_component (cell_at stage ty v m 1 rows) cols → cols ≤ 16 → Ok w ≡ vector_matrix stage ty v m rows cols (rows - 1)
  by_columns w e few =
      let f = column (plus_one stage ty) cols factor (rows - 1) in
      let same = each_same (cell_at stage ty v m 1 rows) f cols (λ i z. same_cell i) in
      let there = each_there f cols w few (sym (e ∙ same)) in
      e ∙ same ∙ each_got (λ i. worked (f i)) f cols there ∙ sym (columns (plus_one stage ty) cols factor (rows - 1) there)
