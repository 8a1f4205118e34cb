-- Every operator on converted components gives a well_formed_lem value or an operator's refusal. Assumes nothing.
use mathlib.Core.Path.{◌≡◌, refl, sym}
use mathlib.Core.Bool.{Bool, true, false, ◌&&◌}
use mathlib.Core.List.{List}
use mathlib.Core.Logic.{inl, inr, ⊎_elim}
use Prim.Native.Nat.{ℕ, ◌-◌, ◌*◌, ◌≤◌, ◌<◌}
use native.Mathlib.Omega.{arith}
use native.Mathlib.Nat.{mul-le-mul, mul_comm, eq-or-lt_of_le}
use lib.Dec.{eqb, leb}
use borrow.Author.Tests.{eqb-false, lt-leb}
use Rattle.types.specs.Types.{known_of, float_of, right_of, result_type}
use Rattle.value.specs.Pattern.{pick}
use Rattle.scalar.proofs.Keeps.{Refuses}
use Rattle.operand.specs.Operand.{is_scalar, component_count, Small}
use Rattle.operand.specs.declared.Shape.{Shape}
use Rattle.operand.proofs.Shapes.{Shaped, count_small}
use Rattle.operand.proofs.Answers.{Fine, Sixteen, Answers}
use Rattle.components.specs.Components.{Out, each_component, lane, stride_of, binary_at}
use Rattle.components.proofs.Satisfies.{Satisfies, pair_held}
use Rattle.products.specs.Products.{cell_at, vector_matrix}
use Rattle.products.proofs.Satisfies.{cells_held, rounds_held}
use Rattle.pairing.specs.Pairing.{pair_ok, is_product, fits_of, misfit_of, result_shape}
use Rattle.pairing.proofs.Meets.{Meets, meets_known, meets_float, matrix_op}
use Rattle.dispatch.specs.Meaning.{shaped_answer, by_component, matrix_product, on_converted}
use Rattle.dispatch.proofs.Answers.{needed, answering}

-- ---- an operator on converted components
component_answers : (op stage ty : ℕ) (a b : Shape) (xs ys : List ℕ) → Shaped (result_type op ty) (result_shape a b) → Answers (by_component op stage ty a xs b ys)
unfolding by_component
component_answers op stage ty a b xs ys s =
    let n : ℕ = component_count (result_shape a b) in
    let x : ℕ → ℕ = lane xs 0 (stride_of a) in
    let y : ℕ → ℕ = lane ys 0 (stride_of b) in
    answering (each_component (binary_at op stage ty x y) n) (result_type op ty) (result_shape a b) s
    (pair_held n (count_small (result_shape a b) s.small) op stage ty x y)

recount : (Q : ℕ → Type 0) (m n : ℕ) (q : Out (List ℕ)) → m ≡ n → Satisfies (Sixteen Q m) Refuses q → Satisfies (Sixteen Q n) Refuses q
recount Q m n q e h = rw (← e) h

module _ (stage ty : ℕ) (a b : Shape) (xs ys : List ℕ) (low : known_of ty ≡ true) (sa : Small a) (sb : Small b) (m : 2 ≤ a.cols → (2 ≤ a.rows) × (float_of ty ≡ true)) where
  abbrev rounds : Out (List ℕ)
  rounds = vector_matrix stage ty xs ys b.rows b.cols (b.rows - 1)

  abbrev cells : Out (List ℕ)
  cells = each_component (cell_at stage ty xs ys a.rows a.cols) (a.rows * b.cols)

  by_vector : Answers (shaped_answer rounds ty 1 b.cols)
  by_vector =
      answering rounds ty (record { cols = 1; rows = b.cols })
      (record { known = low; small = (omega arith, omega arith, sb.0, sb.1); matrix = λ z. absurd (omega arith) })
      (recount (Fine ty) b.cols (1 * b.cols) rounds (omega arith) (rounds_held stage ty xs ys b.rows b.cols (b.rows - 1) (omega (arith, sb.1))))

  by_matrix : 2 ≤ a.cols → Answers (shaped_answer cells ty b.cols a.rows)
  by_matrix h =
      answering cells ty (record { cols = b.cols; rows = a.rows })
      (record { known = low; small = (sb.0, sb.1, sa.2, sa.3); matrix = λ z. m h })
      (recount (Fine ty) (a.rows * b.cols) (b.cols * a.rows) cells (mul_comm a.rows b.cols)
      (cells_held stage ty xs ys a.rows a.cols (a.rows * b.cols) (mul-le-mul sa.3 sb.1)))

  product_answers : Answers (matrix_product stage ty a xs b ys)
  unfolding matrix_product
  product_answers = go (eqb a.cols 1) refl
    where
      go : (t : Bool) → eqb a.cols 1 ≡ t → Answers (pick t (shaped_answer rounds ty 1 b.cols) (shaped_answer cells ty b.cols a.rows))
      go true e = by_vector
      go false e =
          by_matrix (⊎_elim (λ (p : 1 ≡ a.cols). absurd (eqb-false a.cols 1 e (sym p))) (λ (p : 1 < a.cols). p) (eq-or-lt_of_le sa.0))

misfit_small : (t : Bool) → (1 ≤ pick t 2 3) × (pick t 2 3 ≤ 3)
misfit_small true = (omega arith, omega arith)
misfit_small false = (omega arith, omega arith)

-- ---- behind the checks of shape and right
module _ (op stage lt rt x y : ℕ) (a b : Shape) (ha : Shaped lt a) (hb : Shaped rt b) (pair : pair_ok op a b ≡ true) (m : Meets op lt rt x y) where
  low : known_of x ≡ true
  low = meets_known m

  matrix_left : 2 ≤ a.cols → (2 ≤ a.rows) × (op ≤ 5) × (float_of x ≡ true)
  matrix_left h =
      let o : op ≤ 5 = matrix_op op a b pair (inl h) in
      ((ha.matrix h).0, o, meets_float m (omega arith) (inl (ha.matrix h).1))

  matrix_right : 2 ≤ b.cols → (2 ≤ b.rows) × (op ≤ 5) × (float_of x ≡ true)
  matrix_right h =
      let o : op ≤ 5 = matrix_op op a b pair (inr h) in
      ((hb.matrix h).0, o, meets_float m (omega arith) (inr (hb.matrix h).1))

  shaped_as : (s : Shape) → Small s → (2 ≤ s.cols → (2 ≤ s.rows) × (op ≤ 5) × (float_of x ≡ true)) → Shaped (result_type op x) s
  shaped_as s small f =
      record {
        known = go (leb 8 op && leb op 13);
        small = small;
        matrix = λ h. let o : op < 8 = omega (arith, (f h).1) in ((f h).0, rw (lt-leb 8 op o) (f h).2);
      }
    where
      go : (t : Bool) → known_of (pick t 0 x) ≡ true
      go true = refl
      go false = low

  result_shaped : Shaped (result_type op x) (result_shape a b)
  result_shaped = go (is_scalar a)
    where
      go : (t : Bool) → Shaped (result_type op x) (pick t b a)
      go true = shaped_as b hb.small matrix_right
      go false = shaped_as a ha.small matrix_left

  module _ (xs ys : List ℕ) where
    either_answers : (t : Bool) → Answers (pick t (matrix_product stage x a xs b ys) (by_component op stage x a xs b ys))
    either_answers true = product_answers stage x a b xs ys low ha.small hb.small (λ h. ((matrix_left h).0, (matrix_left h).2))
    either_answers false = component_answers op stage x a b xs ys result_shaped

    pub converted_answers : Answers (on_converted op stage x a xs b ys)
    unfolding on_converted
    converted_answers =
        needed (fits_of op a b) (misfit_of op a b) _ (misfit_small (is_product op a b)).0 (misfit_small (is_product op a b)).1
        (needed (right_of op x) 2 _ (omega arith) (omega arith) (either_answers (is_product op a b)))
