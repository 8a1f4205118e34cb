-- Operands of the types that they are to be converted to: an operator gives on them as they stand what it gives on the converted ones. Assumes nothing.
use mathlib.Core.Path.{◌≡◌, refl, sym, ap, subst, ◌∙◌}
use mathlib.Core.Bool.{Bool, true, false, not, ◌&&◌, ◌||◌}
use mathlib.Core.List.{List}
use mathlib.Core.Logic.{⊎_elim}
use Prim.Native.Nat.{ℕ, ◌+◌, ◌-◌, ◌*◌, ◌/◌, ◌%◌, ◌≤◌, ◌<◌}
use native.Mathlib.Omega.{arith}
use native.Mathlib.Nat.{mul-le-mul, mul-le-mul_right, suc-mul, mul_comm, mod-lt, div-lt_iff_lt-mul, le_of_eq}
use lib.Dec.{eqb, leb}
use lib.ListN.{get_or}
use borrow.Author.Tests.{eqb-true, eqb-false, leb-true, le-leb, lt-leb, ltb-true}
use Rattle.value.specs.Pattern.{pick}
use Rattle.value.specs.Scalar.{scalar_of}
use Rattle.scalar.specs.Step.{step_of}
use Rattle.types.specs.Types.{right_of, result_type}
use Rattle.value.specs.Refusals as No
use Rattle.scalar.proofs.Reread.{again, rereads, right_type, step_alike}
use Rattle.operand.specs.Operand.{shape_of, is_scalar, component_count, Small, component_at, operand_formed}
use Rattle.components.specs.Components.{Out, each_component, step_result, conv_result, stride_of, converted_at}
use Rattle.products.specs.Products.{plus_one, plus_all, times_row, cell_at, vector_matrix}
use Rattle.pairing.specs.Pairing.{targets_of, is_product, inner_ok, same_shape, fits_of, result_shape}
use Rattle.dispatch.specs.Meaning.{refuse_unless, shaped_answer, by_component, matrix_product, on_converted, converted_to}
use Rattle.operand.specs.declared.Instance.{Instance}
use Rattle.operand.specs.declared.Outcome.{Outcome}
use Rattle.operand.specs.declared.Shape.{Shape}
use Rattle.std.specs.Prelude.{Some, Ok}
use Rattle.low.proofs.Tests.{both, one_of}
use Rattle.operand.proofs.Shapes.{formed_shaped, formed_small, formed_at}
use Rattle.components.proofs.Traverse.{each_same, all_of, each_got, all_at}
use Rattle.products.proofs.Sums.{sum_same}
use Rattle.pairing.proofs.Meets.{Meets, shift, leftward, rightward, meets}

-- ---- the places that an operator reads are in use
-- by component: a scalar's one place, or as many as there are components
strides : (s : Shape) (n i : ℕ) → Small s → (is_scalar s ≡ false → n ≤ component_count s) → i < n → 0 + i * stride_of s < component_count s
strides s n i h m z = go (is_scalar s) refl
  where
    go : (t : Bool) → is_scalar s ≡ t → 0 + i * pick t 0 1 < component_count s
    go true e = omega (arith, mul-le-mul h.0 h.2)
    go false e = omega (arith, m e)

-- as many components as the operand that is no scalar has, left and right
result_left : (a b : Shape) → is_scalar a ≡ false → component_count (result_shape a b) ≤ component_count a
result_left a b e = rw e (le_of_eq refl)

result_right : (a b : Shape) → same_shape a b ≡ true → is_scalar b ≡ false → component_count (result_shape a b) ≤ component_count b
result_right a b h e = go (is_scalar a) (rw e at h)
  where
    go : (t : Bool) → (t || false || (eqb a.cols b.cols && eqb a.rows b.rows)) ≡ true → component_count (pick t b a) ≤ component_count b
    go true k = le_of_eq refl
    go false k =
        let q = both (eqb a.cols b.cols) (eqb a.rows b.rows) k in
        mul-le-mul (le_of_eq (eqb-true _ _ q.0)) (le_of_eq (eqb-true _ _ q.1))

-- row k of column q
cell : (k q rows cols : ℕ) → k < rows → q < cols → k + q * rows < cols * rows
cell k q rows cols h z = omega (arith, mul-le-mul_right rows z, suc-mul q rows)

-- equal inner sizes, of a vector on the left and of a matrix
inner_vector : (a b : Shape) → a.cols ≡ 1 → inner_ok a b ≡ true → a.rows ≡ b.rows
inner_vector a b e h =
    ⊎_elim (λ (p : (eqb a.cols 1 && eqb a.rows b.rows) ≡ true). eqb-true _ _ (both (eqb a.cols 1) _ p).1)
    (λ p. let q : 2 ≤ a.cols = leb-true _ _ (both (leb 2 a.cols) _ p).0 in absurd (omega arith))
    (one_of (eqb a.cols 1 && eqb a.rows b.rows) _ h)

inner_matrix : (a b : Shape) → eqb a.cols 1 ≡ false → inner_ok a b ≡ true → a.cols ≡ b.rows
inner_matrix a b e h =
    ⊎_elim (λ (p : (eqb a.cols 1 && eqb a.rows b.rows) ≡ true). absurd (eqb-false a.cols 1 e (eqb-true _ _ (both (eqb a.cols 1) _ p).0)))
    (λ p. eqb-true _ _ (both (leb 2 a.cols) _ p).1)
    (one_of (eqb a.cols 1 && eqb a.rows b.rows) _ h)

-- ---- operands whose components in use give the same steps
abbrev Alike : ℕ → ℕ → ℕ → Shape → List ℕ → List ℕ → Shape → List ℕ → List ℕ → Type 0
Alike op stage ty a xs vs b ys ws =
    (i j : ℕ) → i < component_count a → j < component_count b → step_of op stage ty (get_or xs i 0) (get_or ys j 0) ≡ step_of op stage ty (get_or vs i 0) (get_or ws j 0)

-- outcomes that are the same wherever a test lets them through
need_same : (t : Bool) (n : ℕ) (o p : Outcome) → (t ≡ true → o ≡ p) → refuse_unless t n o ≡ refuse_unless t n p
need_same true n o p h = h refl
need_same false n o p h = refl

pick_same : (t : Bool) (o p q r : Outcome) → (t ≡ true → o ≡ p) → (t ≡ false → q ≡ r) → pick t o q ≡ pick t p r
pick_same true o p q r h k = h refl
pick_same false o p q r h k = k refl

module _ (stage ty : ℕ) (a b : Shape) (sa : Small a) (sb : Small b) (xs vs ys ws : List ℕ) where
  -- by component
  component_same : (op : ℕ) → Alike op stage ty a xs vs b ys ws → same_shape a b ≡ true → by_component op stage ty a xs b ys ≡ by_component op stage ty a vs b ws
  unfolding by_component
  component_same op same h =
      ap (λ (o : Out (List ℕ)). shaped_answer o (result_type op ty) (result_shape a b).cols (result_shape a b).rows)
      (each_same _ _ (component_count (result_shape a b)) (λ i z. ap step_result
      (same (0 + i * stride_of a) (0 + i * stride_of b) (strides a _ i sa (result_left a b) z) (strides b _ i sb (result_right a b h) z))))

  -- products that sum
  module _ (same : Alike 5 stage ty a xs vs b ys ws) (h : inner_ok a b ≡ true) where
    rounds_same : a.cols ≡ 1 → vector_matrix stage ty xs ys b.rows b.cols (b.rows - 1) ≡ vector_matrix stage ty vs ws b.rows b.cols (b.rows - 1)
    rounds_same e =
        let n : component_count a ≡ b.rows = rw e (omega (arith, inner_vector a b e h)) in
        sum_same (plus_all stage ty b.cols) (times_row stage ty xs ys b.rows b.cols) (times_row stage ty vs ws b.rows b.cols) (b.rows - 1) (λ k z.
        each_same _ _ b.cols (λ i w. ap step_result
        (same (k + i * 0) (k + i * b.rows) (omega (arith, n, sb.2)) (cell k i b.rows b.cols (omega (arith, sb.2)) w))))

    cells_same : a.cols ≡ b.rows → (i : ℕ) → i < a.rows * b.cols → cell_at stage ty xs ys a.rows a.cols i ≡ cell_at stage ty vs ws a.rows a.cols i
    cells_same e i z =
        let q : i / a.rows < b.cols = (div-lt_iff_lt-mul sa.2).1 (omega (arith, mul_comm a.rows b.cols)) in
        sum_same (plus_one stage ty) _ _ (a.cols - 1) (λ k w.
        let c : k < a.cols = omega (arith, sa.0) in
        ap step_result (same (i % a.rows + k * a.rows) (i / a.rows * a.cols + k * 1) (cell (i % a.rows) k a.rows a.cols (mod-lt i sa.2) c)
        (subst (λ (n : ℕ). i / a.rows * a.cols + k * 1 < b.cols * n) e (omega (arith, cell k (i / a.rows) a.cols b.cols c q)))))

    product_same : matrix_product stage ty a xs b ys ≡ matrix_product stage ty a vs b ws
    unfolding matrix_product
    product_same =
        pick_same (eqb a.cols 1) _ _ _ _
        (λ e. ap (λ (o : Out (List ℕ)). shaped_answer o ty 1 b.cols) (rounds_same (eqb-true _ _ e)))
        (λ e. ap (λ (o : Out (List ℕ)). shaped_answer o ty b.cols a.rows) (each_same _ _ (a.rows * b.cols) (cells_same (inner_matrix a b e h))))

  -- a product that sums is a multiplication
  five : (op : ℕ) → is_product op a b ≡ true → op ≡ 5
  five op e =
      let h = (both (eqb op 5 && not (is_scalar a) && not (is_scalar b)) _ e).0 in
      eqb-true _ _ (both (eqb op 5) _ (both (eqb op 5 && not (is_scalar a)) _ h).0).0

  -- behind the checks of shape and right
  converted_same : (op : ℕ) → Alike op stage ty a xs vs b ys ws → on_converted op stage ty a xs b ys ≡ on_converted op stage ty a vs b ws
  unfolding on_converted
  converted_same op same =
      need_same (fits_of op a b) _ _ _ (λ f. ap (refuse_unless (right_of op ty) No.Binary) (pick_same (is_product op a b) _ _ _ _
      (λ e. product_same (subst (λ (o : ℕ). Alike o stage ty a xs vs b ys ws) (five op e) same) (rw e at f))
      (λ e. component_same op same (rw e at f))))

-- ---- an operand converted to its own type
-- its components as the conversion gives them
abbrev restated : Instance → List ℕ
restated v = all_of (λ i. again v.ty (component_at v.comps i)) (component_count (shape_of v))

module _ (v : Instance) (good : operand_formed v ≡ true) where
  known : v.ty ≤ 6
  known = omega (arith, ltb-true v.ty 7 (formed_shaped v good).known)

  -- the conversion refuses none, and each is read as the scalar that it was
  itself : each_component (converted_at v.ty v.ty v.comps) (component_count (shape_of v)) ≡ Ok (restated v)
  itself =
      each_got _ (converted_at v.ty v.ty v.comps) (component_count (shape_of v))
      (λ i z. ap conv_result (rereads v.ty (component_at v.comps i) known (formed_at v good i z)).0)

  read_same : (i : ℕ) → i < component_count (shape_of v) → scalar_of v.ty (get_or (restated v) i 0) ≡ scalar_of v.ty (get_or v.comps i 0)
  read_same i z =
      ap (scalar_of v.ty) (all_at _ (component_count (shape_of v)) i z)
      ∙ (rereads v.ty (component_at v.comps i) known (formed_at v good i z)).1

-- ---- both operands
-- a shift's count is a U32, any other right operand of the left's type
meets_right : {op lt rt x y : ℕ} → Meets op lt rt x y → y ≡ right_type op x
meets_right {op} (shift h k) = rw (le-leb 17 op h)
meets_right {op} (leftward h m) = rw (lt-leb 17 op h)
meets_right {op} (rightward h m) = rw (lt-leb 17 op h)

module _ (op stage : ℕ) (l r : Instance) (gl : operand_formed l ≡ true) (gr : operand_formed r ≡ true) where
  alike : r.ty ≡ right_type op l.ty → Alike op stage l.ty (shape_of l) (restated l) l.comps (shape_of r) (restated r) r.comps
  alike m i j z w =
      step_alike op stage l.ty _ _ _ _ (read_same l gl i z)
      (subst (λ (t : ℕ). scalar_of t (get_or (restated r) j 0) ≡ scalar_of t (get_or r.comps j 0)) m (read_same r gr j w))

  unconverted : r.ty ≡ right_type op l.ty → converted_to l.ty r.ty op stage l r ≡ on_converted op stage l.ty (shape_of l) l.comps (shape_of r) r.comps
  unfolding converted_to
  unconverted m =
      rw (itself l gl, itself r gr)
      (converted_same stage l.ty (shape_of l) (shape_of r) (formed_small l gl) (formed_small r gr) (restated l) l.comps (restated r) r.comps op (alike m))

  -- an outcome worked on the operands as they stand is that on the converted ones
  pub stands : (x y : ℕ) (o : Outcome) → targets_of op l.ty r.ty ≡ Some (x, y) → (eqb l.ty x && eqb r.ty y) ≡ true
      → o ≡ on_converted op stage x (shape_of l) l.comps (shape_of r) r.comps → o ≡ converted_to x y op stage l r
  stands x y o t h e =
      let k = both (eqb l.ty x) (eqb r.ty y) h in
      let p : l.ty ≡ x = eqb-true _ _ k.0 in
      let q : r.ty ≡ y = eqb-true _ _ k.1 in
      let m : r.ty ≡ right_type op l.ty = q ∙ meets_right (meets op l.ty r.ty x y t) ∙ ap (right_type op) (sym p) in
      e ∙ ap (λ (t : ℕ). on_converted op stage t (shape_of l) l.comps (shape_of r) r.comps) (sym p)
      ∙ sym (unconverted m) ∙ (λ i. converted_to (p i) (q i) op stage l r)
