-- The products that sum, worked as cells: a vector on the left is a matrix of one row, where no step refuses. Assumes nothing.
use mathlib.Core.Path.{◌≡◌, sym}
use mathlib.Core.Bool.{Bool, true, false, ◌&&◌, true≢false}
use mathlib.Core.List.{List}
use Prim.Native.Nat.{ℕ, ◌-◌, ◌*◌, ◌≤◌}
use native.Mathlib.Omega.{arith}
use lib.Dec.{eqb}
use Rattle.std.specs.Prelude.{Ok, Err, is_err}
use Rattle.value.specs.Pattern.{pick}
use Rattle.operand.specs.Operand.{Small}
use Rattle.operand.specs.declared.Outcome.{Outcome}
use Rattle.operand.specs.declared.Shape.{Shape}
use Rattle.components.specs.Components.{Out, each_component}
use Rattle.products.specs.Products.{cell_at, vector_matrix}
use Rattle.products.proofs.Columns.{by_columns}
use Rattle.dispatch.specs.Meaning.{shaped_answer, matrix_product}

-- the rows and the columns that meet, from 1 to 4 each
module _ (t : Bool) (a b : Shape) (sa : Small a) (sb : Small b) where
  pub rows_small : (n : ℕ) → n ≡ pick t 1 a.rows → (1 ≤ n) × (n ≤ 4)
  rows_small n e = go t e
    where
      go : (t : Bool) → n ≡ pick t 1 a.rows → (1 ≤ n) × (n ≤ 4)
      go true e = (omega arith, omega arith)
      go false e = (omega (arith, sa.2), omega (arith, sa.3))

  pub inner_small : (n : ℕ) → n ≡ pick t b.rows a.cols → (1 ≤ n) × (n ≤ 4)
  inner_small n e = go t e
    where
      go : (t : Bool) → n ≡ pick t b.rows a.cols → (1 ≤ n) × (n ≤ 4)
      go true e = (omega (arith, sb.2), omega (arith, sb.3))
      go false e = (omega (arith, sa.0), omega (arith, sa.1))

module _ (stage ty : ℕ) (a b : Shape) (xs ys : List ℕ) (few : b.cols ≤ 4) (rows inner c d : ℕ) (w : Out (List ℕ))
    (ew : w ≡ each_component (cell_at stage ty xs ys rows inner) (rows * b.cols)) (v : Outcome) (e : v ≡ shaped_answer w ty c d) where
  -- components that are there are those of the rounds
  in_rounds : (o : Out (List ℕ)) → o ≡ each_component (cell_at stage ty xs ys 1 b.rows) b.cols → is_err o ≡ false → o ≡ vector_matrix stage ty xs ys b.rows b.cols (b.rows - 1)
  in_rounds (Ok zs) k q = by_columns stage ty xs ys b.rows b.cols zs k (omega (arith, few))
  in_rounds (Err r) k q = absurd (true≢false q)

  as_vector : eqb a.cols 1 ≡ true → rows ≡ 1 → inner ≡ b.rows → c ≡ 1 → d ≡ b.cols → is_err w ≡ false → v ≡ matrix_product stage ty a xs b ys
  unfolding matrix_product
  as_vector t er ei ec ed q =
      let n : 1 * b.cols ≡ b.cols = omega arith in
      rw (t, ← in_rounds w (rw (er, ei, n) at ew) q) (rw (ec, ed) at e)

  as_matrix : eqb a.cols 1 ≡ false → rows ≡ a.rows → inner ≡ a.cols → c ≡ b.cols → d ≡ a.rows → v ≡ matrix_product stage ty a xs b ys
  unfolding matrix_product
  as_matrix t er ei ec ed = rw (t, ← (rw (er, ei) at ew)) (rw (ec, ed) at e)

  pub in_cells : (t : Bool) → t ≡ eqb a.cols 1 → rows ≡ pick t 1 a.rows → inner ≡ pick t b.rows a.cols → c ≡ pick t 1 b.cols → d ≡ pick t b.cols a.rows
      → (t && is_err w) ≡ false → v ≡ matrix_product stage ty a xs b ys
  in_cells true et er ei ec ed q = as_vector (sym et) er ei ec ed q
  in_cells false et er ei ec ed q = as_matrix (sym et) er ei ec ed
