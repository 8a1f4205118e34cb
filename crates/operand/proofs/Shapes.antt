-- What a known type and shape says, in plain facts, and what a well_formed_lem operand is. Assumes nothing.
use mathlib.Core.Path.{◌≡◌, refl, sym}
use mathlib.Core.Bool.{Bool, true, false, ◌&&◌, ◌||◌, and-true}
use mathlib.Core.Logic.{⊎_elim}
use Prim.Native.Nat.{ℕ, ◌≤◌, ◌<◌}
use native.Mathlib.Omega.{arith}
use native.Mathlib.Nat.{mul-le-mul, eq-or-lt_of_le}
use lib.Dec.{eqb, leb}
use borrow.Author.Tests.{leb-true, eqb-true, le-leb, eq-eqb, ne_eqb}
use Rattle.types.specs.Types.{known_of, float_of}
use Rattle.types.specs.Edition.{Edition}
use Rattle.types.proofs.Editions.{in_edition_lem}
use Rattle.value.specs.Pattern.{proper_of}
use Rattle.value.proofs.Widths.{not_proper}
use Rattle.operand.specs.Operand.{shape_ok, shape_in, shape_of, component_count, Small, every, component_at, operand_formed, a_scalar}
use Rattle.low.specs.Bytes.{up_to}
use Rattle.operand.specs.declared.Instance.{Instance}
use Rattle.operand.specs.declared.Shape.{Shape}
use Rattle.low.proofs.Tests.{both, both_true, one_of}
use Rattle.operand.proofs.Every.{every_at}

-- ---- a known type and shape
pub record Shaped (ty : ℕ) (s : Shape) : Type 0 where
  pub known : known_of ty ≡ true
  pub small : Small s
  pub matrix : 2 ≤ s.cols → (2 ≤ s.rows) × (float_of ty ≡ true)

-- a matrix, as the test of a shape leaves it
module _ (ty c r : ℕ) (e : (leb 2 c && leb c 4 && leb 2 r && float_of ty) ≡ true) where
  matrix_float : (leb 2 c && leb c 4 && leb 2 r ≡ true) × (float_of ty ≡ true)
  matrix_float = both (leb 2 c && leb c 4 && leb 2 r) (float_of ty) e

  matrix_rows : (leb 2 c && leb c 4 ≡ true) × (leb 2 r ≡ true)
  matrix_rows = both (leb 2 c && leb c 4) (leb 2 r) matrix_float.0

  matrix_columns : (leb 2 c ≡ true) × (leb c 4 ≡ true)
  matrix_columns = both (leb 2 c) (leb c 4) matrix_rows.0

module _ (ty : ℕ) (s : Shape) (e : shape_ok ty s.cols s.rows ≡ true) where
  parts : (known_of ty && leb 1 s.rows && leb s.rows 4 ≡ true) × ((eqb s.cols 1 || (leb 2 s.cols && leb s.cols 4 && leb 2 s.rows && float_of ty)) ≡ true)
  parts = both (known_of ty && leb 1 s.rows && leb s.rows 4) _ e

  lows : (known_of ty && leb 1 s.rows ≡ true) × (leb s.rows 4 ≡ true)
  lows = both (known_of ty && leb 1 s.rows) (leb s.rows 4) parts.0

  columns : (1 ≤ s.cols) × (s.cols ≤ 4)
  columns =
      ⊎_elim
      (λ (p : eqb s.cols 1 ≡ true). let q : s.cols ≡ 1 = eqb-true _ _ p in (omega arith, omega arith))
      (λ p. between (matrix_columns ty s.cols s.rows p))
      (one_of (eqb s.cols 1) _ parts.1)
    where
      between : (leb 2 s.cols ≡ true) × (leb s.cols 4 ≡ true) → (1 ≤ s.cols) × (s.cols ≤ 4)
      between m = (omega (arith, leb-true 2 s.cols m.0), leb-true s.cols 4 m.1)

  pub shaped : Shaped ty s
  shaped =
      record {
        known = (both (known_of ty) _ lows.0).0;
        small = (columns.0, columns.1, leb-true _ _ (both (known_of ty) _ lows.0).1, leb-true _ _ lows.1);
        matrix = λ k. ⊎_elim
            (λ (p : eqb s.cols 1 ≡ true). let q : s.cols ≡ 1 = eqb-true _ _ p in absurd (omega arith))
            (λ p. (leb-true _ _ (matrix_rows ty s.cols s.rows p).1, (matrix_float ty s.cols s.rows p).1))
            (one_of (eqb s.cols 1) _ parts.1);
      }

-- an edition has every type, so it asks no more of a shape
pub shape_in_lem : (e : Edition) (ty c r : ℕ) → shape_in e ty c r ≡ shape_ok ty c r
shape_in_lem e ty c r = in_edition_lem e ty (shape_ok ty c r) (λ q. (shaped ty (record { cols = c; rows = r }) q).known)

pub shape_small : (ty c r : ℕ) → shape_ok ty c r ≡ true → Small (record { cols = c; rows = r })
shape_small ty c r e = (shaped ty (record { cols = c; rows = r }) e).small

pub unshaped : (ty : ℕ) (s : Shape) → Shaped ty s → shape_ok ty s.cols s.rows ≡ true
unshaped ty s h =
    both_true _ _ (both_true _ _ (both_true _ _ h.known (le-leb _ _ h.small.2)) (le-leb _ _ h.small.3))
    (⊎_elim
    (λ (p : 1 ≡ s.cols). rw (eq-eqb s.cols 1 (sym p)))
    (λ (p : 1 < s.cols). rw (ne_eqb s.cols 1 (λ z. omega arith)) (of_matrix p))
    (eq-or-lt_of_le h.small.0))
  where
    of_matrix : 1 < s.cols → (leb 2 s.cols && leb s.cols 4 && leb 2 s.rows && float_of ty) ≡ true
    of_matrix p =
        both_true _ _ (both_true _ _ (both_true _ _ (le-leb _ _ p) (le-leb _ _ h.small.1)) (le-leb _ _ (h.matrix p).0)) (h.matrix p).1

pub count_small : (s : Shape) → Small s → component_count s ≤ 16
count_small s h = mul-le-mul h.1 h.3

-- ---- a well_formed_lem operand
module _ (v : Instance) (e : operand_formed v ≡ true) where
  formed_parts : (shape_ok v.ty v.cols v.rows ≡ true) × (every (proper_of v.ty) (up_to (component_at v.comps) (component_count (shape_of v))) ≡ true)
  unfolding operand_formed
  formed_parts = both (shape_ok v.ty v.cols v.rows) _ e

  pub formed_shape : shape_ok v.ty v.cols v.rows ≡ true
  formed_shape = formed_parts.0

  pub formed_shaped : Shaped v.ty (shape_of v)
  formed_shaped = shaped v.ty (shape_of v) formed_shape

  pub formed_small : Small (shape_of v)
  formed_small = formed_shaped.small

  pub formed_at : (i : ℕ) → i < component_count (shape_of v) → proper_of v.ty (component_at v.comps i) ≡ true
  formed_at = every_at (proper_of v.ty) (component_at v.comps) (component_count (shape_of v)) formed_parts.1

-- a scalar is well formed where its pattern is proper
pub formed_one : (ty b : ℕ) → operand_formed (a_scalar ty b) ≡ proper_of ty b
unfolding operand_formed up_to every
formed_one ty b = go (known_of ty) refl
  where
    go : (t : Bool) → known_of ty ≡ t → (t && true && true && true && (proper_of ty b && true)) ≡ proper_of ty b
    go true e = and-true (proper_of ty b)
    go false e = not_proper ty b e
