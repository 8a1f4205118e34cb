-- Which types and shapes meet, in plain facts: what a common type keeps. Assumes nothing.
use mathlib.Core.Path.{◌≡◌, refl, ap, ◌∙◌}
use mathlib.Core.Bool.{Bool, true, false, ◌&&◌, ◌||◌, and-false}
use mathlib.Core.Logic.{◌⊎◌, ⊎_elim}
use Prim.Native.Nat.{ℕ, ◌≤◌, ◌<◌}
use native.Mathlib.Omega.{arith}
use lib.Dec.{eqb, leb}
use borrow.Author.Tests.{leb-true, leb-false, eqb-true, ne_eqb, le-leb, lt-leb}
use Rattle.std.specs.Prelude.{Option, Some, None}
use Rattle.types.specs.Types.{known_of, float_of, goes_to, common_type}
use Rattle.types.proofs.Goes.{goes_known, float_goes}
use Rattle.value.specs.Pattern.{pick}
use Rattle.operand.specs.Operand.{is_matrix}
use Rattle.operand.specs.declared.Shape.{Shape}
use Rattle.low.proofs.Tests.{both, one_of}
use Rattle.pairing.specs.Pairing.{pair_ok, to_both, targets_of}

-- ---- the types that the operands convert to, as the tests of the code leave them
module _ (op x y : ℕ) (h : 17 ≤ op) (k g : Bool) (ek : k ≡ known_of x) (eg : g ≡ goes_to y 4) where
  pub shift_targets : (k && (eqb y 4 || g)) ≡ true → Some (x, 4) ≡ targets_of op x y
  unfolding targets_of
  shift_targets q = rw (le-leb 17 op h, ← ek, ← eg, q)

  pub shift_none : (k && (eqb y 4 || g)) ≡ false → None ≡ targets_of op x y
  unfolding targets_of
  shift_none q = rw (le-leb 17 op h, ← ek, ← eg, q)

module _ (op x y : ℕ) (h : op < 17) where
  pub equal_types : (k : Bool) → k ≡ known_of x → (k && eqb x y) ≡ true → Some (x, x) ≡ targets_of op x y
  unfolding targets_of common_type
  equal_types k e q = rw (lt-leb 17 op h, ← e, q)

  pub common_none : (c : Option ℕ) → c ≡ common_type x y → c ≡ None → None ≡ targets_of op x y
  unfolding targets_of
  common_none c e q = rw (lt-leb 17 op h, ← e, q)

  pub common_code : (c : Option ℕ) → c ≡ common_type x y → (t : ℕ) → c ≡ Some t → Some (t, t) ≡ targets_of op x y
  unfolding targets_of
  common_code c e t q = rw (lt-leb 17 op h, ← e, q)

-- ---- the common type
pub data Meets (op lt rt : ℕ) : ℕ → ℕ → Type 0 where
  shift : 17 ≤ op → known_of lt ≡ true → Meets op lt rt lt 4
  leftward : op < 17 → ((known_of lt && eqb lt rt) ≡ true) ⊎ (goes_to rt lt ≡ true) → Meets op lt rt lt lt
  rightward : op < 17 → goes_to lt rt ≡ true → Meets op lt rt rt rt

-- two types that the operands convert to are those of the constructor
same_types : {op lt rt : ℕ} {p q : ℕ × ℕ} → Some p ≡ Some q → Meets op lt rt p.0 p.1 → Meets op lt rt q.0 q.1
same_types {p = p} {q} e m = let k : p ≡ q = cc in rw (← k) m

none : {P : Type 0} {x : ℕ × ℕ} → None ≡ Some x → P
none e = let z : ◌≡◌ {A = ℕ} 0 1 = cc in absurd (omega arith)

pub meets : (op lt rt x y : ℕ) → targets_of op lt rt ≡ Some (x, y) → Meets op lt rt x y
unfolding targets_of common_type
meets op lt rt x y e =
    go (leb 17 op) (known_of lt && (eqb rt 4 || goes_to rt 4)) ((known_of lt && eqb lt rt) || goes_to rt lt) (goes_to lt rt) refl refl refl refl e
  where
    go : (a b c d : Bool) → leb 17 op ≡ a → (known_of lt && (eqb rt 4 || goes_to rt 4)) ≡ b → ((known_of lt && eqb lt rt) || goes_to rt lt) ≡ c → goes_to lt rt ≡ d
        → pick a (pick b (Some (lt, 4)) None) (to_both (pick c (Some lt) (pick d (Some rt) None))) ≡ Some (x, y) → Meets op lt rt x y
    go true true c d p k q r f = same_types f (shift (leb-true _ _ p) (both (known_of lt) _ k).0)
    go true false c d p k q r f = none f
    go false b true d p k q r f = same_types f (leftward (leb-false _ _ p) (one_of (known_of lt && eqb lt rt) _ q))
    go false b false true p k q r f = same_types f (rightward (leb-false _ _ p) r)
    go false b false false p k q r f = none f

pub meets_known : {op lt rt x y : ℕ} → Meets op lt rt x y → known_of x ≡ true
meets_known (shift h k) = k
meets_known {op} {lt} {rt} (leftward h m) = ⊎_elim (λ (p : (known_of lt && eqb lt rt) ≡ true). (both (known_of lt) _ p).0) (λ p. goes_known rt lt p) m
meets_known {op} {lt} {rt} (rightward h m) = goes_known lt rt m

-- the common type of a float and another type is a float
pub meets_float : {op lt rt x y : ℕ} → Meets op lt rt x y → op < 17 → (float_of lt ≡ true) ⊎ (float_of rt ≡ true) → float_of x ≡ true
meets_float (shift h n) k f = absurd (omega arith)
meets_float {op} {lt} {rt} (leftward h m) k f =
    ⊎_elim (λ (p : float_of lt ≡ true). p)
    (λ p. ⊎_elim (λ (e : (known_of lt && eqb lt rt) ≡ true). ap float_of (eqb-true lt rt (both (known_of lt) _ e).1) ∙ p) (λ e. float_goes rt lt e p) m)
    f
meets_float {op} {lt} {rt} (rightward h m) k f =
    ⊎_elim (λ (p : float_of lt ≡ true). float_goes lt rt m p) (λ p. p) f

-- ---- shapes that meet
-- a matrix meets another operand in `+ - *` only
module _ (op : ℕ) (a b : Shape) (e : pair_ok op a b ≡ true) where
  matrices : (leb 3 op && leb op 5 && is_matrix a && is_matrix b) ≡ true → op ≤ 5
  matrices p = leb-true _ _ (both (leb 3 op) (leb op 5) (both (leb 3 op && leb op 5) _ (both (leb 3 op && leb op 5 && is_matrix a) _ p).0).0).1

  arithmetic : ((leb 3 op && leb op 5 && is_matrix a && is_matrix b) || (eqb op 5 && (is_matrix a || is_matrix b))) ≡ true → op ≤ 5
  arithmetic h =
      ⊎_elim
      (λ (p : (leb 3 op && leb op 5 && is_matrix a && is_matrix b) ≡ true). matrices p)
      (λ p. let q : op ≡ 5 = eqb-true _ _ (both (eqb op 5) _ p).0 in omega arith)
      (one_of (leb 3 op && leb op 5 && is_matrix a && is_matrix b) _ h)

  no_column : (c : ℕ) → 2 ≤ c → eqb c 1 ≡ false
  no_column c h = ne_eqb c 1 (λ (k : c ≡ 1). omega arith)

  pub matrix_op : (2 ≤ a.cols) ⊎ (2 ≤ b.cols) → op ≤ 5
  matrix_op m =
      ⊎_elim
      (λ (p : 2 ≤ a.cols). let z = no_column a.cols p in arithmetic (simp (z, and-false) at e))
      (λ p. let z = no_column b.cols p in arithmetic (simp (z, and-false) at e))
      m
