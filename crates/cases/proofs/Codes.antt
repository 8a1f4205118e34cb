-- The judgement of a record of scalars, from what its parts are found to be. Assumes nothing.
use Prim.Native.Nat.{ℕ}
use mathlib.Core.Path.{◌≡◌, refl, ap, ◌∙◌}
use mathlib.Core.Bool.{Bool, true, false}
use mathlib.Core.List.{List, ◌∷◌}
use lib.Dec.{eqb}
use lib.ListN.{get_or}
use borrow.Author.Tests.{eq-eqb, ne_eqb, eqb-true, eqb-false}
use Rattle.low.specs.Bytes.{whole, part}
use Rattle.types.proofs.Choice.{Misses, past_one}
use Rattle.value.specs.declared.Scalar.{Scalar}
use Rattle.value.specs.declared.ShaderStage.{ShaderStage}
use Rattle.std.proofs.Common.{Option}
use Rattle.value.specs.Answer.{Result, stage_of}
use Rattle.value.specs.Scalar.{scalar_of}
use Rattle.conversion.specs.Convert.{common_of}
use Rattle.bitwise.specs.Bits.{bit_not_of, bit_xor_of}
use Rattle.cases.specs.Scalars.{unary_results, unary_by, binary_results, binary_by, scalar_found, scalar_read}
use Rattle.cases.specs.Judged.{result_said, scalar_right}
use Rattle.cases.proofs.Records.{number_at_lem}

-- ---- codes
-- every other code of a unary operator is taken as 3
pub other_unary : (s : Scalar) (op : ℕ) → Misses 1 2 op → bit_not_of s ≡ unary_by op s
unfolding unary_by
other_unary s op m = past_one (unary_results s) (bit_not_of s) op m

-- every other code of a binary operator is taken as 16
pub other_binary : (stage : ShaderStage) (l r : Scalar) (op : ℕ) → Misses 1 15 op → (op ≡ 17 → ⊥) → (op ≡ 18 → ⊥) → bit_xor_of (common_of l r) ≡ binary_by op stage l r
unfolding binary_by
other_binary stage l r op m h k = go (eqb op 16) refl
  where
    go : (t : Bool) → eqb op 16 ≡ t → bit_xor_of (common_of l r) ≡ get_or (bit_xor_of (common_of l r) ∷ binary_results stage l r) op (bit_xor_of (common_of l r))
    go true e = rw (eqb-true op 16 e)
    go false e = past_one (binary_results stage l r) (bit_xor_of (common_of l r)) op (((m, eqb-false op 16 e), h), k)

-- ---- operands and values
-- the scalar that an operand is found to be
pub scalar_found_lem : (o p : List ℕ) (t b : ℕ) (f : Option Scalar) → t ≡ get_or o 0 0 → p ≡ part o 4 8 → b ≡ whole (part p 0 8) → f ≡ scalar_of t b → scalar_found f ≡ scalar_read o
unfolding scalar_read
scalar_found_lem o p t b f et ep eb ef = ap scalar_found (ef ∙ (λ i. scalar_of (et i) (number_at_lem o 4 p b ep eb i)))

-- ---- the record
module _ (c : List ℕ) (k op : ℕ) (ek : k ≡ get_or c 0 0) (eo : op ≡ get_or c 1 0) (p : List ℕ) (ep : p ≡ part c 3 12) (l : Scalar) (el : l ≡ scalar_read p)
    (x : Result) (w : List ℕ) (t : Bool) (e : t ≡ result_said x w) where
  pub unary_right : k ≡ 1 → x ≡ unary_by op l → w ≡ part c 15 17 → t ≡ scalar_right c
  unfolding scalar_right
  unary_right h ex ew = rw (← ek, eq-eqb k 1 h, ← eo, ← ep, ← el, ← ex, ← ew) e

  pub binary_right : (k ≡ 1 → ⊥) → (q : List ℕ) → q ≡ part c 15 12 → (r : Scalar) → r ≡ scalar_read q
      → (n : ℕ) → n ≡ get_or c 2 0 → (stage : ShaderStage) → stage ≡ stage_of n → x ≡ binary_by op stage l r → w ≡ part c 27 17 → t ≡ scalar_right c
  unfolding scalar_right
  binary_right h q eq r er n en stage es ex ew = rw (← ek, ne_eqb k 1 h, ← eo, ← ep, ← el, ← eq, ← er, ← en, ← es, ← ex, ← ew) e
