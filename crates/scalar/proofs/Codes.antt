-- An operator by its code is the operator of the table. Assumes nothing.
use Prim.Native.Nat.{ℕ, suc, ◌≤◌, ◌<◌}
use mathlib.Core.Path.{◌≡◌, sym, ◌∙◌}
use mathlib.Core.Bool.{false, ◌&&◌, true≢false}
use mathlib.Core.Logic.{inl, inr}
use mathlib.Core.List.{◌∷◌}
use native.Mathlib.Omega.{arith}
use lib.Dec.{leb}
use lib.ListN.{get_or-eq_default}
use borrow.Author.Tests.{ne_eqb, le-leb}
use Rattle.std.specs.Prelude.{Option, Some}
use Rattle.integer.proofs.Order.{le_or_lt}
use Rattle.value.specs.declared.Scalar.{Scalar}
use Rattle.value.specs.declared.ShaderStage.{ShaderStage}
use Rattle.value.specs.declared.Pair.{Pair}
use Rattle.value.specs.Answer.{binary}
use Rattle.arithmetic.specs.Arithmetic.{arithmetic_by}
use Rattle.relation.specs.Comparison.{compared, numbers_of}
use Rattle.bitwise.specs.Bits.{bits_by, bitwise, truths_by}
use Rattle.scalar.specs.Step.{binaries, binary_of, shift_of}

-- a number from a on is a, or one from a + 1 on
pub from : {R : Type 0} (a n : ℕ) → a ≤ n → (n ≡ a → R) → (suc a ≤ n → R) → R
from a n h f g = elim (le_or_lt (suc a) n) [ inl k ↦ g k | inr k ↦ f (omega arith) ]

-- no arithmetic's code, and below those of the comparisons
pub no_arithmetic : (op : ℕ) → (leb 3 op && leb op 7) ≡ false → op < 8 → op < 3
no_arithmetic op e h =
    elim (le_or_lt 3 op) [ inl k ↦ absurd (true≢false (sym (λ i. le-leb 3 op k i && le-leb op 7 (omega arith) i) ∙ e)) | inr k ↦ k ]

module _ (stage : ShaderStage) (p : Option Pair) (op : ℕ) where
  pub arithmetic_code : 3 ≤ op → op ≤ 7 → arithmetic_by op stage p ≡ binary_of op stage p
  arithmetic_code h k =
      from 3 op h (λ e. rw e) (λ h. from 4 op h (λ e. rw e) (λ h. from 5 op h (λ e. rw e) (λ h. from 6 op h (λ e. rw e) (λ h.
      from 7 op h (λ e. rw e) (λ h. absurd (omega arith))))))

  pub comparison_code : 8 ≤ op → op ≤ 13 → compared op (numbers_of p) ≡ binary_of op stage p
  comparison_code h k =
      from 8 op h (λ e. rw e) (λ h. from 9 op h (λ e. rw e) (λ h. from 10 op h (λ e. rw e) (λ h. from 11 op h (λ e. rw e) (λ h.
      from 12 op h (λ e. rw e) (λ h. from 13 op h (λ e. rw e) (λ h. absurd (omega arith)))))))

  pub bits_code : 14 ≤ op → op ≤ 16 → bitwise (truths_by op) (bits_by op) p ≡ binary_of op stage p
  bits_code h k = from 14 op h (λ e. rw e) (λ h. from 15 op h (λ e. rw e) (λ h. from 16 op h (λ e. rw e) (λ h. absurd (omega arith))))

  pub no_code : 17 ≤ op → binary ≡ binary_of op stage p
  no_code h = sym (get_or-eq_default (binary ∷ binaries stage p) binary {n = op} (omega arith))

module _ (stage : ShaderStage) (s : Scalar) (count : Option Scalar) (op : ℕ) where
  pub no_shift : (op ≡ 17 → ⊥) → (op ≡ 18 → ⊥) → binary ≡ shift_of op stage (Some s) count
  no_shift h k = rw (ne_eqb op 17 h, ne_eqb op 18 k)
