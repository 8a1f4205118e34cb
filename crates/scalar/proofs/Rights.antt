-- The right to an operator: a step refuses a type that has none, as the table of rights says, and always with the same number. Assumes nothing.
use Prim.Native.Nat.{ℕ}
use mathlib.Core.Path.{◌≡◌, refl, sym, ap, subst, ◌∙◌}
use mathlib.Core.Bool.{Bool, true, false, true≢false}
use mathlib.Core.List.{◌∷◌}
use mathlib.Core.Logic.{◌⊎◌, inl, inr}
use native.Mathlib.Omega.{arith}
use lib.Dec.{leb}
use borrow.Author.Tests.{leb-true}
use Rattle.std.specs.Prelude.{Option, Some, None, Ok, Err}
use Rattle.types.specs.Types.{right_of, unary_right_of}
use Rattle.value.specs.declared.Scalar.{Scalar}
use Rattle.value.specs.declared.Scalar.TheVariants.{Bool as bool, AbstractInt, AbstractFloat, I32, U32, F32, F16}
use Rattle.value.specs.declared.ShaderStage.{ShaderStage}
use Rattle.value.specs.declared.Pair.{Pair}
use Rattle.value.specs.declared.Pair.TheVariants as P
use Rattle.value.specs.Answer.{Result, refusal, unary, binary, stage_of, strict}
use Rattle.value.specs.Pattern.{pick}
use Rattle.value.specs.Pair.{both_of}
use Rattle.value.specs.Scalar.{type_of, scalar_of}
use Rattle.value.proofs.Sound.{OfType, Couple, of_type, couple}
use Rattle.value.specs.Refusals as No
use Rattle.relation.specs.Logical.{not_of, or_of, and_of}
use Rattle.relation.specs.Comparison.{eq_of, ne_of, lt_of, le_of, gt_of, ge_of}
use Rattle.arithmetic.specs.Arithmetic.{neg_of, add_of, sub_of, mul_of, div_of, rem_of}
use Rattle.bitwise.specs.Bits.{bit_not_of, bit_or_of, bit_and_of, bit_xor_of}
use Rattle.bitwise.specs.Shift.{by_count, shl_of, shr_of}
use Rattle.scalar.specs.Step.{Step, stepped, unaries, unary_of, on_scalar, unary_step_of, binaries, binary_of, shift_of, step_of}
use Rattle.scalar.proofs.Codes.{from, no_shift}
use Rattle.scalar.proofs.Promises.{entry}

-- ---- unary operators: a step refuses without the right, and only so, and then with 1
abbrev pub Righted : Bool → Step → Type 0
Righted right (Ok (t, b)) = right ≡ true
Righted right (Err r) = r ≡ refusal No.Unary 0

abbrev Rights : ℕ → (Scalar → Result) → Type 0
Rights op f = (s : Scalar) → Righted (unary_right_of op (type_of s)) (stepped (f s))

not_righted : Rights 1 not_of
not_righted s = elim s as (λ s. Righted (unary_right_of 1 (type_of s)) (stepped (not_of s))) [ bool x ↦ refl | AbstractInt x ↦ refl | AbstractFloat x ↦ refl | I32 x ↦ refl | U32 x ↦ refl | F32 x ↦ refl | F16 x ↦ refl ]

neg_righted : Rights 2 neg_of
neg_righted s = elim s as (λ s. Righted (unary_right_of 2 (type_of s)) (stepped (neg_of s))) [ bool x ↦ refl | AbstractInt x ↦ refl | AbstractFloat x ↦ refl | I32 x ↦ refl | U32 x ↦ refl | F32 x ↦ refl | F16 x ↦ refl ]

bitnot_righted : Rights 3 bit_not_of
bitnot_righted s = elim s as (λ s. Righted (unary_right_of 3 (type_of s)) (stepped (bit_not_of s))) [ bool x ↦ refl | AbstractInt x ↦ refl | AbstractFloat x ↦ refl | I32 x ↦ refl | U32 x ↦ refl | F32 x ↦ refl | F16 x ↦ refl ]

pub unary_righted : (op ty v : ℕ) → Righted (unary_right_of op ty) (unary_step_of op ty v)
unfolding unary_step_of
unary_righted op ty v = go (scalar_of ty v) (of_type ty v)
  where
    go : (f : Option Scalar) → OfType ty f → Righted (unary_right_of op ty) (stepped (on_scalar f (unary_of op) unary))
    go (Some s) h =
        subst (λ (t : ℕ). Righted (unary_right_of op t) (stepped (unary_of op s))) h.0
        (entry (λ i r. Righted (unary_right_of i (type_of s)) (stepped r)) (unary ∷ unaries s) unary (λ i. refl)
        refl (not_righted s) (neg_righted s) (bitnot_righted s) op)
    go None h = refl

-- ---- binary operators: without the right the operator itself answers Binary
abbrev Lacks : ℕ → ℕ → Result → Type 0
Lacks op ty r = right_of op ty ≡ false → r ≡ binary

-- the type of a code has the right, or every pair of it is refused
abbrev Arm : ℕ → (Option Pair → Result) → ℕ → {X : Type 0} → (X → X → Pair) → Type 0
Arm op f code {X} pair = (right_of op code ≡ true) ⊎ ((x y : X) → f (Some (pair x y)) ≡ binary)

arm : (op : ℕ) (f : Option Pair → Result) (code : ℕ) {X : Type 0} (pair : X → X → Pair) {ty : ℕ} → ty ≡ code → Arm op f code pair → (x y : X) → Lacks op ty (f (Some (pair x y)))
arm op f code pair e (inl h) x y q = absurd (true≢false (sym h ∙ ap (right_of op) (sym e) ∙ q))
arm op f code pair e (inr h) x y q = h x y

-- by the type of a pair
module _ (op : ℕ) (f : Option Pair → Result) where
  each_type : Arm op f 0 P.Bool → Arm op f 1 P.AbstractInt → Arm op f 2 P.AbstractFloat → Arm op f 3 P.I32 → Arm op f 4 P.U32 → Arm op f 5 P.F32
      → Arm op f 6 P.F16 → f None ≡ binary → (ty : ℕ) (p : Option Pair) → Couple ty p → Lacks op ty (f p)
  each_type b w d i u s h n ty (Some (P.Bool x y)) e = arm op f 0 P.Bool e b x y
  each_type b w d i u s h n ty (Some (P.AbstractInt x y)) e = arm op f 1 P.AbstractInt e.0 w x y
  each_type b w d i u s h n ty (Some (P.AbstractFloat x y)) e = arm op f 2 P.AbstractFloat e.0 d x y
  each_type b w d i u s h n ty (Some (P.I32 x y)) e = arm op f 3 P.I32 e.0 i x y
  each_type b w d i u s h n ty (Some (P.U32 x y)) e = arm op f 4 P.U32 e.0 u x y
  each_type b w d i u s h n ty (Some (P.F32 x y)) e = arm op f 5 P.F32 e.0 s x y
  each_type b w d i u s h n ty (Some (P.F16 x y)) e = arm op f 6 P.F16 e.0 h x y
  each_type b w d i u s h n ty None e = λ q. n

-- operators by their codes: `|| &&` Bool has alone, `+ - * / % < <= > >=` all but Bool, `== !=` all, `| &` Bool and integers, `^` integers
binary_lacks : (op : ℕ) (stage : ShaderStage) (ty : ℕ) (p : Option Pair) → Couple ty p → Lacks op ty (binary_of op stage p)
binary_lacks op stage ty p c =
    entry (λ i r. Lacks i ty r) (binary ∷ binaries stage p) binary (λ i q. refl) (λ q. refl)
    (each_type 1 or_of (inl refl) (inr (λ x y. refl)) (inr (λ x y. refl)) (inr (λ x y. refl)) (inr (λ x y. refl)) (inr (λ x y. refl)) (inr (λ x y. refl)) refl ty p c)
    (each_type 2 and_of (inl refl) (inr (λ x y. refl)) (inr (λ x y. refl)) (inr (λ x y. refl)) (inr (λ x y. refl)) (inr (λ x y. refl)) (inr (λ x y. refl)) refl ty p c)
    (each_type 3 (add_of stage) (inr (λ x y. refl)) (inl refl) (inl refl) (inl refl) (inl refl) (inl refl) (inl refl) refl ty p c)
    (each_type 4 (sub_of stage) (inr (λ x y. refl)) (inl refl) (inl refl) (inl refl) (inl refl) (inl refl) (inl refl) refl ty p c)
    (each_type 5 (mul_of stage) (inr (λ x y. refl)) (inl refl) (inl refl) (inl refl) (inl refl) (inl refl) (inl refl) refl ty p c)
    (each_type 6 (div_of stage) (inr (λ x y. refl)) (inl refl) (inl refl) (inl refl) (inl refl) (inl refl) (inl refl) refl ty p c)
    (each_type 7 (rem_of stage) (inr (λ x y. refl)) (inl refl) (inl refl) (inl refl) (inl refl) (inl refl) (inl refl) refl ty p c)
    (each_type 8 eq_of (inl refl) (inl refl) (inl refl) (inl refl) (inl refl) (inl refl) (inl refl) refl ty p c)
    (each_type 9 ne_of (inl refl) (inl refl) (inl refl) (inl refl) (inl refl) (inl refl) (inl refl) refl ty p c)
    (each_type 10 lt_of (inr (λ x y. refl)) (inl refl) (inl refl) (inl refl) (inl refl) (inl refl) (inl refl) refl ty p c)
    (each_type 11 le_of (inr (λ x y. refl)) (inl refl) (inl refl) (inl refl) (inl refl) (inl refl) (inl refl) refl ty p c)
    (each_type 12 gt_of (inr (λ x y. refl)) (inl refl) (inl refl) (inl refl) (inl refl) (inl refl) (inl refl) refl ty p c)
    (each_type 13 ge_of (inr (λ x y. refl)) (inl refl) (inl refl) (inl refl) (inl refl) (inl refl) (inl refl) refl ty p c)
    (each_type 14 bit_or_of (inl refl) (inl refl) (inr (λ x y. refl)) (inl refl) (inl refl) (inr (λ x y. refl)) (inr (λ x y. refl)) refl ty p c)
    (each_type 15 bit_and_of (inl refl) (inl refl) (inr (λ x y. refl)) (inl refl) (inl refl) (inr (λ x y. refl)) (inr (λ x y. refl)) refl ty p c)
    (each_type 16 bit_xor_of (inr (λ x y. refl)) (inl refl) (inr (λ x y. refl)) (inl refl) (inl refl) (inr (λ x y. refl)) (inr (λ x y. refl)) refl ty p c)
    op

-- ---- shifts
-- of what is no integer, by any count
uncounted : (stage : ShaderStage) (count : Option Scalar) → by_count count (λ n. pick (strict stage) binary binary) ≡ binary
uncounted stage None = refl
uncounted stage (Some s) =
    elim s as (λ s. by_count (Some s) (λ n. pick (strict stage) binary binary) ≡ binary) [ bool x ↦ refl | AbstractInt x ↦ refl | AbstractFloat x ↦ refl | I32 x ↦ refl | U32 n ↦ same (strict stage) | F32 x ↦ refl | F16 x ↦ refl ]
  where
    same : (t : Bool) → pick t binary binary ≡ binary
    same true = refl
    same false = refl

-- the shifts' own codes, and any scalar: an integer has the right
module _ (op : ℕ) (f : Scalar → Result) where
  each_scalar : right_of op 1 ≡ true → right_of op 3 ≡ true → right_of op 4 ≡ true
      → ((x : _) → f (bool x) ≡ binary) → ((x : _) → f (AbstractFloat x) ≡ binary) → ((x : _) → f (F32 x) ≡ binary) → ((x : _) → f (F16 x) ≡ binary)
      → (s : Scalar) → Lacks op (type_of s) (f s)
  each_scalar a b c n m k o s =
      elim s as (λ s. Lacks op (type_of s) (f s)) [
        | bool x ↦ λ q. n x
        | AbstractInt x ↦ λ q. absurd (true≢false (sym a ∙ q))
        | AbstractFloat x ↦ λ q. m x
        | I32 x ↦ λ q. absurd (true≢false (sym b ∙ q))
        | U32 x ↦ λ q. absurd (true≢false (sym c ∙ q))
        | F32 x ↦ λ q. k x
        | F16 x ↦ λ q. o x
      ]

shift_lacks : (op : ℕ) (stage : ShaderStage) (ty : ℕ) (l count : Option Scalar) → OfType ty l → leb 17 op ≡ true → Lacks op ty (shift_of op stage l count)
shift_lacks op stage ty None count h t = λ q. refl
shift_lacks op stage ty (Some s) count h t =
    from 17 op (leb-true 17 op t)
    (λ e. rw (e, ← h.0) (each_scalar 17 (λ s. shl_of stage s count) refl refl refl (λ x. none) (λ x. none) (λ x. none) (λ x. none) s))
    (λ k. from 18 op k
    (λ e. rw (e, ← h.0) (each_scalar 18 (λ s. shr_of stage s count) refl refl refl (λ x. none) (λ x. none) (λ x. none) (λ x. none) s))
    (λ k q. sym (no_shift stage s count op (λ e. omega (arith, k, e)) (λ e. omega (arith, k, e)))))
  where
    none : by_count count (λ n. pick (strict stage) binary binary) ≡ binary
    none = uncounted stage count

pub rightless : (op stage ty l r : ℕ) → right_of op ty ≡ false → step_of op stage ty l r ≡ Err (refusal No.Binary 0)
unfolding step_of
rightless op stage ty l r q = go (leb 17 op) refl
  where
    go : (t : Bool) → leb 17 op ≡ t
        → pick t (stepped (shift_of op (stage_of stage) (scalar_of ty l) (scalar_of 4 r))) (stepped (binary_of op (stage_of stage) (both_of (scalar_of ty l) (scalar_of ty r))))
        ≡ Err (refusal No.Binary 0)
    go true t = ap stepped (shift_lacks op (stage_of stage) ty (scalar_of ty l) (scalar_of 4 r) (of_type ty l) t q)
    go false t =
        ap stepped (binary_lacks op (stage_of stage) ty (both_of (scalar_of ty l) (scalar_of ty r)) (couple ty (scalar_of ty l) (scalar_of ty r) (of_type ty l) (of_type ty r)) q)
