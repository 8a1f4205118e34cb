-- With the right to an operator a step never answers Binary, so that this refusal says exactly that the type has none. Assumes nothing.
use Prim.Native.Nat.{ℕ, zero, suc, ◌*◌, ◌/◌, ◌^◌, ◌≤◌, ◌<◌}
use mathlib.Core.Path.{◌≡◌, refl, sym, subst, ◌∙◌}
use mathlib.Core.Bool.{Bool, true, false, true≢false}
use mathlib.Core.List.{List, [], ◌∷◌}
use native.Mathlib.Omega.{arith}
use lib.Dec.{eqb, leb}
use lib.IntN.{ℤ, pos, ◌+ℤ◌, ◌-ℤ◌, ◌*ℤ◌}
use lib.Ieee.{Float}
use lib.ListN.{length, get_or}
use lib.Signed.{shr_z}
use borrow.Author.Tests.{leb-true, leb-false}
use mir.Syntax.{w32, w64}
use mir.Val.{to_z}
use Rattle.std.specs.Prelude.{Option, Some, None, Ok, Err}
use Rattle.integer.specs.Range.{in_signed, whole_of}
use Rattle.quotient.specs.Quotient.{no_quotient}
use Rattle.shift.specs.Shift.{shl_over, shl_over_u}
use Rattle.rounding.specs.Kind.{single, double}
use Rattle.rounding.specs.Arithmetic.{add, sub, mul, div, rem}
use Rattle.rounding.specs.Bits.{of_bits}
use Rattle.types.specs.Types.{right_of}
use Rattle.types.proofs.Bounds.{past_operators}
use Rattle.types.proofs.Choice.{picked}
use Rattle.types.proofs.Rows.{by_code}
use Rattle.value.specs.declared.Scalar.{Scalar}
use Rattle.value.specs.declared.Scalar.TheVariants.{AbstractInt, AbstractFloat, I32, U32, F32, F16}
use Rattle.value.specs.declared.ShaderStage.{ShaderStage}
use Rattle.value.specs.declared.Pair.TheVariants as P
use Rattle.value.specs.Answer.{Result, value, refused, shift_refused, refusal, binary, stage_of, strict}
use Rattle.value.specs.Pattern.{pick, proper_of, kept_of}
use Rattle.value.specs.Pair.{both_of}
use Rattle.value.specs.Scalar.{finite_of, kept_scalar, scalar_at, scalar_of}
use Rattle.arithmetic.specs.Arithmetic.{in_exec, finite_or, settled, whole_or, half_of}
use Rattle.bitwise.specs.Shift.{shl_overflow, shr_overflow}
use Rattle.scalar.specs.Step.{Step, stepped, binaries, binary_of, shift_of, step_of}
use Rattle.scalar.proofs.Codes.{from}
use Rattle.scalar.proofs.Promises.{Entries, later}
use Rattle.scalar.proofs.Reread.{right_type}

-- no refusal with Binary
abbrev Own : Result → Type 0
Own (value s) = Unit {0}
Own (refused r) = r.number ≡ 2 → ⊥
Own (shift_refused n d l) = n ≡ 2 → ⊥

abbrev pub OwnStep : Step → Type 0
OwnStep (Ok (t, b)) = Unit {0}
OwnStep (Err r) = r.number ≡ 2 → ⊥

own_step : (r : Result) → Own r → OwnStep (stepped r)
own_step (value s) h = tt
own_step (refused r) h = h
own_step (shift_refused n d l) h = h

own_one : (t : Bool) (a b : Result) → Own a → Own b → Own (pick t a b)
own_one true a b h k = h
own_one false a b h k = k

own_whole : (w : Option ℤ) (why : Result) → Own why → Own (whole_or w why)
own_whole (Some z) why h = tt
own_whole None why h = h

-- the refusals 4 to 8
other_number : (n : ℕ) → 4 ≤ n → Own (refused (refusal n 0))
other_number n h = λ e. omega (arith, h, e)

own_exec : (stage : ShaderStage) (n : ℕ) (s : Scalar) → 4 ≤ n → Own (in_exec stage (refused (refusal n 0)) s)
own_exec stage n s h = own_one (strict stage) (refused (refusal n 0)) (value s) (other_number n h) tt

own_finite : (s : Scalar) (o : Result) → Own o → Own (finite_or s o)
own_finite s o h = own_one (finite_of s) (value s) o tt h

own_settled : (stage : ShaderStage) (n : ℕ) (s : Scalar) → 4 ≤ n → Own (settled stage (refused (refusal n 0)) s)
own_settled stage n s h = own_finite s (in_exec stage (refused (refusal n 0)) s) (own_exec stage n s h)

-- what holds of each entry of a table at its place holds of what the table gives within its length
within : {X : Type 0} (Q : ℕ → X → Type 0) (l : List X) (d : X) → Entries Q l ((i : ℕ) → i < length l → Q i (get_or l i d))
within Q [] d = λ i h. absurd (omega arith)
within Q (x ∷ l) d = λ q. later (λ i. Q (suc i)) l (first q) (within (λ i. Q (suc i)) l d)
  where
    first : Q 0 x → ((i : ℕ) → i < length l → Q (suc i) (get_or l i d)) → (i : ℕ) → i < length (x ∷ l) → Q i (get_or (x ∷ l) i d)
    first q f zero h = q
    first q f (suc i) h = f i (omega arith)

abbrev Has : ℕ → ℕ → Result → Type 0
Has ty op r = right_of op ty ≡ true → Own r

-- a code without the right
none : {R : Type 0} → false ≡ true → R
none q = absurd (true≢false (sym q))

-- ---- by the type of a pair, each of the codes 0 to 16
module _ (op : ℕ) (k : op < 17) (stage : ShaderStage) where
  truths : (x y : Bool) → Has 0 op (binary_of op stage (Some (P.Bool x y)))
  truths x y =
      within (Has 0) (binary ∷ binaries stage (Some (P.Bool x y))) binary none (λ q. tt) (λ q. tt) none none none none none (λ q. tt) (λ q. tt) none none none none
      (λ q. tt) (λ q. tt) none op k

  wholes : (x y : ℤ) → Has 1 op (binary_of op stage (Some (P.AbstractInt x y)))
  wholes x y =
      within (Has 1) (binary ∷ binaries stage (Some (P.AbstractInt x y))) binary none none none
      (λ q. own_whole (whole_of (x +ℤ y)) _ (other_number 4 (omega arith))) (λ q. own_whole (whole_of (x -ℤ y)) _ (other_number 5 (omega arith)))
      (λ q. own_whole (whole_of (x *ℤ y)) _ (other_number 6 (omega arith)))
      (λ q. own_one (no_quotient w64 x y) _ _ (own_exec stage 7 (AbstractInt x) (omega arith)) tt)
      (λ q. own_one (no_quotient w64 x y) _ _ (own_exec stage 8 (AbstractInt (pos 0)) (omega arith)) tt)
      (λ q. tt) (λ q. tt) (λ q. tt) (λ q. tt) (λ q. tt) (λ q. tt) (λ q. tt) (λ q. tt) (λ q. tt) op k

  doubles : (x y : Float) → Has 2 op (binary_of op stage (Some (P.AbstractFloat x y)))
  doubles x y =
      within (Has 2) (binary ∷ binaries stage (Some (P.AbstractFloat x y))) binary none none none
      (λ q. own_finite (AbstractFloat (add double x y)) _ (other_number 4 (omega arith))) (λ q. own_finite (AbstractFloat (sub double x y)) _ (other_number 5 (omega arith)))
      (λ q. own_finite (AbstractFloat (mul double x y)) _ (other_number 6 (omega arith)))
      (λ q. own_finite (AbstractFloat (div double x y)) _ (own_exec stage 7 (AbstractFloat x) (omega arith)))
      (λ q. own_finite (AbstractFloat (rem double x y)) _ (other_number 8 (omega arith)))
      (λ q. tt) (λ q. tt) (λ q. tt) (λ q. tt) (λ q. tt) (λ q. tt) none none none op k

  signeds : (x y : ℤ) → Has 3 op (binary_of op stage (Some (P.I32 x y)))
  signeds x y =
      within (Has 3) (binary ∷ binaries stage (Some (P.I32 x y))) binary none none none (λ q. tt) (λ q. tt) (λ q. tt)
      (λ q. own_one (no_quotient w32 x y) _ _ (own_exec stage 7 (I32 x) (omega arith)) tt)
      (λ q. own_one (no_quotient w32 x y) _ _ (own_exec stage 8 (I32 (pos 0)) (omega arith)) tt)
      (λ q. tt) (λ q. tt) (λ q. tt) (λ q. tt) (λ q. tt) (λ q. tt) (λ q. tt) (λ q. tt) (λ q. tt) op k

  unsigneds : (x y : ℕ) → Has 4 op (binary_of op stage (Some (P.U32 x y)))
  unsigneds x y =
      within (Has 4) (binary ∷ binaries stage (Some (P.U32 x y))) binary none none none (λ q. tt) (λ q. tt) (λ q. tt)
      (λ q. own_one (eqb y 0) _ _ (own_exec stage 7 (U32 x) (omega arith)) tt) (λ q. own_one (eqb y 0) _ _ (own_exec stage 8 (U32 0) (omega arith)) tt)
      (λ q. tt) (λ q. tt) (λ q. tt) (λ q. tt) (λ q. tt) (λ q. tt) (λ q. tt) (λ q. tt) (λ q. tt) op k

  singles : (x y : Float) → Has 5 op (binary_of op stage (Some (P.F32 x y)))
  singles x y =
      within (Has 5) (binary ∷ binaries stage (Some (P.F32 x y))) binary none none none
      (λ q. own_settled stage 4 (F32 (add single x y)) (omega arith)) (λ q. own_settled stage 5 (F32 (sub single x y)) (omega arith))
      (λ q. own_settled stage 6 (F32 (mul single x y)) (omega arith))
      (λ q. own_finite (F32 (div single x y)) _ (own_exec stage 7 (F32 x) (omega arith))) (λ q. own_settled stage 8 (F32 (rem single x y)) (omega arith))
      (λ q. tt) (λ q. tt) (λ q. tt) (λ q. tt) (λ q. tt) (λ q. tt) none none none op k

  halves : (x y : ℕ) → Has 6 op (binary_of op stage (Some (P.F16 x y)))
  halves x y =
      within (Has 6) (binary ∷ binaries stage (Some (P.F16 x y))) binary none none none
      (λ q. own_settled stage 4 (half_of add x y) (omega arith)) (λ q. own_settled stage 5 (half_of sub x y) (omega arith))
      (λ q. own_settled stage 6 (half_of mul x y) (omega arith))
      (λ q. own_finite (half_of div x y) _ (own_exec stage 7 (kept_scalar (F16 x)) (omega arith))) (λ q. own_settled stage 8 (half_of rem x y) (omega arith))
      (λ q. tt) (λ q. tt) (λ q. tt) (λ q. tt) (λ q. tt) (λ q. tt) none none none op k

  -- two proper patterns of a type are its pair
  proper_pair : (ty l r : ℕ) → proper_of ty l ≡ true → proper_of ty r ≡ true → Has ty op (binary_of op stage (both_of (scalar_at ty l) (scalar_at ty r)))
  proper_pair ty l r =
      by_code (λ ty. proper_of ty l ≡ true → proper_of ty r ≡ true → Has ty op (binary_of op stage (both_of (scalar_at ty l) (scalar_at ty r))))
      (λ p q. truths (eqb l 1) (eqb r 1)) (λ p q. wholes (to_z w64 l) (to_z w64 r)) (λ p q. doubles (of_bits double l) (of_bits double r))
      (λ p q. signeds (to_z w32 l) (to_z w32 r)) (λ p q. unsigneds l r) (λ p q. singles (of_bits single l) (of_bits single r)) (λ p q. halves (kept_of 6 l) (kept_of 6 r))
      (λ n p q. none) ty

-- ---- shifts of integers by a U32
module _ (stage : ShaderStage) (n : ℕ) where
  over : (k : ℕ) (l : Scalar) → 4 ≤ k → Own (shift_refused k n l)
  over k l h = λ e. omega (arith, h, e)

  left_own : (ty l : ℕ) → right_of 17 ty ≡ true → Own (shift_of 17 stage (scalar_at ty l) (Some (U32 n)))
  left_own ty l =
      by_code (λ ty. right_of 17 ty ≡ true → Own (shift_of 17 stage (scalar_at ty l) (Some (U32 n)))) none
      (λ q. let x = to_z w64 l in
      own_one (strict stage) _ _ (own_one (in_signed w64 (x *ℤ pos (2 ^ n))) (value (AbstractInt (x *ℤ pos (2 ^ n)))) (shl_overflow n (AbstractInt x)) tt (over 9 (AbstractInt x) (omega arith))) tt) none
      (λ q. let x = to_z w32 l in own_one (strict stage) _ _ (own_one (shl_over w32 x n) (shl_overflow n (I32 x)) (value (I32 (x *ℤ pos (2 ^ n)))) (over 9 (I32 x) (omega arith)) tt) tt)
      (λ q. own_one (strict stage) _ _ (own_one (shl_over_u w32 l n) (shl_overflow n (U32 l)) (value (U32 (l * 2 ^ n))) (over 9 (U32 l) (omega arith)) tt) tt) none none
      (λ k. none) ty

  right_own : (ty l : ℕ) → right_of 18 ty ≡ true → Own (shift_of 18 stage (scalar_at ty l) (Some (U32 n)))
  right_own ty l =
      by_code (λ ty. right_of 18 ty ≡ true → Own (shift_of 18 stage (scalar_at ty l) (Some (U32 n)))) none
      (λ q. own_one (strict stage) _ _ tt tt) none
      (λ q. let x = to_z w32 l in own_one (strict stage) _ _ (own_one (leb 32 n) (shr_overflow n (I32 x)) (value (I32 (shr_z x (2 ^ n)))) (over 10 (I32 x) (omega arith)) tt) tt)
      (λ q. own_one (strict stage) _ _ (own_one (leb 32 n) (shr_overflow n (U32 l)) (value (U32 (l / 2 ^ n))) (over 10 (U32 l) (omega arith)) tt) tt) none none
      (λ k. none) ty

  shift_own : (op ty l : ℕ) → 17 ≤ op → right_of op ty ≡ true → Own (shift_of op stage (scalar_at ty l) (Some (U32 n)))
  shift_own op ty l h =
      from 17 op h (λ e. subst (λ (op : ℕ). right_of op ty ≡ true → Own (shift_of op stage (scalar_at ty l) (Some (U32 n)))) (sym e) (left_own ty l))
      (λ h. from 18 op h (λ e. subst (λ (op : ℕ). right_of op ty ≡ true → Own (shift_of op stage (scalar_at ty l) (Some (U32 n)))) (sym e) (right_own ty l))
      (λ h q. absurd (true≢false (sym q ∙ past_operators op ty h))))

-- of proper patterns of a type with the right no step answers Binary
pub righted : (op stage ty l r : ℕ) → right_of op ty ≡ true → proper_of ty l ≡ true → proper_of (right_type op ty) r ≡ true → OwnStep (step_of op stage ty l r)
unfolding step_of
righted op stage ty l r q p o = go (leb 17 op) refl o
  where
    at : ShaderStage
    at = stage_of stage

    left : scalar_at ty l ≡ scalar_of ty l
    left = picked (scalar_at ty l) None p

    go : (t : Bool) → leb 17 op ≡ t → proper_of (pick t 4 ty) r ≡ true
        → OwnStep (pick t (stepped (shift_of op at (scalar_of ty l) (scalar_of 4 r))) (stepped (binary_of op at (both_of (scalar_of ty l) (scalar_of ty r)))))
    go true t o =
        own_step (shift_of op at (scalar_of ty l) (scalar_of 4 r))
        (subst (λ (f : Option Scalar). Own (shift_of op at (scalar_of ty l) f)) (picked (Some (U32 r)) None o)
        (subst (λ (f : Option Scalar). Own (shift_of op at f (Some (U32 r)))) left (shift_own at r op ty l (leb-true 17 op t) q)))
    go false t o =
        own_step (binary_of op at (both_of (scalar_of ty l) (scalar_of ty r)))
        (subst (λ (f : Option Scalar). Own (binary_of op at (both_of (scalar_of ty l) f))) (picked (scalar_at ty r) None o)
        (subst (λ (f : Option Scalar). Own (binary_of op at (both_of f (scalar_at ty r)))) left (proper_pair op (omega (arith, leb-false 17 op t)) at ty l r p o q)))
