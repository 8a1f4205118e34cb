-- What an arm of an operator answers, from what its calls promise. Assumes nothing.
use Prim.Native.Nat.{ℕ, zero, ◌<◌}
use mathlib.Core.Path.{◌≡◌, refl, ap, ap₂, ◌∙◌}
use mathlib.Core.Bool.{Bool, true, false}
use lib.Dec.{eqb}
use borrow.Author.Tests.{ne_eqb, eqb-false}
use lib.IntN.{ℤ}
use lib.Ieee.{Float}
use mir.Syntax.{Width}
use mir.Val.{SFits, to_z, of_z}
use mir.ValLaws.{to_z-of_z}
use Rattle.integer.specs.Range.{pick}
use Rattle.integer.proofs.Range.{mapped, found_unless}
use Rattle.quotient.specs.Quotient.{no_quotient}
use Rattle.std.proofs.Common.{Option, Some, None, option_map, MatchOption, IsSomeAnd, SomeIff, arith}
use Rattle.rounding.specs.Kind.{Kind, half, single, double, convert}
use Rattle.rounding.specs.Arithmetic.{add, sub, mul, div, rem}
use Rattle.rounding.specs.Bits.{to_bits, of_bits}
use Rattle.value.specs.declared.Scalar.{Scalar}
use Rattle.value.specs.declared.Scalar.TheVariants.{AbstractFloat, U32}
use Rattle.value.specs.declared.ShaderStage.{ShaderStage}
use Rattle.value.specs.declared.ShaderStage.TheVariants.{Const}
use Rattle.value.specs.declared.OperatorError.TheVariants.{AddOverflow, SubOverflow, MulOverflow, RemZeroDiv}
use Rattle.value.specs.declared.Pair.TheVariants as P
use Rattle.value.proofs.Called.{parts}
use Rattle.value.specs.Answer.{Result, value, refused_by}
use Rattle.arithmetic.specs.Arithmetic.{arithmetic_by, finite_or, float_by, in_exec, no_div, not_finite, settled, value_or}

-- one of five, as a match on the code finds it
abbrev five_way : {A : Type 0} → Bool → Bool → Bool → Bool → A → A → A → A → A → A
five_way p q r s a b c d e = pick p a (pick q b (pick r c (pick s d e)))

-- a float result of any operator: finite, or what that operator answers
module _ (own stage : ShaderStage) (left : Scalar) (make : Float → Scalar) (k : Kind) (x y : Float) where
  abbrev resulting : Bool → Bool → Bool → Bool → Float
  resulting p q r s = five_way p q r s (add k x y) (sub k x y) (mul k x y) (div k x y) (rem k x y)

  abbrev refusing : Scalar → Bool → Bool → Bool → Bool → Result
  refusing v p q r s =
      five_way p q r s (in_exec own (refused_by AddOverflow) v) (in_exec own (refused_by SubOverflow) v) (in_exec own (refused_by MulOverflow) v)
      (no_div stage left) (in_exec own (refused_by RemZeroDiv) v)

  abbrev answering : Bool → Bool → Bool → Bool → Result
  answering p q r s =
      five_way p q r s (settled own (refused_by AddOverflow) (make (add k x y))) (settled own (refused_by SubOverflow) (make (sub k x y)))
      (settled own (refused_by MulOverflow) (make (mul k x y))) (finite_or (make (div k x y)) (no_div stage left))
      (settled own (refused_by RemZeroDiv) (make (rem k x y)))

  finite_or_not : (p q r s : Bool) → finite_or (make (resulting p q r s)) (refusing (make (resulting p q r s)) p q r s) ≡ answering p q r s
  finite_or_not true q r s = refl
  finite_or_not false true r s = refl
  finite_or_not false false true s = refl
  finite_or_not false false false true = refl
  finite_or_not false false false false = refl

  pub float_arm : (op : ℕ) {a : Result} {v : Float} → a ≡ finite_or (make v) (not_finite op own stage left (make v)) → v ≡ float_by op k x y
      → a ≡ answering (eqb op 3) (eqb op 4) (eqb op 5) (eqb op 6)
  float_arm op e h =
      e ∙ ap (λ v. finite_or (make v) (not_finite op own stage left (make v))) h
      ∙ finite_or_not (eqb op 3) (eqb op 4) (eqb op 5) (eqb op 6)

pub double_arm : (op : ℕ) (stage : ShaderStage) {a : Result} (x y : Float) {v : Float}
    → a ≡ finite_or (AbstractFloat v) (not_finite op Const stage (AbstractFloat x) (AbstractFloat v))
    → v ≡ float_by op double x y → a ≡ arithmetic_by op stage (Some (P.AbstractFloat x y))
double_arm op stage x y e h = float_arm Const stage (AbstractFloat x) AbstractFloat double x y op e h

-- one F32 operation on two widened operands, rounded once
pub half_arm : (f : Kind → Float → Float → Float) {g : Float → Float → Float} → ((x y : Float) → g x y ≡ f single x y)
    → (x y : ℕ) {h : ℕ} {a b : Float} → h ≡ to_bits half (convert half (g a b)) → a ≡ of_bits half x → b ≡ of_bits half y
    → h ≡ to_bits half (convert half (f single (of_bits half x) (of_bits half y)))
half_arm f s x y {h} {a} {b} e p q = e ∙ ap (λ v. to_bits half (convert half v)) (s a b ∙ ap₂ (f single) p q)

-- what was found, or else the other answer
pub either_arm : {Q : Type 0} (or : Q → Result → Result) (t : Bool) (u v : Q) {a o d : Result} {q : Q}
    → q ≡ pick t u v → o ≡ d → a ≡ or q o → a ≡ pick t (or u d) (or v d)
either_arm or t u v {a} {o} {d} e h m = m ∙ ap₂ or e h ∙ spread t
  where
    spread : (t : Bool) → or (pick t u v) d ≡ pick t (or u d) (or v d)
    spread true = refl
    spread false = refl

-- the same of a quotient or a remainder
pub quotient_arm : {Q : Type 0} (w : Width) (or : Q → Result → Result) (none : Q) (some : ℤ → Q) (z : ℤ → ℤ → ℤ) (d : ℤ → Result)
    {a o : Result} {q : Q} {x y : ℤ} → SFits w x → SFits w y
    → q ≡ pick (no_quotient w (to_z w (of_z w x)) (to_z w (of_z w y))) none (some (z (to_z w (of_z w x)) (to_z w (of_z w y))))
    → o ≡ d (to_z w (of_z w x)) → a ≡ or q o
    → a ≡ pick (no_quotient w x y) (or none (d x)) (or (some (z x y)) (d x))
quotient_arm w or none some z d {a} {o} {q} {x} {y} f g e h m =
    either_arm or (no_quotient w x y) none (some (z x y)) (e ∙ parts w (λ x y. pick (no_quotient w x y) none (some (z x y))) f g) (h ∙ ap d (to_z-of_z w x f)) m

-- a quotient or a remainder as a scalar that may be none, or else the other answer
pub found_arm : (w : Width) (make : ℤ → Scalar) (z : ℤ → ℤ → ℤ) (d : ℤ → Result) {a o : Result} (q : Option ℤ) (m : Option Scalar) {x y : ℤ} → SFits w x → SFits w y
    → q ≡ pick (no_quotient w (to_z w (of_z w x)) (to_z w (of_z w y))) None (Some (z (to_z w (of_z w x)) (to_z w (of_z w y))))
    → MatchOption q (m ≡ None) (λ z. IsSomeAnd m (λ s. s ≡ make z)) → o ≡ d (to_z w (of_z w x)) → a ≡ value_or m o
    → a ≡ pick (no_quotient w x y) (d x) (value (make (z x y)))
found_arm w make z d {a} {o} q m f g e h k l =
    quotient_arm w (λ q r. value_or (option_map make q) r) None Some z d f g e k (l ∙ ap (λ (m : Option Scalar). value_or m o) (mapped make q m h))

-- the same of U32, which has a quotient by all but 0
pub divided_arm : (z : ℕ → ℕ → ℕ) {a o d : Result} (q : Option ℕ) (m : Option Scalar) (x y : ℕ) → SomeIff q (zero < y) (z x y)
    → MatchOption q (m ≡ None) (λ n. IsSomeAnd m (λ s. s ≡ U32 n)) → o ≡ d → a ≡ value_or m o → a ≡ pick (eqb y 0) d (value (U32 (z x y)))
divided_arm z {a} {o} {d} q m x y e h k l =
    either_arm (λ q r. value_or (option_map U32 q) r) (eqb y 0) None (Some (z x y))
    (found_unless q (z x y) (eqb y 0) e (λ t. above (eqb-false y 0 t)) (λ l. ne_eqb y 0 (below l))) k
    (l ∙ ap (λ (m : Option Scalar). value_or m o) (mapped U32 q m h))
  where
    above : (y ≡ 0 → ⊥) → zero < y
    above n = omega arith

    below : zero < y → y ≡ 0 → ⊥
    below l e = omega arith
