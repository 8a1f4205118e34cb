-- `+ - * /` answer the exact result rounded once, in F16 by F32 and so once too: the claims of `specs/Rounded.antt`. Assumes nothing.
use Prim.Native.Nat.{ℕ, ◌*◌, ◌%◌, ◌<◌}
use mathlib.Core.Path.{◌≡◌, refl, sym, ap, ◌∙◌, subst}
use mathlib.Core.Bool.{Bool, true, false, false≢true}
use native.Mathlib.Nat.{mul-pos}
use lib.IntN.{pos}
use lib.Ieee.{Float, inf}
use borrow.Author.Tests.{ltb-true}
use Rattle.rounding.specs.Kind.{Kind, half, single, double, convert}
use Rattle.rounding.specs.Bits.{to_bits, of_bits, finite}
use Rattle.rounding.specs.Arithmetic.{add, sub, mul, div}
use Rattle.rounding.specs.Rounded.{Exact, exact_of, plus, minus, times, over, NearestTo, TooLarge, RoundedOnce, RoundedOr, RoundedTwice, sum_sign, difference_sign, product_sign}
use Rattle.rounding.proofs.Rounded.{bottom_pos, size_pos, answered, sum_rounded, difference_rounded, product_rounded, quotient_rounded, conversion_rounded}
use Rattle.rounding.proofs.Made.{zero_divisor}
use Rattle.rounding.proofs.Reread.{convert_back, half_not_finite}
use Rattle.rounding.proofs.Halves.{half_sum, half_difference, half_product, half_quotient}
use Rattle.rounding.proofs.Halves.{half_sum_small, half_difference_small, half_product_small, half_quotient_small}
use Rattle.rounding.proofs.Unique.{one_rounded}
use Rattle.rounding.proofs.Units.{half_sized, single_sized, double_sized}
use Rattle.types.proofs.Choice.{picked, passed}
use Rattle.value.specs.declared.Scalar.{Scalar}
use Rattle.value.specs.declared.Scalar.TheVariants.{AbstractFloat, F32, F16}
use Rattle.value.specs.declared.ShaderStage.{ShaderStage}
use Rattle.value.specs.declared.OperatorError.TheVariants.{AddOverflow, SubOverflow, MulOverflow}
use Rattle.value.specs.Answer.{Result, value, refused_by}
use Rattle.value.specs.Pattern.{pick, nan_pattern, kept_of}
use Rattle.value.specs.Scalar.{finite_of}
use Rattle.arithmetic.specs.Arithmetic.{finite_or, half_of, in_exec, no_div}
use Rattle.arithmetic.specs.Rounded.{Answers, abstract_float, f32, f16, f16_once, AddRounded, SubRounded, MulRounded, DivRounded, DivByZeroRefused, HalfIs}
use Rattle.arithmetic.proofs.Negated.{half_reads}

-- ---- what is rounded once answers where it is finite, and else the other
settled_once : (k : Kind) (s : Bool) (x : Exact) (r : Float) (make : Float → Scalar) (other : Float → Result) → RoundedOnce k s x r → finite_of (make r) ≡ finite r
    → RoundedOr k s x (λ v. value (make v)) (other (inf s)) (finite_or (make r) (other r))
settled_once k s x r make other h q =
    answered k s x r (λ v. value (make v)) h
    (λ f. sym (picked (value (make r)) (other r) (q ∙ f)))
    (λ e. sym (passed (value (make r)) (other r) (q ∙ ap finite e)) ∙ ap other e)

-- ---- one F32 operation, w, rounded to F16
abbrev halved : Float → Scalar
halved r = F16 (to_bits half r)

module _ (s : Bool) (x : Exact) (w : Float) (other : Float → Result) (h : RoundedOnce single s x w) (small : TooLarge single x → ⊥) where
  nearest_single : NearestTo single s x w
  nearest_single = let (v, n, e) = h.within small in subst (NearestTo single s x) (sym e) n

  again : RoundedOnce half s (exact_of w) (convert half w)
  again = subst (λ (t : Bool). RoundedOnce half t (exact_of w) (convert half w)) nearest_single.sign (conversion_rounded half half_sized w nearest_single.is_finite)

  reread : finite (of_bits half (to_bits half (convert half w))) ≡ finite (convert half w)
  reread = ap finite (convert_back half half_sized w nearest_single.is_finite)

  settled_twice : RoundedTwice s x (λ v. value (halved v)) (other (inf s)) (finite_or (halved (convert half w)) (other (convert half w)))
  settled_twice =
      record {
        between = w;
        first = nearest_single;
        second = settled_once half s (exact_of w) (convert half w) halved other again reread;
      }

  -- and where the two roundings are one
  settled_whole : RoundedOnce half s x (convert half w) → RoundedOr half s x (λ v. value (halved v)) (other (inf s)) (finite_or (halved (convert half w)) (other (convert half w)))
  settled_whole r = settled_once half s x (convert half w) halved other r reread

-- ---- AbstractFloat
pub add_float : AddRounded abstract_float
add_float stage x y f g =
    settled_once double (sum_sign x y) (plus (exact_of x) (exact_of y)) (add double x y) AbstractFloat (λ v. refused_by AddOverflow) (sum_rounded double double_sized x y f g) refl

pub sub_float : SubRounded abstract_float
sub_float stage x y f g =
    settled_once double (difference_sign x y) (minus (exact_of x) (exact_of y)) (sub double x y) AbstractFloat (λ v. refused_by SubOverflow) (difference_rounded double double_sized x y f g) refl

pub mul_float : MulRounded abstract_float
mul_float stage x y f g =
    settled_once double (product_sign x y) (times (exact_of x) (exact_of y)) (mul double x y) AbstractFloat (λ v. refused_by MulOverflow) (product_rounded double double_sized x y f g) refl

pub div_float : DivRounded abstract_float
div_float stage x y f g n =
    settled_once double (product_sign x y) (over (exact_of x) (exact_of y)) (div double x y) AbstractFloat (λ v. no_div stage (AbstractFloat x)) (quotient_rounded double double_sized x y f g n) refl

pub zero_float : DivByZeroRefused abstract_float
zero_float stage x y f g z = sym (passed (value (AbstractFloat (div double x y))) (no_div stage (AbstractFloat x)) (zero_divisor double x y f g z))

-- ---- F32
pub add_f32 : AddRounded f32
add_f32 stage x y f g =
    settled_once single (sum_sign x y) (plus (exact_of x) (exact_of y)) (add single x y) F32 (λ v. in_exec stage (refused_by AddOverflow) (F32 v)) (sum_rounded single single_sized x y f g) refl

pub sub_f32 : SubRounded f32
sub_f32 stage x y f g =
    settled_once single (difference_sign x y) (minus (exact_of x) (exact_of y)) (sub single x y) F32 (λ v. in_exec stage (refused_by SubOverflow) (F32 v))
    (difference_rounded single single_sized x y f g) refl

pub mul_f32 : MulRounded f32
mul_f32 stage x y f g =
    settled_once single (product_sign x y) (times (exact_of x) (exact_of y)) (mul single x y) F32 (λ v. in_exec stage (refused_by MulOverflow) (F32 v)) (product_rounded single single_sized x y f g) refl

pub div_f32 : DivRounded f32
div_f32 stage x y f g n =
    settled_once single (product_sign x y) (over (exact_of x) (exact_of y)) (div single x y) F32 (λ v. no_div stage (F32 x)) (quotient_rounded single single_sized x y f g n) refl

pub zero_f32 : DivByZeroRefused f32
zero_f32 stage x y f g z = sym (passed (value (F32 (div single x y))) (no_div stage (F32 x)) (zero_divisor single x y f g z))

-- ---- F16
abbrev overflow : ShaderStage → Result → Float → Result
overflow stage why v = in_exec stage why (halved v)

pub add_f16 : AddRounded f16
add_f16 stage p q f g =
    let x = of_bits half p in
    let y = of_bits half q in
    settled_twice (sum_sign x y) (plus (exact_of x) (exact_of y)) (add single x y) (overflow stage (refused_by AddOverflow)) (sum_rounded single single_sized x y f g) (half_sum_small p q f g)

pub sub_f16 : SubRounded f16
sub_f16 stage p q f g =
    let x = of_bits half p in
    let y = of_bits half q in
    settled_twice (difference_sign x y) (minus (exact_of x) (exact_of y)) (sub single x y) (overflow stage (refused_by SubOverflow)) (difference_rounded single single_sized x y f g)
    (half_difference_small p q f g)

pub mul_f16 : MulRounded f16
mul_f16 stage p q f g =
    let x = of_bits half p in
    let y = of_bits half q in
    settled_twice (product_sign x y) (times (exact_of x) (exact_of y)) (mul single x y) (overflow stage (refused_by MulOverflow)) (product_rounded single single_sized x y f g) (half_product_small p q f g)

-- the left operand of `/` is handed back with its NaN as it is kept: a finite one as it is
finite_kept : (b : ℕ) → finite (of_bits half b) ≡ true → kept_of 6 b ≡ b
unfolding kept_of
finite_kept b f = go (nan_pattern half b) refl
  where
    go : (t : Bool) → nan_pattern half b ≡ t → pick t 0x7E00 b ≡ b
    go true e = absurd (false≢true (sym (ap finite (half_reads b (ltb-true 31744 (b % 32768) e))) ∙ f))
    go false e = refl

by_kept : (P : Result → Type 0) (stage : ShaderStage) (p q : ℕ) → finite (of_bits half p) ≡ true
    → P (finite_or (half_of div p q) (no_div stage (F16 p))) → P (finite_or (half_of div p q) (no_div stage (F16 (kept_of 6 p))))
by_kept P stage p q f h = subst (λ (k : ℕ). P (finite_or (half_of div p q) (no_div stage (F16 k)))) (sym (finite_kept p f)) h

pub div_f16 : DivRounded f16
div_f16 stage p q f g n =
    let x = of_bits half p in
    let y = of_bits half q in
    by_kept (Answers f16 (product_sign x y) (over (exact_of x) (exact_of y)) (no_div stage (F16 p))) stage p q f
    (settled_twice (product_sign x y) (over (exact_of x) (exact_of y)) (div single x y) (λ v. no_div stage (F16 p)) (quotient_rounded single single_sized x y f g n) (half_quotient_small p q f g n))

pub zero_f16 : DivByZeroRefused f16
zero_f16 stage p q f g z =
    sym (passed (value (half_of div p q)) (no_div stage (F16 (kept_of 6 p)))
    (half_not_finite (div single (of_bits half p) (of_bits half q)) (zero_divisor single (of_bits half p) (of_bits half q) f g z)))
    ∙ ap (λ (k : ℕ). no_div stage (F16 k)) (finite_kept p f)

-- ---- F16, the two roundings as one
pub add_f16_once : AddRounded f16_once
add_f16_once stage p q f g =
    let x = of_bits half p in
    let y = of_bits half q in
    settled_whole (sum_sign x y) (plus (exact_of x) (exact_of y)) (add single x y) (overflow stage (refused_by AddOverflow)) (sum_rounded single single_sized x y f g)
    (half_sum_small p q f g) (half_sum p q f g)

pub sub_f16_once : SubRounded f16_once
sub_f16_once stage p q f g =
    let x = of_bits half p in
    let y = of_bits half q in
    settled_whole (difference_sign x y) (minus (exact_of x) (exact_of y)) (sub single x y) (overflow stage (refused_by SubOverflow)) (difference_rounded single single_sized x y f g)
    (half_difference_small p q f g) (half_difference p q f g)

pub mul_f16_once : MulRounded f16_once
mul_f16_once stage p q f g =
    let x = of_bits half p in
    let y = of_bits half q in
    settled_whole (product_sign x y) (times (exact_of x) (exact_of y)) (mul single x y) (overflow stage (refused_by MulOverflow)) (product_rounded single single_sized x y f g)
    (half_product_small p q f g) (half_product p q f g)

pub div_f16_once : DivRounded f16_once
div_f16_once stage p q f g n =
    let x = of_bits half p in
    let y = of_bits half q in
    by_kept (Answers f16_once (product_sign x y) (over (exact_of x) (exact_of y)) (no_div stage (F16 p))) stage p q f
    (settled_whole (product_sign x y) (over (exact_of x) (exact_of y)) (div single x y) (λ v. no_div stage (F16 p)) (quotient_rounded single single_sized x y f g n)
    (half_quotient_small p q f g n) (half_quotient p q f g n))

-- ---- F16's own operators
module _ (p q : ℕ) (f : finite (of_bits half p) ≡ true) (g : finite (of_bits half q) ≡ true) where
  abbrev X : Float
  X = of_bits half p

  abbrev Y : Float
  Y = of_bits half q

  C-pos : 0 < (exact_of X).bottom * (exact_of Y).bottom
  C-pos = mul-pos (bottom_pos X) (bottom_pos Y)

  pub half_add : HalfIs add p q
  half_add =
      one_rounded half half_sized (sum_sign X Y) (plus (exact_of X) (exact_of Y)) C-pos (convert half (add single X Y)) (add half X Y) (half_sum p q f g) (sum_rounded half half_sized X Y f g)

  pub half_sub : HalfIs sub p q
  half_sub =
      one_rounded half half_sized (difference_sign X Y) (minus (exact_of X) (exact_of Y)) C-pos (convert half (sub single X Y)) (sub half X Y) (half_difference p q f g)
      (difference_rounded half half_sized X Y f g)

  pub half_mul : HalfIs mul p q
  half_mul =
      one_rounded half half_sized (product_sign X Y) (times (exact_of X) (exact_of Y)) C-pos (convert half (mul single X Y)) (mul half X Y) (half_product p q f g)
      (product_rounded half half_sized X Y f g)

  pub half_div : ((exact_of Y).top ≡ pos 0 → ⊥) → HalfIs div p q
  half_div n =
      one_rounded half half_sized (product_sign X Y) (over (exact_of X) (exact_of Y)) (mul-pos (size_pos (exact_of Y).top n) (bottom_pos X)) (convert half (div single X Y)) (div half X Y)
      (half_quotient p q f g n) (quotient_rounded half half_sized X Y f g n)
