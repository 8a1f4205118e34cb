-- The product, and the sum with it, from what the steps or the kernels promise. Assumes nothing.
use Prim.Native.Nat.{ℕ, zero, suc, ◌%◌, ◌^◌}
use mathlib.Core.Path.{◌≡◌, refl, sym, ap, subst, ◌∙◌}
use mathlib.Core.Bool.{Bool, true, false, not, ◌&&◌}
use mathlib.Core.Logic.{inl, inr}
use native.Mathlib.Omega.{arith}
use lib.Dec.{T, eqb, ltb}
use lib.IntN.{ℤ, ◌+ℤ◌, ◌*ℤ◌}
use lib.Ieee as Ieee
use lib.Ieee.{Float, Format, binary32, binary64, fits}
use lib.Ieee.Fits.{mul-fits}
use borrow.Author.Tests.{eqb-true, ltb-true, lt-ltb, le-ltb}
use mir.Syntax.{Width, w16, w32, w64}
use mir.Val.{Fits, bits}
use Rattle.std.specs.Prelude.{Some, Ok, Err}
use Rattle.rounding.specs.Kind.{Kind, half, single, double, convert}
use Rattle.rounding.specs.Arithmetic.{add, mul}
use Rattle.rounding.specs.Bits.{to_bits, of_bits, finite}
use Rattle.rounding.proofs.Same.{of, add_is, mul_is}
use Rattle.rounding.proofs.Back.{bits_back}
use Rattle.rounding.proofs.Units.{half_sized}
use Rattle.rounding.proofs.Width.{bits_lt, kept_pattern}
use Rattle.value.specs.declared.Scalar.{Scalar}
use Rattle.value.specs.declared.Scalar.TheVariants.{AbstractFloat, F32, F16}
use Rattle.value.specs.declared.Refusal.{Refusal}
use Rattle.value.specs.declared.OperatorError.TheVariants.{AddOverflow, MulOverflow}
use Rattle.value.specs.Answer.{Result, value, refusal, refused_by, stage_of}
use Rattle.arithmetic.specs.Arithmetic.{settled, half_of, arithmetic}
use Rattle.value.specs.Scalar.{type_of, finite_of, bits_of, scalar_of}
use Rattle.value.specs.Pair.{pair_of, both_of}
use Rattle.value.specs.Pattern.{pick, kept_of, nan_pattern}
use Rattle.scalar.specs.Step.{Step, stepped, step_of, on_bits, checked_of, outcome_of, product_at, sum_at, product_added}
use Rattle.arithmetic.proofs.Arms.{half_arm}
use Rattle.types.proofs.Choice.{picked, passed}
use Rattle.low.proofs.Tests.{both}
use Rattle.arithmetic.proofs.Negated.{half_reads}
use Rattle.value.proofs.Sound.{bits_proper, kept_once}
use Rattle.value.specs.Refusals as No

-- ---- by two steps
module _ (stage ty sum l r : ℕ) {a : Step} (e : a ≡ step_of 5 stage ty l r) where
  -- the product's refusal stands
  pub no_product : {n : Refusal} → a ≡ Err n → a ≡ product_added stage ty sum l r
  unfolding product_added
  no_product h = h ∙ ap (λ (a : Step). on_bits a (step_of 3 stage ty sum)) (sym h ∙ e)

  -- the product's bits go on
  pub with_product : {t b : ℕ} {o : Step} → a ≡ Ok (t, b) → o ≡ step_of 3 stage ty sum b → o ≡ product_added stage ty sum l r
  unfolding product_added
  with_product h k = k ∙ ap (λ (a : Step). on_bits a (step_of 3 stage ty sum)) (sym h ∙ e)

-- ---- by a kernel
-- a float result, as `+` and `*` settle it
abbrev checked : Bool → Result → Scalar → Result
checked s why v = pick (finite_of v) (value v) (pick s why (value v))

-- the codes below 2 are those of the stages that ask for finite results
asks : (stage : ℕ) (why : Result) (v : Scalar) → checked (ltb stage 2) why v ≡ settled (stage_of stage) why v
asks zero why v = refl
asks (suc zero) why v = refl
asks (suc (suc stage)) why v = ap (λ (s : Bool). checked s why v) (le-ltb (suc (suc stage)) 2 (omega arith))

-- the same test the other way round
tested : (s f : Bool) (why v : Result) → pick (s && not f) (stepped why) (stepped v) ≡ stepped (pick f v (pick s why v))
tested true true why v = refl
tested true false why v = refl
tested false true why v = refl
tested false false why v = refl

-- what goes on with the bits alone goes on with the step
goes_on : (t : Bool) (n : Refusal) (ty b : ℕ) (k : ℕ → Step) → pick t (Err n) (k b) ≡ on_bits (pick t (Err n) (Ok (ty, b))) k
goes_on true n ty b k = refl
goes_on false n ty b k = refl

-- A type whose scalars hold an X each, `read` from a pattern of the width w, on which an operator f is worked `by f` in a stage.
pub record Works {X : Type 0} (make : X → Scalar) (read : ℕ → X) (by : (Kind → Float → Float → Float) → X → X → X)
    (w : Width) (stage ty : ℕ) (s : Bool) : Type 0 where
  typed : (x : X) → type_of (make x) ≡ ty
  reads : (b : ℕ) → Fits w b → Some (make (read b)) ≡ scalar_of ty b
  works : (z : ℤ → ℤ → ℤ) (f : Kind → Float → Float → Float) (why : Result) (x y : X)
      → checked s why (make (by f x y)) ≡ arithmetic z f why (stage_of stage) (pair_of (make x) (make y))

module _ {X : Type 0} {make : X → Scalar} {read : ℕ → X} {by : (Kind → Float → Float → Float) → X → X → X} {w : Width} {stage ty : ℕ} {s : Bool}
    (h : Works make read by w stage ty s) where
  -- what is read from a pattern is the scalar of the pattern
  found : (b : ℕ) {x : X} → Fits w b → x ≡ read b → Some (make x) ≡ scalar_of ty b
  found b f e = ap (λ (x : X). Some (make x)) e ∙ h.reads b f

  -- an operator's result p, checked, is its step
  worked : (z : ℤ → ℤ → ℤ) (f : Kind → Float → Float → Float) (why : Result) (l r : ℕ) {x y p : X} {g : Bool} {b : ℕ}
      → Some (make x) ≡ scalar_of ty l → Some (make y) ≡ scalar_of ty r → p ≡ by f x y → g ≡ finite_of (make p) → b ≡ bits_of (make p)
      → pick (s && not g) (stepped why) (Ok (ty, b)) ≡ stepped (arithmetic z f why (stage_of stage) (both_of (scalar_of ty l) (scalar_of ty r)))
  worked z f why l r {x} {y} {p} lx ry m e k =
      (λ i. pick (s && not (e i)) (stepped why) (Ok (sym (h.typed p) i, k i))) ∙ tested s (finite_of (make p)) why (value (make p))
      ∙ ap (λ (p : X). stepped (checked s why (make p))) m ∙ ap stepped (h.works z f why x y)
      ∙ (λ i. stepped (arithmetic z f why (stage_of stage) (both_of (lx i) (ry i))))

  module _ (l r : ℕ) (u : Fits w l) (v : Fits w r) {x y p : X} (lx : x ≡ read l) (ry : y ≡ read r) (m : p ≡ by mul x y) where
    -- the product p, checked
    product : {f : Bool} {b : ℕ} → f ≡ finite_of (make p) → b ≡ bits_of (make p) → checked_of s f 6 ty b ≡ step_of 5 stage ty l r
    unfolding step_of
    product = worked ◌*ℤ◌ mul (refused_by MulOverflow) l r (found l u lx) (found r v ry) m

    -- the sum t with a product that is read back from its bits
    by_kernel : (sum : ℕ) → Fits w sum → {q t : X} → q ≡ read sum → Some (make p) ≡ scalar_of ty (bits_of (make p)) → t ≡ by add q p
        → {o : Step} {f g : Bool} {b : ℕ} → f ≡ finite_of (make p) → g ≡ finite_of (make t) → b ≡ bits_of (make t)
        → o ≡ outcome_of s f g ty b → o ≡ product_added stage ty sum l r
    unfolding product_added step_of
    by_kernel sum d sq back a {f = f} e g k c =
        c ∙ ap (pick (s && not f) (Err (refusal No.MulOverflow 0))) (worked ◌+ℤ◌ add (refused_by AddOverflow) sum (bits_of (make p)) (found sum d sq) back a g k)
        ∙ goes_on (s && not f) (refusal No.MulOverflow 0) ty (bits_of (make p)) (step_of 3 stage ty sum) ∙ ap (λ (a : Step). on_bits a (step_of 3 stage ty sum)) (product e refl)

-- ---- in F32 and F64, where a product is read back because it fits
f32_works : (stage : ℕ) → Works F32 (of_bits single) (λ f. f single) w32 stage 5 (ltb stage 2)
f32_works stage =
    record {
      typed = λ x. refl;
      reads = λ b f. picked _ _ (lt-ltb b 4294967296 f.fits);
      works = λ z f why x y. asks stage why (F32 (f single x y));
    }

-- a value that fits is read back from its bits
f32_back : (x : Float) → T (fits binary32 x) → Some (F32 x) ≡ scalar_of 5 (to_bits single x)
f32_back x t = ap (λ (x : Float). Some (F32 x)) (sym (bits_back binary32 x t)) ∙ picked _ _ (bits_proper (F32 x) t)

product_fits : (g : Format) (x y : Float) → T (fits g (mul (of g) x y))
product_fits g x y = subst (λ (p : Float). T (fits g p)) (mul_is g x y) (mul-fits g x y)

module _ (stage l r : ℕ) (u : Fits w32 l) (v : Fits w32 r) {o : Step} where
  pub f32_times : o ≡ product_at single (ltb stage 2) 5 l r → o ≡ step_of 5 stage 5 l r
  f32_times c = c ∙ product (f32_works stage) l r u v refl refl refl refl refl

  pub f32_added : (sum : ℕ) → Fits w32 sum → o ≡ sum_at single (ltb stage 2) 5 sum l r → o ≡ product_added stage 5 sum l r
  f32_added sum d c =
      by_kernel (f32_works stage) l r u v refl refl refl sum d refl
      (f32_back (mul single (of_bits single l) (of_bits single r)) (product_fits binary32 (of_bits single l) (of_bits single r))) refl refl refl refl c

-- in F64 every stage asks for finite results
f64_works : (stage : ℕ) → Works AbstractFloat (of_bits double) (λ f. f double) w64 stage 2 true
f64_works stage =
    record {
      typed = λ x. refl;
      reads = λ b f. picked _ _ (lt-ltb b 18446744073709551616 f.fits);
      works = λ z f why x y. refl;
    }

f64_back : (x : Float) → T (fits binary64 x) → Some (AbstractFloat x) ≡ scalar_of 2 (to_bits double x)
f64_back x t = ap (λ (x : Float). Some (AbstractFloat x)) (sym (bits_back binary64 x t)) ∙ picked _ _ (bits_proper (AbstractFloat x) t)

module _ (stage l r : ℕ) (u : Fits w64 l) (v : Fits w64 r) {o : Step} where
  pub f64_times : o ≡ product_at double true 2 l r → o ≡ step_of 5 stage 2 l r
  f64_times c = c ∙ product (f64_works stage) l r u v refl refl refl refl refl

  pub f64_added : (sum : ℕ) → Fits w64 sum → o ≡ sum_at double true 2 sum l r → o ≡ product_added stage 2 sum l r
  f64_added sum d c =
      by_kernel (f64_works stage) l r u v refl refl refl sum d refl
      (f64_back (mul double (of_bits double l) (of_bits double r)) (product_fits binary64 (of_bits double l) (of_bits double r))) refl refl refl refl c

-- ---- in F16, by bits
-- any NaN's pattern is read as the kept one
half_kept : (b : ℕ) → of_bits half b ≡ of_bits half (kept_of 6 b)
unfolding kept_of
half_kept b = go (nan_pattern half b) refl
  where
    go : (t : Bool) → nan_pattern half b ≡ t → of_bits half b ≡ of_bits half (pick t 0x7E00 b)
    go true e = half_reads b (ltb-true 31744 (b % 32768) e) ∙ sym (half_reads 0x7E00 (omega arith))
    go false e = refl

-- a float's bits in F16, and that they are kept and proper
abbrev to_half : Float → ℕ
to_half v = to_bits half (convert half v)

rounded_kept : (v : Float) → to_half v ≡ kept_of 6 (to_half v)
unfolding kept_of
rounded_kept v =
    elim (kept_pattern half half_sized v) [ inl e ↦ e ∙ ap (λ (b : ℕ). pick (nan_pattern half b) 0x7E00 b) (sym e) | inr h ↦ passed _ _ (le-ltb 31744 _ h) ]

module _ {b : ℕ} (v : Float) (e : b ≡ to_half v) where
  kept : b ≡ kept_of 6 b
  kept = e ∙ rounded_kept v ∙ ap (kept_of 6) (sym e)

  kept_back : Some (F16 b) ≡ scalar_of 6 (kept_of 6 b)
  kept_back =
      ap (λ (b : ℕ). Some (F16 b)) (kept ∙ sym (kept_once 6 b))
      ∙ picked _ _ (bits_proper (F16 b) (subst (Fits w16) (sym e) (record { fits = bits_lt half half_sized v })))

half_works : (stage : ℕ) → Works F16 (kept_of 6) (λ f x y. to_half (f single (of_bits half x) (of_bits half y))) w16 stage 6 (ltb stage 2)
half_works stage =
    record {
      typed = λ x. refl;
      reads = λ b f. picked _ _ (lt-ltb b 65536 f.fits);
      works = λ z f why x y. asks stage why (half_of f x y);
    }

module _ (stage l r : ℕ) (u : Fits w16 l) (v : Fits w16 r) {x y : Float} {p : ℕ}
    (lx : x ≡ of_bits half l) (ry : y ≡ of_bits half r) (m : p ≡ to_half (Ieee.mul binary32 x y)) where
  by_halves : p ≡ to_half (mul single (of_bits half (kept_of 6 l)) (of_bits half (kept_of 6 r)))
  by_halves = half_arm mul (mul_is binary32) (kept_of 6 l) (kept_of 6 r) m (lx ∙ half_kept l) (ry ∙ half_kept r)

  pub half_times : {o : Step} {f : Bool} → f ≡ finite (of_bits half p) → o ≡ checked_of (ltb stage 2) f 6 6 p → o ≡ step_of 5 stage 6 l r
  half_times e c = c ∙ product (half_works stage) l r u v refl refl by_halves e (kept (Ieee.mul binary32 x y) m)

  -- a product is read back because its bits are kept
  pub half_added : (sum : ℕ) → Fits w16 sum → {o : Step} {f g : Bool} {w q : Float} {t : ℕ} → w ≡ of_bits half sum → q ≡ of_bits half p
      → t ≡ to_half (Ieee.add binary32 w q) → f ≡ finite (of_bits half p) → g ≡ finite (of_bits half t)
      → o ≡ outcome_of (ltb stage 2) f g 6 t → o ≡ product_added stage 6 sum l r
  half_added sum d {w = w} {q} sw pq a e k =
      by_kernel (half_works stage) l r u v refl refl by_halves sum d refl (kept_back (Ieee.mul binary32 x y) m)
      (half_arm add (add_is binary32) (kept_of 6 sum) p a (sw ∙ half_kept sum) pq) e k (kept (Ieee.add binary32 w q) a)

-- ---- the type and the widths of the patterns, as the tests leave them
-- one pattern's test, after another test
held : (w : Width) (t : Bool) (a : ℕ) → (t && ltb a (2 ^ bits w)) ≡ true → (t ≡ true) × Fits w a
held w t a h = let x = both t (ltb a (2 ^ bits w)) h in (x.0, record { fits = ltb-true a (2 ^ bits w) x.1 })

pub record Fitting (w : Width) (ty key a b : ℕ) : Type 0 where
  pub typed : ty ≡ key
  pub first : Fits w a
  pub second : Fits w b

module _ (w : Width) (ty key a b : ℕ) where
  pub fitting : (eqb ty key && ltb a (2 ^ bits w) && ltb b (2 ^ bits w)) ≡ true → Fitting w ty key a b
  fitting h =
      let y = held w (eqb ty key && ltb a (2 ^ bits w)) b h in
      let x = held w (eqb ty key) a y.0 in
      record { typed = eqb-true ty key x.0; first = x.1; second = y.1 }

  pub fitting_three : (c : ℕ) → (eqb ty key && ltb a (2 ^ bits w) && ltb b (2 ^ bits w) && ltb c (2 ^ bits w)) ≡ true → Fitting w ty key a b × Fits w c
  fitting_three c h = let x = held w (eqb ty key && ltb a (2 ^ bits w) && ltb b (2 ^ bits w)) c h in (fitting x.0, x.1)
