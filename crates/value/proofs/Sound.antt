-- A scalar that its type holds, and its pattern: proper, and a NaN only as kept. Assumes nothing.
use Prim.Native.Nat.{ℕ, suc, ◌<◌}
use mathlib.Core.Path.{◌≡◌, refl, sym, subst, ◌∙◌}
use mathlib.Core.Bool.{Bool, true, false, not}
use native.Mathlib.Omega.{arith}
use lib.Dec.{T, eqb}
use lib.IntN.{ℤ}
use lib.Ieee.{Float, Format, binary32, binary64, nan, inf, fin, is_nan, nan_bits, fits}
use lib.Ieee.Bits.{to_bits-lt, of_bits-fits, nan_bits_above}
use borrow.Author.Tests.{lt-ltb, ltb-true}
use mir.Syntax.{Width, w16, w32, w64}
use mir.Val.{Fits, SFits, to_z, of_z}
use mir.ValLaws.{to_z-Fits}
use Rattle.std.specs.Prelude.{Option, Some, None}
use Rattle.integer.proofs.Wrap.{bits_wrap, wrap_u_fits}
use Rattle.rounding.specs.Kind.{Kind, half, single, double}
use Rattle.rounding.specs.Bits.{to_bits, of_bits}
use Rattle.rounding.proofs.Same.{of, to_bits_is, of_bits_is}
use Rattle.rounding.proofs.Nan.{no_nan_bits}
use Rattle.value.specs.declared.Scalar.{Scalar}
use Rattle.value.specs.declared.Scalar.TheVariants.{Bool as bool, AbstractInt, AbstractFloat, I32, U32, F32, F16}
use Rattle.value.specs.declared.Pair.{Pair}
use Rattle.value.specs.declared.Pair.TheVariants as P
use Rattle.value.specs.Pattern.{pick, proper_of, nan_pattern, one_nan, kept_of}
use Rattle.value.specs.Scalar.{type_of, bits_of, kept_scalar, scalar_of}
use Rattle.value.specs.Pair.{cases, pair_of, both_of}
use Rattle.types.proofs.Choice.{passed}
use Rattle.types.proofs.Rows.{by_code}

abbrev pub Sound : Scalar → Type 0
Sound (bool x) = Unit {0}
Sound (AbstractInt x) = SFits w64 x
Sound (AbstractFloat x) = T (fits binary64 x)
Sound (I32 x) = SFits w32 x
Sound (U32 n) = Fits w32 n
Sound (F32 x) = T (fits binary32 x)
Sound (F16 b) = Fits w16 b

-- a scalar of a type, where there is one
abbrev pub OfType : ℕ → Option Scalar → Type 0
OfType ty (Some s) = (type_of s ≡ ty) × Sound s
OfType ty None = Unit {0}

-- the two parts of a pair of a type
abbrev pub Couple : ℕ → Option Pair → Type 0
Couple ty (Some (P.Bool x y)) = ty ≡ 0
Couple ty (Some (P.AbstractInt x y)) = (ty ≡ 1) × (SFits w64 x × SFits w64 y)
Couple ty (Some (P.AbstractFloat x y)) = (ty ≡ 2) × (T (fits binary64 x) × T (fits binary64 y))
Couple ty (Some (P.I32 x y)) = (ty ≡ 3) × (SFits w32 x × SFits w32 y)
Couple ty (Some (P.U32 x y)) = (ty ≡ 4) × (Fits w32 x × Fits w32 y)
Couple ty (Some (P.F32 x y)) = (ty ≡ 5) × (T (fits binary32 x) × T (fits binary32 y))
Couple ty (Some (P.F16 x y)) = (ty ≡ 6) × (Fits w16 x × Fits w16 y)
Couple ty None = Unit {0}

-- ---- one NaN
alike : (t : Bool) {a b : ℕ} → a ≡ b → pick t a b ≡ b
alike true e = e
alike false e = refl

off : (t : Bool) → T (not t) → t ≡ false
off true h = absurd h
off false h = refl

module _ (f : Format) (n : ℕ) (above : (b : ℕ) → nan_bits f b ≡ nan_pattern (of f) b) where
  plain : (x : Float) → T (fits f x) → T (not (is_nan x)) → one_nan (of f) n (to_bits (of f) x) ≡ to_bits (of f) x
  plain x t h =
      sym (passed n (to_bits (of f) x)
      (sym (above (to_bits (of f) x)) ∙ off (nan_bits f (to_bits (of f) x)) (subst (λ (b : ℕ). T (not (nan_bits f b))) (to_bits_is f x) (no_nan_bits f x t h))))

  one_nan_lem : to_bits (of f) nan ≡ n → (x : Float) → T (fits f x) → one_nan (of f) n (to_bits (of f) x) ≡ to_bits (of f) x
  unfolding is_nan
  one_nan_lem e nan t = alike (nan_pattern (of f) (to_bits (of f) nan)) (sym e)
  one_nan_lem e (inf s) t = plain (inf s) t tt
  one_nan_lem e (fin s m d) t = plain (fin s m d) t tt

pub nan_single : to_bits single nan ≡ 0x7FC00000
unfolding to_bits
nan_single = refl

pub nan_double : to_bits double nan ≡ 0x7FF8000000000000
unfolding to_bits
nan_double = refl

-- a pattern that is kept stays
once : (k : Kind) (n b : ℕ) → one_nan k n (one_nan k n b) ≡ one_nan k n b
once k n b = go (nan_pattern k b) refl
  where
    go : (t : Bool) → nan_pattern k b ≡ t → one_nan k n (pick t n b) ≡ pick t n b
    go true e = alike (nan_pattern k n) refl
    go false e = sym (passed n b e)

pub kept_once : (ty b : ℕ) → kept_of ty (kept_of ty b) ≡ kept_of ty b
unfolding kept_of
kept_once ty b =
    by_code (λ ty. kept_of ty (kept_of ty b) ≡ kept_of ty b) refl refl (once double 0x7FF8000000000000 b) refl refl (once single 0x7FC00000 b)
    (once half 0x7E00 b) (λ n. refl) ty

module _ (ty b : ℕ) (h : proper_of ty b ≡ true) where
  kept_either : (n : ℕ) (t : Bool) → proper_of ty n ≡ true → proper_of ty (pick t n b) ≡ true
  kept_either n true e = e
  kept_either n false e = h

pub kept_proper : (ty b : ℕ) → proper_of ty b ≡ true → proper_of ty (kept_of ty b) ≡ true
unfolding kept_of
kept_proper ty b =
    by_code (λ ty. proper_of ty b ≡ true → proper_of ty (kept_of ty b) ≡ true) (λ h. h) (λ h. h)
    (λ h. kept_either 2 b h 0x7FF8000000000000 (nan_pattern double b) refl) (λ h. h) (λ h. h)
    (λ h. kept_either 5 b h 0x7FC00000 (nan_pattern single b) refl) (λ h. kept_either 6 b h 0x7E00 (nan_pattern half b) refl) (λ n h. h) ty

-- ---- a sound scalar's pattern
pub bits_fit : (w : Width) (x : ℤ) → SFits w x → Fits w (of_z w x)
bits_fit w x f = subst (Fits w) (sym (bits_wrap w x f)) (wrap_u_fits w x)

kept_half : (b : ℕ) → Fits w16 b → Fits w16 (kept_of 6 b)
unfolding kept_of
kept_half b f = go (nan_pattern half b)
  where
    go : (t : Bool) → Fits w16 (pick t 0x7E00 b)
    go true = record { fits = omega arith }
    go false = f

pub bits_proper : (s : Scalar) → Sound s → proper_of (type_of s) (bits_of s) ≡ true
bits_proper (bool true) h = refl
bits_proper (bool false) h = refl
bits_proper (AbstractInt x) h = lt-ltb (of_z w64 x) 18446744073709551616 (bits_fit w64 x h).fits
bits_proper (AbstractFloat x) h =
    lt-ltb (to_bits double x) 18446744073709551616 (subst (λ (n : ℕ). n < 18446744073709551616) (to_bits_is binary64 x) (to_bits-lt binary64 x h))
bits_proper (I32 x) h = lt-ltb (of_z w32 x) 4294967296 (bits_fit w32 x h).fits
bits_proper (U32 n) h = lt-ltb n 4294967296 h.fits
bits_proper (F32 x) h = lt-ltb (to_bits single x) 4294967296 (subst (λ (n : ℕ). n < 4294967296) (to_bits_is binary32 x) (to_bits-lt binary32 x h))
bits_proper (F16 b) h = lt-ltb (kept_of 6 b) 65536 (kept_half b h).fits

pub bits_kept : (s : Scalar) → Sound s → kept_of (type_of s) (bits_of s) ≡ bits_of s
unfolding kept_of
bits_kept (bool x) h = refl
bits_kept (AbstractInt x) h = refl
bits_kept (AbstractFloat x) h = one_nan_lem binary64 0x7FF8000000000000 (nan_bits_above binary64) nan_double x h
bits_kept (I32 x) h = refl
bits_kept (U32 n) h = refl
bits_kept (F32 x) h = one_nan_lem binary32 0x7FC00000 (nan_bits_above binary32) nan_single x h
bits_kept (F16 b) h = once half 0x7E00 b

-- ---- a scalar with its NaN kept
pub kept_sound : (s : Scalar) → Sound s → Sound (kept_scalar s)
kept_sound (bool x) h = h
kept_sound (AbstractInt x) h = h
kept_sound (AbstractFloat x) h = h
kept_sound (I32 x) h = h
kept_sound (U32 n) h = h
kept_sound (F32 x) h = h
kept_sound (F16 b) h = kept_half b h

pub kept_type : (s : Scalar) → type_of (kept_scalar s) ≡ type_of s
kept_type s = elim s as (λ s. type_of (kept_scalar s) ≡ type_of s) [ bool x ↦ refl | AbstractInt x ↦ refl | AbstractFloat x ↦ refl | I32 x ↦ refl | U32 x ↦ refl | F32 x ↦ refl | F16 x ↦ refl ]

-- it has the same bits
pub kept_bits : (s : Scalar) → bits_of (kept_scalar s) ≡ bits_of s
kept_bits (bool x) = refl
kept_bits (AbstractInt x) = refl
kept_bits (AbstractFloat x) = refl
kept_bits (I32 x) = refl
kept_bits (U32 n) = refl
kept_bits (F32 x) = refl
kept_bits (F16 b) = kept_once 6 b

-- ---- the scalar of a pattern is sound
pub found : (t : Bool) (s : Scalar) (ty : ℕ) → (t ≡ true → (type_of s ≡ ty) × Sound s) → OfType ty (pick t (Some s) None)
found true s ty h = h refl
found false s ty h = tt

unfound : (t : Bool) (ty : ℕ) → OfType ty (pick t None None)
unfound true ty = tt
unfound false ty = tt

read_fits : (f : Format) (b : ℕ) → T (fits f (of_bits (of f) b))
read_fits f b = subst (λ (x : Float). T (fits f x)) (of_bits_is f b) (of_bits-fits f b)

pub of_type : (ty b : ℕ) → OfType ty (scalar_of ty b)
of_type ty b =
    by_code (λ ty. OfType ty (scalar_of ty b)) (found (proper_of 0 b) (bool (eqb b 1)) 0 (λ e. (refl, tt)))
    (found (proper_of 1 b) (AbstractInt (to_z w64 b)) 1 (λ e. (refl, to_z-Fits w64 b (record { fits = ltb-true b 18446744073709551616 e }))))
    (found (proper_of 2 b) (AbstractFloat (of_bits double b)) 2 (λ e. (refl, read_fits binary64 b)))
    (found (proper_of 3 b) (I32 (to_z w32 b)) 3 (λ e. (refl, to_z-Fits w32 b (record { fits = ltb-true b 4294967296 e }))))
    (found (proper_of 4 b) (U32 b) 4 (λ e. (refl, record { fits = ltb-true b 4294967296 e })))
    (found (proper_of 5 b) (F32 (of_bits single b)) 5 (λ e. (refl, read_fits binary32 b)))
    (found (proper_of 6 b) (F16 (kept_of 6 b)) 6 (λ e. (refl, kept_half b (record { fits = ltb-true b 65536 e }))))
    (λ n. unfound (proper_of (suc (suc (suc (suc (suc (suc (suc n))))))) b) (suc (suc (suc (suc (suc (suc (suc n)))))))) ty

cases_couple : (Q : Option Pair → Type 0) (s : Scalar) {b : Bool → Option Pair} {ai : ℤ → Option Pair} {af : Float → Option Pair} {i : ℤ → Option Pair} {u : ℕ → Option Pair} {f : Float → Option Pair} {h : ℕ → Option Pair}
    → ((y : Bool) → Q (b y)) → ((y : ℤ) → SFits w64 y → Q (ai y)) → ((y : Float) → T (fits binary64 y) → Q (af y)) → ((y : ℤ) → SFits w32 y → Q (i y))
    → ((y : ℕ) → Fits w32 y → Q (u y)) → ((y : Float) → T (fits binary32 y) → Q (f y)) → ((y : ℕ) → Fits w16 y → Q (h y))
    → Sound s → Q (cases s b ai af i u f h)
cases_couple Q (bool y) p0 p1 p2 p3 p4 p5 p6 g = p0 y
cases_couple Q (AbstractInt y) p0 p1 p2 p3 p4 p5 p6 g = p1 y g
cases_couple Q (AbstractFloat y) p0 p1 p2 p3 p4 p5 p6 g = p2 y g
cases_couple Q (I32 y) p0 p1 p2 p3 p4 p5 p6 g = p3 y g
cases_couple Q (U32 y) p0 p1 p2 p3 p4 p5 p6 g = p4 y g
cases_couple Q (F32 y) p0 p1 p2 p3 p4 p5 p6 g = p5 y g
cases_couple Q (F16 y) p0 p1 p2 p3 p4 p5 p6 g = p6 y g

pair_couple : (ty : ℕ) (x s : Scalar) → (type_of x ≡ ty) × Sound x → Sound s → Couple ty (pair_of x s)
pair_couple ty (bool x) s p q = cases_couple (Couple ty) s (λ y. sym p.0) (λ y g. tt) (λ y g. tt) (λ y g. tt) (λ y g. tt) (λ y g. tt) (λ y g. tt) q
pair_couple ty (AbstractInt x) s p q = cases_couple (Couple ty) s (λ y. tt) (λ y g. (sym p.0, (p.1, g))) (λ y g. tt) (λ y g. tt) (λ y g. tt) (λ y g. tt) (λ y g. tt) q
pair_couple ty (AbstractFloat x) s p q = cases_couple (Couple ty) s (λ y. tt) (λ y g. tt) (λ y g. (sym p.0, (p.1, g))) (λ y g. tt) (λ y g. tt) (λ y g. tt) (λ y g. tt) q
pair_couple ty (I32 x) s p q = cases_couple (Couple ty) s (λ y. tt) (λ y g. tt) (λ y g. tt) (λ y g. (sym p.0, (p.1, g))) (λ y g. tt) (λ y g. tt) (λ y g. tt) q
pair_couple ty (U32 x) s p q = cases_couple (Couple ty) s (λ y. tt) (λ y g. tt) (λ y g. tt) (λ y g. tt) (λ y g. (sym p.0, (p.1, g))) (λ y g. tt) (λ y g. tt) q
pair_couple ty (F32 x) s p q = cases_couple (Couple ty) s (λ y. tt) (λ y g. tt) (λ y g. tt) (λ y g. tt) (λ y g. tt) (λ y g. (sym p.0, (p.1, g))) (λ y g. tt) q
pair_couple ty (F16 x) s p q = cases_couple (Couple ty) s (λ y. tt) (λ y g. tt) (λ y g. tt) (λ y g. tt) (λ y g. tt) (λ y g. tt) (λ y g. (sym p.0, (p.1, g))) q

pub couple : (ty : ℕ) (x y : Option Scalar) → OfType ty x → OfType ty y → Couple ty (both_of x y)
couple ty (Some x) (Some y) p q = pair_couple ty x y p q.1
couple ty (Some x) None p q = tt
couple ty None y p q = tt
