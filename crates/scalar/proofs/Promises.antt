-- What the layer above may rely on, of every step and every conversion. Assumes nothing.
use Prim.Native.Nat.{ℕ, zero, suc, ◌<◌}
use mathlib.Core.Path.{◌≡◌, refl, subst, ◌∙◌}
use mathlib.Core.Bool.{Bool, true, false, not, ◌&&◌, ◌||◌, beq, false≢true}
use mathlib.Core.List.{List, [], ◌∷◌}
use native.Mathlib.Omega.{arith}
use lib.Dec.{eqb, leb}
use lib.IntN.{ℤ, pos, negsuc, nat_abs}
use lib.Signed.{lt_z, le_z}
use lib.ListN.{get_or}
use lib.Ieee.{binary32, binary64, eq, ne, lt, le}
use borrow.Author.Tests.{eqb-true, ltb-true, leb-true, lt-leb}
use mir.Syntax.{w32}
use mir.Val.{Fits}
use Rattle.std.specs.Prelude.{Option, Some, None, Ok, Err, option_and_then}
use Rattle.integer.specs.Equal.{eq_z}
use Rattle.integer.specs.Range.{in_signed}
use Rattle.rounding.specs.Kind.{half, single, double, convert, of_integer}
use Rattle.rounding.specs.Bits.{to_bits, finite}
use Rattle.rounding.proofs.Units.{half_sized}
use Rattle.rounding.proofs.Width.{bits_lt}
use Rattle.rounding.proofs.Back.{convert_fits}
use Rattle.rounding.proofs.Integer.{integer_lt, integer_fits}
use Rattle.value.specs.declared.Scalar.{Scalar}
use Rattle.value.specs.declared.Scalar.TheVariants.{Bool as bool, AbstractInt, AbstractFloat, I32, U32, F32, F16}
use Rattle.value.specs.declared.ShaderStage.{ShaderStage}
use Rattle.value.specs.declared.Pair.{Pair}
use Rattle.value.specs.Answer.{Result, value, refused, shift_refused, unary, binary, stage_of}
use Rattle.value.specs.Pattern.{pick, proper_of, kept_of}
use Rattle.value.specs.Scalar.{type_of, finite_of, bits_of, kept_scalar, scalar_of}
use Rattle.conversion.specs.Convert.{stands, convert_to, targets, in_natural, float_to_f32, float_to_f16}
use Rattle.value.specs.Pair.{both_of}
use Rattle.bitwise.specs.Shift.{shl_of, shr_of}
use Rattle.scalar.specs.Step.{Step, stepped, unaries, unary_of, on_scalar, unary_step_of, binaries, binary_of, shift_of, step_of, converted, conv_of}
use Rattle.types.specs.Types.{result_type}
use Rattle.types.proofs.Choice.{passed}
use Rattle.value.proofs.Sound.{Sound, OfType, Couple, of_type, found, couple, bits_proper, bits_kept, kept_sound, kept_type}
use Rattle.scalar.proofs.Keeps.{Refuses, Kept, chosen, no_unary, no_binary, signed_in}
use Rattle.scalar.proofs.Keeps.{logical_kept, add_kept, sub_kept, mul_kept, div_kept, rem_kept}
use Rattle.scalar.proofs.Keeps.{equality_kept, order_kept, bitor_kept, bitand_kept, bitxor_kept, not_kept, neg_kept, bitnot_kept, shl_kept, shr_kept}

-- a pattern that is proper, and a NaN only as kept
abbrev pub Fine : ℕ → ℕ → Type 0
Fine ty b = (proper_of ty b ≡ true) × (kept_of ty b ≡ b)

abbrev pub Stepped : ℕ → Step → Type 0
Stepped ty (Ok (t, b)) = (t ≡ ty) × Fine ty b
Stepped ty (Err r) = Refuses r

abbrev pub Converted : ℕ → Option ℕ → Type 0
Converted ty (Some b) = Fine ty b
Converted ty None = Unit {0}

fine : (ty : ℕ) (s : Scalar) → (type_of s ≡ ty) × Sound s → Fine ty (bits_of s)
fine ty s k = subst (λ (t : ℕ). Fine t (bits_of s)) k.0 (bits_proper s k.1, bits_kept s k.1)

steps : (ty : ℕ) (r : Result) → Kept ty r → Stepped ty (stepped r)
steps ty (value s) k = (k.0, fine ty s k)
steps ty (refused r) k = k
steps ty (shift_refused n d l) k = k

-- ---- the entries of a table, one after the other
abbrev pub Entries : {X : Type 0} → (ℕ → X → Type 0) → List X → Type 0 → Type 0
Entries Q [] R = R
Entries Q (x ∷ l) R = Q 0 x → Entries (λ i. Q (suc i)) l R

pub later : {X : Type 0} (Q : ℕ → X → Type 0) (l : List X) {R S : Type 0} → (R → S) → Entries Q l R → Entries Q l S
later Q [] f r = f r
later Q (x ∷ l) f e = λ q. later (λ i. Q (suc i)) l f (e q)

-- what holds of each entry at its place, and of the default at every place, holds of what a table gives
pub entry : {X : Type 0} (Q : ℕ → X → Type 0) (l : List X) (d : X) → ((i : ℕ) → Q i d) → Entries Q l ((i : ℕ) → Q i (get_or l i d))
entry Q [] d b = b
entry Q (x ∷ l) d b = λ q. later (λ i. Q (suc i)) l (first q) (entry (λ i. Q (suc i)) l d (λ i. b (suc i)))
  where
    first : Q 0 x → ((i : ℕ) → Q (suc i) (get_or l i d)) → (i : ℕ) → Q i (get_or (x ∷ l) i d)
    first q f zero = q
    first q f (suc i) = f i

-- ---- steps
binary_kept : (op : ℕ) (stage : ShaderStage) (ty : ℕ) (p : Option Pair) → Couple ty p → Kept (result_type op ty) (binary_of op stage p)
binary_kept op stage ty p h =
    entry (λ i r. Kept (result_type i ty) r) (binary ∷ binaries stage p) binary (λ i. no_binary)
    no_binary (logical_kept ◌||◌ ty p h) (logical_kept ◌&&◌ ty p h)
    (add_kept stage ty p h) (sub_kept stage ty p h) (mul_kept stage ty p h) (div_kept stage ty p h) (rem_kept stage ty p h)
    (equality_kept eq_z eq beq p) (equality_kept (λ x y. not (eq_z x y)) ne (λ x y. not (beq x y)) p)
    (order_kept lt_z lt p) (order_kept le_z le p) (order_kept (λ x y. lt_z y x) (λ x y. lt y x) p) (order_kept (λ x y. le_z y x) (λ x y. le y x) p)
    (bitor_kept ty p h) (bitand_kept ty p h) (bitxor_kept ty p h) op

shift_kept : (op : ℕ) (stage : ShaderStage) (ty : ℕ) (l count : Option Scalar) → OfType ty l → OfType 4 count → Kept ty (shift_of op stage l count)
shift_kept op stage ty (Some s) count h c =
    chosen ty (eqb op 17) (shl_of stage s count) (pick (eqb op 18) (shr_of stage s count) binary) (λ e. shl_kept ty stage s count c h)
    (λ e. chosen ty (eqb op 18) (shr_of stage s count) binary (λ e. shr_kept ty stage s count c h) (λ e. no_binary))
shift_kept op stage ty None count h c = no_binary

past_order : (op ty : ℕ) → leb 17 op ≡ true → ty ≡ result_type op ty
past_order op ty e = passed 0 ty (no_second (leb 8 op) (lt-leb op 13 (omega (arith, leb-true 17 op e))))
  where
    no_second : (a : Bool) {b : Bool} → b ≡ false → (a && b) ≡ false
    no_second true h = h
    no_second false h = refl

-- a step's answer has the result's type and a proper, kept pattern, or is one of 01's refusals
pub step_answers : (op stage ty l r : ℕ) → Stepped (result_type op ty) (step_of op stage ty l r)
unfolding step_of
step_answers op stage ty l r = go (leb 17 op) refl
  where
    shift : Result
    shift = shift_of op (stage_of stage) (scalar_of ty l) (scalar_of 4 r)

    pair : Option Pair
    pair = both_of (scalar_of ty l) (scalar_of ty r)

    go : (t : Bool) → leb 17 op ≡ t → Stepped (result_type op ty) (pick t (stepped shift) (stepped (binary_of op (stage_of stage) pair)))
    go true e =
        subst (λ (t : ℕ). Stepped t (stepped shift)) (past_order op ty e)
        (steps ty shift (shift_kept op (stage_of stage) ty (scalar_of ty l) (scalar_of 4 r) (of_type ty l) (of_type 4 r)))
    go false e =
        steps (result_type op ty) (binary_of op (stage_of stage) pair)
        (binary_kept op (stage_of stage) ty pair (couple ty (scalar_of ty l) (scalar_of ty r) (of_type ty l) (of_type ty r)))

unary_kept : (op ty : ℕ) (f : Option Scalar) → OfType ty f → Kept ty (on_scalar f (unary_of op) unary)
unary_kept op ty (Some s) h =
    entry (λ i r. Kept ty r) (unary ∷ unaries s) unary (λ i. no_unary) no_unary (not_kept ty s h) (neg_kept ty s h) (bitnot_kept ty s h) op
unary_kept op ty None h = no_unary

pub unary_answers : (op ty v : ℕ) → Stepped ty (unary_step_of op ty v)
unfolding unary_step_of
unary_answers op ty v = steps ty (on_scalar (scalar_of ty v) (unary_of op) unary) (unary_kept op ty (scalar_of ty v) (of_type ty v))

-- ---- conversions
natural_fits : (x : ℤ) → in_natural w32 x ≡ true → Fits w32 (nat_abs x)
natural_fits (pos n) e = record { fits = ltb-true n 4294967296 e }
natural_fits (negsuc n) e = absurd (false≢true e)

stands_typed : (to : ℕ) (s : Scalar) → Sound s → OfType to (stands to s)
stands_typed to s h = found (eqb (type_of s) to) (kept_scalar s) to (λ e. (kept_type s ∙ eqb-true (type_of s) to e, kept_sound s h))

half_found : (b : ℕ) → b < 65536 → OfType 6 (pick (finite_of (F16 b)) (Some (F16 b)) None)
half_found b h = found (finite_of (F16 b)) (F16 b) 6 (λ e. (refl, record { fits = h }))

pub convert_typed : (to : ℕ) (s : Scalar) → Sound s → OfType to (convert_to to s)
convert_typed to (bool x) h = stands_typed to (bool x) h
convert_typed to (AbstractInt x) h =
    entry (λ i f. OfType i f) (None ∷ targets x) None (λ i. tt) tt (refl, h)
    (found (finite (of_integer double x)) (AbstractFloat (of_integer double x)) 2 (λ e. (refl, integer_fits binary64 x)))
    (found (in_signed w32 x) (I32 x) 3 (λ e. (refl, signed_in w32 x e)))
    (found (in_natural w32 x) (U32 (nat_abs x)) 4 (λ e. (refl, natural_fits x e)))
    (found (finite (of_integer single x)) (F32 (of_integer single x)) 5 (λ e. (refl, integer_fits binary32 x)))
    (half_found (to_bits half (of_integer half x)) (integer_lt half half_sized x)) to
convert_typed to (AbstractFloat x) h =
    entry (λ i f. OfType i f) (None ∷ None ∷ Some (AbstractFloat x) ∷ None ∷ None ∷ float_to_f32 x ∷ float_to_f16 x ∷ []) None (λ i. tt)
    tt tt (refl, h) tt tt (found (finite (convert single x)) (F32 (convert single x)) 5 (λ e. (refl, convert_fits binary32 x)))
    (half_found (to_bits half (convert half x)) (bits_lt half half_sized x)) to
convert_typed to (I32 x) h = stands_typed to (I32 x) h
convert_typed to (U32 x) h = stands_typed to (U32 x) h
convert_typed to (F32 x) h = stands_typed to (F32 x) h
convert_typed to (F16 x) h = stands_typed to (F16 x) h

converts : (to : ℕ) (f : Option Scalar) → OfType to f → Converted to (converted f)
converts to (Some s) h = fine to s h
converts to None h = tt

-- a conversion's pattern is proper and kept
pub conversion_answers : (from to b : ℕ) → Converted to (conv_of from to b)
unfolding conv_of
conversion_answers from to b = go (scalar_of from b) (of_type from b)
  where
    go : (f : Option Scalar) → OfType from f → Converted to (option_and_then (λ s. converted (convert_to to s)) f)
    go (Some s) h = converts to (convert_to to s) (convert_typed to s h.1)
    go None h = tt
