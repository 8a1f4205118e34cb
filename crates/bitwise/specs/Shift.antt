-- 01, Operators, "Shifts". Assumes nothing.
use Rattle.std.specs.Prelude.{ℕ, ◌*◌, ◌/◌, ◌%◌, ◌^◌, leb, ℤ, pos, ◌*ℤ◌, Bool, Option, Some, None}
use Rattle.std.specs.Int.Signed.{shr_z}
use Rattle.std.specs.Int.{Width, w32, w64}
use mir.Val.{bits}
use Rattle.integer.specs.Wrap.{wrap_u, wrap_s}
use Rattle.integer.specs.Range.{pick, in_signed}
use Rattle.shift.specs.Shift.{shl_over, shl_over_u}
use Rattle.value.specs.declared.Scalar.{Scalar}
use Rattle.value.specs.declared.Scalar.TheVariants.{Bool as bool, AbstractInt, AbstractFloat, I32, U32, F32, F16}
use Rattle.value.specs.declared.ShaderStage.{ShaderStage}
use Rattle.bitwise.specs.Bits.{on_integer}
use Rattle.value.specs.Answer.{Result, value, shift_refused, binary, strict}
use Rattle.value.specs.Refusals as No

-- 9 ShlOverflow and 10 ShrOverflow, with the full count and the left operand
abbrev pub shl_overflow : ℕ → Scalar → Result
shl_overflow n l = shift_refused No.ShlOverflow n l

abbrev pub shr_overflow : ℕ → Scalar → Result
shr_overflow n l = shift_refused No.ShrOverflow n l

-- "Left in Const and Override: ShlOverflow exactly if a 32-bit operand meets a count above 31 or l times 2^count is outside its type;
-- otherwise that product." The rule of a type of width w, whose scalars `make` makes
abbrev pub exact_signed : Width → (ℤ → Scalar) → ℕ → ℤ → Result
exact_signed w make n x = pick (shl_over w x n) (shl_overflow n (make x)) (value (make (x *ℤ pos (2 ^ n))))

abbrev pub exact_unsigned : Width → (ℕ → Scalar) → ℕ → ℕ → Result
exact_unsigned w make n x = pick (shl_over_u w x n) (shl_overflow n (make x)) (value (make (x * 2 ^ n)))

-- AbstractInt has no limit on its count
abbrev pub exact_whole : ℕ → ℤ → Result
exact_whole n x = pick (in_signed w64 (x *ℤ pos (2 ^ n))) (value (AbstractInt (x *ℤ pos (2 ^ n)))) (shl_overflow n (AbstractInt x))

abbrev pub shl_exact : Scalar → ℕ → Result
shl_exact l n = on_integer binary (exact_whole n) (exact_signed w32 I32 n) (exact_unsigned w32 U32 n) l

-- "32-bit counts are taken modulo 32"
abbrev pub reduced : Width → ℕ → ℕ
reduced w n = n % bits w

-- "Left in Exec: .. the result wraps; AbstractInt wraps, 0 above 63."
abbrev pub wrapped_signed : Width → (ℤ → Scalar) → ℕ → ℤ → Result
wrapped_signed w make n x = value (make (wrap_s w (x *ℤ pos (2 ^ n))))

abbrev pub wrapped_unsigned : Width → (ℕ → Scalar) → ℕ → ℕ → Result
wrapped_unsigned w make n x = value (make (wrap_u w (pos x *ℤ pos (2 ^ n))))

abbrev pub shl_wrapped : Scalar → ℕ → Result
shl_wrapped l n =
    on_integer binary (wrapped_signed w64 AbstractInt n) (wrapped_signed w32 I32 (reduced w32 n)) (wrapped_unsigned w32 U32 (reduced w32 n)) l

-- "Right: floor of l over 2^count"
abbrev pub floor_signed : (ℤ → Scalar) → ℕ → ℤ → Result
floor_signed make n x = value (make (shr_z x (2 ^ n)))

abbrev pub floor_unsigned : (ℕ → Scalar) → ℕ → ℕ → Result
floor_unsigned make n x = value (make (x / 2 ^ n))

-- "32-bit counts above 31 give ShrOverflow in Const and Override": those of the width or more
abbrev pub limited : {X : Type 0} → Width → ((X → Scalar) → ℕ → X → Result) → (X → Scalar) → ℕ → X → Result
limited w floor make n x = pick (leb (bits w) n) (shr_overflow n (make x)) (floor make n x)

abbrev pub shr_exact : Scalar → ℕ → Result
shr_exact l n = on_integer binary (floor_signed AbstractInt n) (limited w32 floor_signed I32 n) (limited w32 floor_unsigned U32 n) l

-- "and are taken modulo 32 in Exec"
abbrev pub shr_reduced : Scalar → ℕ → Result
shr_reduced l n = on_integer binary (floor_signed AbstractInt n) (floor_signed I32 (reduced w32 n)) (floor_unsigned U32 (reduced w32 n)) l

abbrev pub shl_by : ShaderStage → Scalar → ℕ → Result
shl_by stage l n = pick (strict stage) (shl_exact l n) (shl_wrapped l n)

abbrev pub shr_by : ShaderStage → Scalar → ℕ → Result
shr_by stage l n = pick (strict stage) (shr_exact l n) (shr_reduced l n)

-- either: whether to the right
abbrev pub shift_by : Bool → ShaderStage → Scalar → ℕ → Result
shift_by right stage l n = pick right (shr_by stage l n) (shl_by stage l n)

-- "the count converts to U32 or Binary"
abbrev pub by_scalar : Scalar → (ℕ → Result) → Result
by_scalar (bool x) by = binary
by_scalar (AbstractInt x) by = binary
by_scalar (AbstractFloat x) by = binary
by_scalar (I32 x) by = binary
by_scalar (U32 n) by = by n
by_scalar (F32 x) by = binary
by_scalar (F16 x) by = binary

abbrev pub by_count : Option Scalar → (ℕ → Result) → Result
by_count (Some s) by = by_scalar s by
by_count None by = binary

abbrev pub shl_of : ShaderStage → Scalar → Option Scalar → Result
shl_of stage l count = by_count count (shl_by stage l)

abbrev pub shr_of : ShaderStage → Scalar → Option Scalar → Result
shr_of stage l count = by_count count (shr_by stage l)
