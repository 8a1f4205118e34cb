-- At 24 digits and a reach of 127, and at 53 and 1023, each definition of `specs/` is the language's own. Assumes nothing.
use Rattle.std.proofs.Common.{◌≡◌, ℕ, zero, suc, ◌/◌, ◌%◌, Bool, leb, ℤ, pos, negsuc, refl}
use lib.Ieee as Ieee
use lib.Ieee.{Float, Format, binary32, binary64, nan, inf, fin}
use Rattle.rounding.specs.Kind.{Kind, single, double, of_format, units_in, round_to, of_integer}
use Rattle.rounding.specs.Arithmetic.{sum, add, sub, mul, div, rem}
use Rattle.rounding.specs.Bits.{of_fields, of_bits, to_bits, signed, hidden}

abbrev pub of : Format → Kind
of f = record { digits = Ieee.prec f; reach = Ieee.emax f }

-- the formats of F32 and F64 are their kinds
pub single_is : of_format binary32 ≡ single
single_is = refl

pub double_is : of_format binary64 ≡ double
double_is = refl

pub round_is : (f : Format) (s : Bool) (a b : ℕ) → Ieee.round f s a b ≡ round_to (of f) s a b
unfolding Ieee.round Ieee.units round_to units_in
round_is f s a b = refl

pub add_is : (f : Format) (x y : Float) → Ieee.add f x y ≡ add (of f) x y
unfolding Ieee.round Ieee.units Ieee.sum Ieee.add round_to units_in sum add
add_is f nan y = refl
add_is f (inf s) nan = refl
add_is f (inf s) (inf t) = refl
add_is f (inf s) (fin t n d) = refl
add_is f (fin s m e) nan = refl
add_is f (fin s m e) (inf t) = refl
add_is f (fin s m e) (fin t n d) = refl

pub sub_is : (f : Format) (x y : Float) → Ieee.sub f x y ≡ sub (of f) x y
unfolding Ieee.sub sub
sub_is f x y = add_is f x (Ieee.neg y)

pub mul_is : (f : Format) (x y : Float) → Ieee.mul f x y ≡ mul (of f) x y
unfolding Ieee.round Ieee.units Ieee.mul round_to units_in mul
mul_is f nan y = refl
mul_is f (inf s) nan = refl
mul_is f (inf s) (inf t) = refl
mul_is f (inf s) (fin t n d) = refl
mul_is f (fin s m e) nan = refl
mul_is f (fin s m e) (inf t) = refl
mul_is f (fin s m e) (fin t n d) = refl

pub div_is : (f : Format) (x y : Float) → Ieee.div f x y ≡ div (of f) x y
unfolding Ieee.round Ieee.units Ieee.div round_to units_in div
div_is f nan y = refl
div_is f (inf s) nan = refl
div_is f (inf s) (inf t) = refl
div_is f (inf s) (fin t n d) = refl
div_is f (fin s m e) nan = refl
div_is f (fin s m e) (inf t) = refl
div_is f (fin s m e) (fin t n d) = refl

pub rem_is : (f : Format) (x y : Float) → Ieee.rem f x y ≡ rem (of f) x y
unfolding Ieee.round Ieee.units Ieee.rem round_to units_in rem
rem_is f nan y = refl
rem_is f (inf s) y = refl
rem_is f (fin s m e) nan = refl
rem_is f (fin s m e) (inf t) = refl
rem_is f (fin s m e) (fin t n d) = refl

pub of_int_is : (f : Format) (z : ℤ) → Ieee.of_int f z ≡ of_integer (of f) z
unfolding Ieee.round Ieee.units Ieee.of_int round_to units_in of_integer
of_int_is f (pos n) = refl
of_int_is f (negsuc n) = refl

fields_is : (f : Format) (s : Bool) (x t : ℕ) → Ieee.of_fields f s x t ≡ of_fields (of f) s x t
unfolding Ieee.of_fields of_fields
fields_is f s zero t = refl
fields_is f s (suc x) t = refl

pub of_bits_is : (f : Format) (b : ℕ) → Ieee.of_bits f b ≡ of_bits (of f) b
unfolding Ieee.of_bits of_bits
of_bits_is f b = fields_is f (leb (signed (of f)) b) (b % signed (of f) / hidden (of f)) (b % hidden (of f))

pub to_bits_is : (f : Format) (x : Float) → Ieee.to_bits f x ≡ to_bits (of f) x
unfolding Ieee.to_bits to_bits
to_bits_is f nan = refl
to_bits_is f (inf s) = refl
to_bits_is f (fin s m e) = refl
