-- What a test is as a number. Assumes nothing.
use mathlib.Core.Path.{◌≡◌, refl}
use mathlib.Core.Bool.{Bool, true, false}
use mir.Val.{bool_byte}
use Rattle.value.specs.Pattern.{pick}

-- a test as a number is 1 where it holds
pub number_of_test : (t : Bool) → bool_byte t ≡ pick t 1 0
number_of_test true = refl
number_of_test false = refl
