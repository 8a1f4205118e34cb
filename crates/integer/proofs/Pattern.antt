-- Bits and the numbers they stand for, over the width: `!` of a signed number. Assumes nothing.
use Rattle.std.proofs.Common.{◌≡◌, ℕ, suc, ◌-◌, ◌^◌, ◌<◌, ℤ, pos, negsuc, ap, ◌∙◌, arith, SFits, to_z, of_z}
use mir.Syntax.{Width}
use mir.Val.{bits}
use mir.ValLaws.{to_z_pos, to_z-neg, half_full}
use Rattle.integer.specs.Wrap.{not_z}

less_one : (m n : ℕ) → (m - 1) - n ≡ m - suc n
less_one m n = omega arith

-- `!x` on a signed x
pub not_is : (w : Width) (x : ℤ) → SFits w x → to_z w ((2 ^ bits w - 1) - of_z w x) ≡ not_z x
not_is w (pos n) f = ap (to_z w) (less_one (2 ^ bits w) n) ∙ to_z-neg w n f.sfits
not_is w (negsuc n) f = ap (to_z w) (back (2 ^ bits w) n (half_full w f.sfits)) ∙ to_z_pos w n f.sfits
  where
    back : (m n : ℕ) → n < m → (m - 1) - (m - suc n) ≡ n
    back m n h = omega arith
