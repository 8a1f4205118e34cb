-- What one test of both ends of a range tells of a number. Assumes nothing.
use Rattle.std.proofs.Common.{◌≡◌, ℕ, ◌<◌, ◌≤◌, Bool, true, false, ◌&&◌, T, ltb, leb, sym, ap, ◌∙◌, subst, ltb→lt, leb→le, ltb-false, le-leb}
use lib.Ieee.Fits.{and_l, and_r}

-- a number that passes lies between the ends
pub inside : (l x u : ℕ) → leb l x && ltb x u ≡ true → (l ≤ x) × (x < u)
inside l x u e = let t = subst T (sym e) tt in (leb→le l x (and_l (leb l x) (ltb x u) t), ltb→lt x u (and_r (leb l x) (ltb x u) t))

-- one that fails, and is not below the lower end, has reached the upper one
pub beyond : (l x u : ℕ) → leb l x && ltb x u ≡ false → l ≤ x → u ≤ x
beyond l x u e h = ltb-false x u (sym (ap (λ (b : Bool). b && ltb x u) (le-leb l x h)) ∙ e)
