-- The test of a range, over the width; and what an exact 64-bit answer is in each case. Assumes nothing.
use Rattle.std.proofs.Common.{◌≡◌, refl, ◌^◌, ◌≤◌, Bool, true, false, ℤ, ap, ◌∙◌, ap₂, w64, SFits, to_z, of_z, Option, Some, None, SomeIff, MatchOption, IsSomeAnd, option_map, ltb-true, le-ltb, lt-ltb}
use lib.Signed.{mag}
use mir.Syntax.{Width}
use mir.Val.{hbits}
use mir.ValLaws.{to_z-of_z}
use Rattle.integer.specs.Range.{pick, in_signed, whole_of}

-- the test of the range, either way
pub in_yes : (w : Width) (z : ℤ) → SFits w z → in_signed w z ≡ true
in_yes w z f = lt-ltb (mag z) (2 ^ hbits w) f.sfits

pub in_no : (w : Width) (z : ℤ) → 2 ^ hbits w ≤ mag z → in_signed w z ≡ false
in_no w z h = le-ltb (mag z) (2 ^ hbits w) h

-- operands as they are read back from their bits
pub operands_back : (w : Width) (op : ℤ → ℤ → ℤ) (x y : ℤ) → SFits w x → SFits w y → op (to_z w (of_z w x)) (to_z w (of_z w y)) ≡ op x y
operands_back w op x y f g = ap₂ op (to_z-of_z w x f) (to_z-of_z w y g)

-- ---- an answer that may be none, as std's `checked_` methods promise it
pub found : {A : Type 0} {P : Type 0} (o : Option A) (v : A) (t : Bool) → SomeIff o P v → (t ≡ true → P) → (P → t ≡ true) → o ≡ pick t (Some v) None
found None v true h in_p out_p = absurd (h (in_p refl))
found None v false h in_p out_p = refl
found (Some x) v true h in_p out_p = ap Some h.1
found (Some x) v false h in_p out_p = let e = out_p h.0 in cc

pub found_unless : {A : Type 0} {P : Type 0} (o : Option A) (v : A) (t : Bool) → SomeIff o P v → (t ≡ false → P) → (P → t ≡ false) → o ≡ pick t None (Some v)
found_unless None v true h in_p out_p = refl
found_unless None v false h in_p out_p = absurd (h (in_p refl))
found_unless (Some x) v true h in_p out_p = let e = out_p h.0 in cc
found_unless (Some x) v false h in_p out_p = ap Some h.1

-- and what `map` makes of it
pub mapped : {A B : Type 0} (make : A → B) (q : Option A) (m : Option B) → MatchOption q (m ≡ None) (λ x. IsSomeAnd m (λ y. y ≡ make x)) → m ≡ option_map make q
mapped make None m h = h
mapped make (Some x) None h = absurd h
mapped make (Some x) (Some y) h = ap Some h

-- ---- an exact 64-bit answer
pub whole_found : (o : Option ℤ) (z u : ℤ) → u ≡ z → SomeIff o (SFits w64 u) u → o ≡ whole_of z
whole_found o z u e h = found o u (in_signed w64 u) h (λ t. record { sfits = ltb-true (mag u) (2 ^ hbits w64) t }) (in_yes w64 u) ∙ ap whole_of e

pub whole_exact : (z : ℤ) → SFits w64 z → Some z ≡ whole_of z
whole_exact z f = rw (in_yes w64 z f)

pub whole_out : (z : ℤ) → 2 ^ 63 ≤ mag z → None ≡ whole_of z
whole_out z h = rw (in_no w64 z h)
