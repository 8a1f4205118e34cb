-- Two bytes, and which they are.
use mathlib.Core.Path.{◌≡◌, refl, ap, ◌∙◌}
use mathlib.Core.List.{List, [], ◌∷◌}
use mathlib.Core.Bool.{Bool, true, false, ◌&&◌}
use Prim.Native.Nat.{ℕ, suc}
use native.Mathlib.Omega.{arith}
use lib.ListN.{length}
use borrow.Author.Tests.{ne_eqb}
use lib.Dec.{eqb}
use lib.Pointwise.{pointwise}
use Rattle.asked.specs.Asked.{dash_v}
use Rattle.asked.proofs.sheet.dash_v.Goals as goal

and_true : (a b : Bool) → (a && (b && true)) ≡ (a && b)
and_true true true = refl
and_true true false = refl
and_true false b = refl

and_false : (a : Bool) → (a && false) ≡ false
and_false true = refl
and_false false = refl

same_word : (w : List ℕ) → pointwise eqb w (45 ∷ 118 ∷ []) ≡ dash_v w
unfolding dash_v
same_word [] = refl
same_word (a ∷ []) = and_false (eqb a 45)
same_word (a ∷ b ∷ []) = and_true (eqb a 45) (eqb b 118)
same_word (a ∷ b ∷ c ∷ w) =
    rw (ne_eqb (suc (suc (suc (length w)))) 2 (omega arith))
    (ap (λ (t : Bool). eqb a 45 && t) (and_false (eqb b 118)) ∙ and_false (eqb a 45))

pub returns : goal.returns
returns c = c.eq.ensures ∙ ap (λ (t : List ℕ). pointwise eqb c.args.w.now t) c.as_slice.ensures ∙ same_word c.args.w.now
