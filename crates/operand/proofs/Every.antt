-- A test of every component: one component more, and each of them. Assumes nothing.
use mathlib.Core.Path.{◌≡◌, sym, ◌∙◌}
use mathlib.Core.Bool.{Bool, true, ◌&&◌, and-true, and_assoc}
use mathlib.Core.List.{List, [], ◌∷◌, ◌++◌}
use mathlib.Core.Logic.{⊎_elim}
use Prim.Native.Nat.{ℕ, zero, suc, ◌+◌, ◌<◌}
use native.Mathlib.Nat.{eq-or-lt_of_le, le_of_suc-le-suc, not-suc-le-zero}
use native.Mathlib.Numerals.{add-one}
use Rattle.operand.specs.Operand.{every}
use Rattle.low.specs.Bytes.{up_to}
use Rattle.low.proofs.Tests.{both}

every_snoc : (p : ℕ → Bool) (s : List ℕ) (x : ℕ) → every p (s ++ (x ∷ [])) ≡ (every p s && p x)
unfolding every
every_snoc p [] x = and-true (p x)
every_snoc p (y ∷ s) x = rw (every_snoc p s x) (sym (and_assoc (p y) (every p s) (p x)))

pub every_more : (p : ℕ → Bool) (f : ℕ → ℕ) (i : ℕ) (a b : Bool) → a ≡ every p (up_to f i) → b ≡ p (f i) → (a && b) ≡ every p (up_to f (i + 1))
unfolding up_to
every_more p f i a b e q = rw (add-one i, every_snoc p (up_to f i) (f i), e, q)

-- where it holds of all it holds of each
pub every_at : (p : ℕ → Bool) (f : ℕ → ℕ) (n : ℕ) → every p (up_to f n) ≡ true → (i : ℕ) → i < n → p (f i) ≡ true
unfolding up_to
every_at p f zero e i h = absurd (not-suc-le-zero h)
every_at p f (suc n) e i h =
    let k = both (every p (up_to f n)) (p (f n)) (sym (every_snoc p (up_to f n) (f n)) ∙ e) in
    ⊎_elim (λ (q : i ≡ n). rw q k.1) (λ (l : i < n). every_at p f n k.0 i l) (eq-or-lt_of_le (le_of_suc-le-suc h))
