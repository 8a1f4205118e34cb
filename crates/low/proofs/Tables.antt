-- Laws of f 0, f 1 and so on: how many there are, and which is where.
use mathlib.Core.Path.{◌≡◌, refl, sym, ap, ◌∙◌}
use mathlib.Core.List.{[], ◌∷◌}
use mathlib.Core.Logic.{⊎_elim}
use Prim.Native.Nat.{ℕ, zero, suc, ◌<◌}
use native.Mathlib.Omega.{arith}
use native.Mathlib.Nat.{eq-or-lt_of_le, le_of_suc-le-suc, not-suc-le-zero}
use lib.ListN.{length, get_or, length-append, get_or-append}
use lib.Seq.{get_or_at}
use Rattle.low.specs.Bytes.{up_to}

pub table_long : {A : Type 0} (f : ℕ → A) (n : ℕ) → length (up_to f n) ≡ n
unfolding up_to
table_long f zero = refl
table_long f (suc n) = omega (arith, length-append (up_to f n) (f n ∷ []), table_long f n)

pub table_at : {A : Type 0} (f : ℕ → A) (d : A) (n i : ℕ) → i < n → get_or (up_to f n) i d ≡ f i
unfolding up_to
table_at f d zero i h = absurd (not-suc-le-zero h)
table_at f d (suc n) i h =
    ⊎_elim
    (λ (e : i ≡ n). get_or_at (up_to f n) (f n) [] d i (table_long f n ∙ sym e) ∙ ap f (sym e))
    (λ (b : i < n). get_or-append (up_to f n) _ d i (omega (arith, table_long f n)) ∙ table_at f d n i b)
    (eq-or-lt_of_le (le_of_suc-le-suc h))
