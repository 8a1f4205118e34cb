-- Texts of lists, one element more.
use mathlib.Core.Path.{◌≡◌, refl, sym, ap, ◌∙◌}
use mathlib.Core.Bool.{Bool, true, false, not, ◌&&◌}
use mathlib.Core.Logic.{⊎_elim}
use mathlib.Core.List.{List, [], ◌∷◌, ◌++◌, append_assoc, append-nil}
use Prim.Native.Nat.{ℕ, ◌+◌, ◌*◌, ◌≤◌, ◌<◌, min}
use native.Mathlib.Omega.{arith}
use native.Mathlib.Numerals.{add-one}
use native.Mathlib.Nat.{min-eq_left, min-eq_right}
use lib.Dec.{eqb}
use lib.ListN.{length, take, get_or}
use lib.Seq.{take-suc, take_all}
use Rattle.operand.specs.declared.Outcome.{Outcome}
use Rattle.integer.proofs.Order.{le_or_lt}
use Rattle.types.specs.Edition.{plain}
use Rattle.slot.specs.Slot.{slot, said_by, well_formed}
use Rattle.text.specs.Text.{dec, spaced, words, fields, shown, line, lines, mover, movers}

-- a row of numbers, one after another
module _ (f : ℕ → List ℕ) where
  spaced_joined : (xs ys : List ℕ) → spaced f (xs ++ ys) ≡ spaced f xs ++ spaced f ys
  unfolding spaced
  spaced_joined [] ys = refl
  spaced_joined (x ∷ xs) ys = rw (spaced_joined xs ys, append_assoc)

  pub spaced_more : (xs : List ℕ) (i : ℕ) → i < length xs → spaced f (take (i + 1) xs) ≡ spaced f (take i xs) ++ (32 ∷ f (get_or xs i 0))
  unfolding spaced
  spaced_more xs i h = rw (add-one i, take-suc xs i 0 h, spaced_joined (take i xs) (get_or xs i 0 ∷ [])) (ap (λ (t : List ℕ). spaced f (take i xs) ++ t) (append-nil (32 ∷ f (get_or xs i 0))))

  pub spaced_none : [] ≡ spaced f []
  unfolding spaced
  spaced_none = refl

pub lines_more : (b : List ℕ) (n : ℕ) → lines b (n + 1) ≡ lines b n ++ line n (said_by (slot b n)) (well_formed plain (slot b n))
unfolding lines
lines_more b n = rw add-one

-- no more elements than there are
pub take_min : (xs : List ℕ) (m n : ℕ) → length xs ≡ n → take (min m n) xs ≡ take m xs
take_min xs m n e =
    ⊎_elim (λ (h : m ≤ n). ap (λ (j : ℕ). take j xs) (min-eq_left h))
    (λ (h : n < m).
    let l : n ≤ m = omega arith in
    ap (λ (j : ℕ). take j xs) (min-eq_right l) ∙ take_all n xs (omega arith) ∙ sym (take_all m xs (omega arith)))
    (le_or_lt m n)

module _ (o : Outcome) (formed : Bool) where
  pub shown_some : formed ≡ true → shown o formed ≡ words (take (o.value.cols * o.value.rows) o.value.comps)
  unfolding shown
  shown_some t = rw t

  pub shown_none : formed ≡ false → shown o formed ≡ []
  unfolding shown
  shown_none f = rw f

module _ (marks : List Bool) (own k : ℕ) where
  pub mover_some : (get_or marks k false && not (eqb k own)) ≡ true → fields (mover marks own k) ≡ 32 ∷ dec k
  unfolding mover spaced
  mover_some t = rw t (append-nil (32 ∷ dec k))

  pub mover_none : (get_or marks k false && not (eqb k own)) ≡ false → fields (mover marks own k) ≡ []
  unfolding mover spaced
  mover_none f = rw f

  pub movers_more : fields (movers marks own (k + 1)) ≡ fields (movers marks own k) ++ fields (mover marks own k)
  unfolding movers
  movers_more = rw (add-one k) (spaced_joined dec (movers marks own k) (mover marks own k))
