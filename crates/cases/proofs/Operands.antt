-- The bytes that C is handed of an operand, and the judgement of what it answers. Assumes nothing.
use Prim.Native.Nat.{ℕ, zero, suc, ◌+◌, ◌*◌, ◌-◌, ◌≤◌}
use mathlib.Core.Path.{◌≡◌, refl, ap, sym, ◌∙◌}
use mathlib.Core.Bool.{Bool, true, false, not, ◌||◌}
use mathlib.Core.Logic.{inl, inr}
use mathlib.Core.List.{List, [], ◌∷◌, ◌++◌, append-nil}
use native.Mathlib.Omega.{arith}
use native.Mathlib.Nat.{sub-zero}
use lib.Dec.{eqb}
use lib.ListN.{length, get_or, take, drop, replicate, length-append, length-take}
use lib.Seq.{take_all, length-take-le}
use borrow.Author.Tests.{lt-ltb, le-ltb, not-true, not-false}
use Rattle.integer.proofs.Order.{le_or_lt}
use Rattle.low.specs.Bytes.{part}
use Rattle.low.proofs.Parts.{zeros_of}
use Rattle.value.specs.Answer.{carries}
use Rattle.value.specs.Pattern.{pick}
use Rattle.slot.specs.Slot.{bytes_of}
use Rattle.booth.specs.Operand.{operand_in, call_refused, into_slot, fills, direct_answer, direct_bytes}
use Rattle.cases.specs.Record.{filled, components_in, laid_out, area_in, used_in, bytes_for_c, operand_of_c, answer_in, outcome_in, asked_by}
use Rattle.cases.specs.Judged.{answered_so, same, untouched, operator_right}

-- ---- zeros
-- a string over n zeros, cut to fit, is the first n of its bytes with zeros after them
over_zeros : (n m : ℕ) (s : List ℕ) → n ≤ m → take n s ++ drop (length (take n s)) (replicate n 0) ≡ take n (s ++ replicate m 0)
over_zeros zero m s h = refl
over_zeros (suc n) m [] h = sym (zeros_of (suc n) m h)
over_zeros (suc n) m (x ∷ s) h = ap (λ (l : List ℕ). x ∷ l) (over_zeros n m s (omega arith))

-- ---- what C is handed
pub laid : (o s p l : List ℕ) (a b d : ℕ) → a ≡ get_or o 0 0 → b ≡ get_or o 1 0 → d ≡ get_or o 2 0 → s ≡ components_in o → p ≡ part s 0 128
    → l ≡ p ++ drop (length p) (replicate 128 0) → (a ∷ b ∷ d ∷ (l ++ [])) ≡ laid_out o
unfolding laid_out part
laid o s p l a b d ea eb ed es ep el =
    let e : l ≡ filled 128 (components_in o) =
    el ∙ ap (λ (x : List ℕ). x ++ drop (length x) (replicate 128 0)) (ep ∙ ap (λ (x : List ℕ). take 128 x) es)
    ∙ over_zeros 128 128 (components_in o) (omega arith) in
    rw (append-nil l, ← ea, ← eb, ← ed, e)

-- what is cut to 128 bytes fits into them
pub fits : (s p : List ℕ) → p ≡ part s 0 128 → length p ≤ 128
unfolding part
fits s p e = rw e (simp length-take (omega arith))

laid_long : (o : List ℕ) → length (laid_out o) ≡ 131
unfolding laid_out
laid_long o =
    let h : 128 ≤ length (components_in o ++ replicate 128 0) = simp length-append (omega arith) in
    ap (λ (n : ℕ). suc (suc (suc n))) (length-take-le 128 (components_in o ++ replicate 128 0) h)

-- of 131 bytes no more are used than are there
used_first : (a : ℕ) (l : List ℕ) → length l ≡ 131 → (n : ℕ) → n ≡ 3 + 8 * a → (m : ℕ) → (a ≤ 15 → m ≡ n) → (16 ≤ a → m ≡ 131) → take m l ≡ take n l
used_first a l h n e m f g =
    elim (le_or_lt 16 a) [
      | inl k ↦ take_all m l (omega (arith, g k)) ∙ sym (take_all n l (omega arith))
      | inr k ↦ ap (λ (x : ℕ). take x l) (f (omega arith))
    ]

pub for_c : (o l : List ℕ) (m : ℕ) → l ≡ laid_out o → m ≡ used_in o → operand_in (take (m - 0) l) ≡ operand_of_c o
unfolding operand_of_c bytes_for_c
for_c o l m el em =
    rw (sub-zero m, el)
    (ap operand_in (used_first (area_in o) (laid_out o) (laid_long o) (3 + 8 * area_in o) refl m
    (λ k. em ∙ rw (lt-ltb (area_in o) 16 (omega arith))) (λ k. em ∙ rw (le-ltb (area_in o) 16 k))))

-- how many are used
module _ (o : List ℕ) (a b : ℕ) (ea : a ≡ get_or o 1 0) (eb : b ≡ get_or o 2 0) where
  pub used_some : a * b ≤ 15 → 3 + 8 * (a * b) ≡ used_in o
  used_some h = rw (← ea, ← eb, lt-ltb (a * b) 16 (omega arith))

  pub used_all : 16 ≤ a * b → 131 ≡ used_in o
  used_all h = rw (← ea, ← eb, le-ltb (a * b) 16 h)

-- ---- the judgement
-- a record that says what fills the slot says every byte of it; any other says them as they were
module _ (s : List ℕ) (k : ℕ) (ek : k ≡ get_or s 0 0) (t : Bool) (et : t ≡ carries k) where
  says : (b : Bool) → (eqb k 0 || t) ≡ b → direct_bytes untouched (outcome_in s) ≡ pick b (bytes_of (outcome_in s)) untouched
  unfolding into_slot direct_bytes outcome_in
  says b z = go (call_refused (get_or s 0 0))
    where
      filled : fills (get_or s 0 0) ≡ b
      filled = rw (← ek, ← et) z

      go : (c : Bool) → pick (fills (pick c (outcome_in s) (outcome_in s)).status) (bytes_of (outcome_in s)) untouched ≡ pick b (bytes_of (outcome_in s)) untouched
      go true = rw filled
      go false = rw filled

module _ (c s : List ℕ) (es : s ≡ answer_in c) (n : ℕ) (en : n ≡ direct_answer untouched (asked_by operand_of_c c))
    (m : List ℕ) (em : m ≡ direct_bytes untouched (asked_by operand_of_c c)) (t : Bool) (et : t ≡ answered_so n s) where
  -- another answer is wrong
  pub wrong_answer : not t ≡ true → false ≡ operator_right c
  unfolding operator_right
  wrong_answer h = rw (← es, ← en, ← et, not-true t h)

  -- where the answer is right, the slot is judged
  module _ (h : not t ≡ false) (k : ℕ) (ek : k ≡ get_or s 0 0) (v : Bool) (ev : v ≡ carries k) (r : Bool) where
    pub right_filled : (eqb k 0 || v) ≡ true → r ≡ same m (bytes_of (outcome_in s)) → r ≡ operator_right c
    unfolding operator_right
    right_filled z e = rw (← es, ← en, ← et, not-false t h, ← em, says s k ek v ev true z) e

    pub right_kept : (eqb k 0 || v) ≡ false → r ≡ same m untouched → r ≡ operator_right c
    unfolding operator_right
    right_kept z e = rw (← es, ← en, ← et, not-false t h, ← em, says s k ek v ev false z) e
