-- Words within a line.
use mathlib.Core.Path.{◌≡◌, refl, sym, ap, ◌∙◌}
use mathlib.Core.List.{List, [], ◌∷◌}
use mathlib.Core.Bool.{Bool, true, false, cond}
use Prim.Native.Nat.{ℕ, zero, suc, ◌+◌, ◌-◌, ◌≤◌, ◌<◌, min}
use native.Mathlib.Omega.{arith}
use native.Mathlib.Nat.{not-suc-le-zero, zero-min, min-zero, suc-min-suc}
use lib.Dec.{eqb}
use lib.ListN.{length, take, drop, get_or, length-drop, drop_of_length-le}
use lib.Seq.{drop-cons, drop-drop}
use borrow.Author.Tests.{eq-eqb, ne_eqb}
use native.Mathlib.Numerals.{add-one}
use Rattle.std.proofs.Common.{count_by}
use Rattle.std.proofs.lemmas.List.Recursion.{is_sum_by}
use Rattle.words.specs.Split.{before, behind, word_at, next_place, word_place, word_count}

before_short : (end : ℕ) (l : List ℕ) → length (before end l) ≤ length l
unfolding before
before_short end [] = omega arith
before_short end (c ∷ cs) = by_cases (eqb c end) (before_short end cs)
  where
    by_cases : (t : Bool) → length (before end cs) ≤ length cs → length (cond t [] (c ∷ before end cs)) ≤ suc (length cs)
    by_cases true h = omega arith
    by_cases false h = omega arith

-- a part, byte after byte: one that ends it, another, or none
module _ (end : ℕ) (s : List ℕ) (i : ℕ) where
  pub part_ends : i < length s → get_or s i 0 ≡ end → length (before end (drop i s)) ≡ 0
  unfolding before
  part_ends h e = rw (drop-cons s i 0 h, eq-eqb (get_or s i 0) end e)

  pub part_more : i < length s → (get_or s i 0 ≡ end → ⊥) → length (before end (drop i s)) ≡ length (before end (drop (i + 1) s)) + 1
  unfolding before
  part_more h n = rw (drop-cons s i 0 h, ne_eqb (get_or s i 0) end n, add-one i) (omega arith)

  pub part_none : length s ≤ i → length (before end (drop i s)) ≡ 0
  unfolding before
  part_none h = rw (drop_of_length-le s h)

pub zeros_counted : (l : List ℕ) → word_count l ≡ count_by (λ c. eqb c 0) l
unfolding word_count
zeros_counted = is_sum_by word_count (λ c. cond (eqb c 0) 1 0) refl (λ _ _. refl)

-- a part is at the start, and no longer than what it is of
before_is : (end : ℕ) (l : List ℕ) → before end l ≡ take (length (before end l)) l
unfolding before
before_is end [] = refl
before_is end (c ∷ cs) = by_cases (eqb c end) (before_is end cs)
  where
    by_cases : (t : Bool) → before end cs ≡ take (length (before end cs)) cs → cond t [] (c ∷ before end cs) ≡ take (length (cond t [] (c ∷ before end cs))) (c ∷ cs)
    by_cases true e = refl
    by_cases false e = ap (λ (t : List ℕ). c ∷ t) e

pub within : (end : ℕ) (s : List ℕ) (a e : ℕ) → e ≡ a + length (before end (drop a s)) → a ≤ length s → (a ≤ e) × (e ≤ length s)
within end s a e h f = (omega arith, omega (arith, before_short end (drop a s), length-drop a s))

-- the rest is after a word's 0
behind_is : (l : List ℕ) → behind l ≡ drop (suc (length (before 0 l))) l
unfolding before behind
behind_is [] = refl
behind_is (c ∷ cs) = by_cases (eqb c 0) (behind_is cs)
  where
    by_cases : (t : Bool) → behind cs ≡ drop (suc (length (before 0 cs))) cs → cond t cs (behind cs) ≡ drop (suc (length (cond t [] (c ∷ before 0 cs)))) (c ∷ cs)
    by_cases true e = refl
    by_cases false e = e

-- no more than all is left out
drop_least : (k : ℕ) (l : List ℕ) → drop k l ≡ drop (min k (length l)) l
drop_least zero l = sym (ap (λ (j : ℕ). drop j l) (zero-min (length l)))
drop_least (suc k) [] = sym (ap (λ (j : ℕ). drop {A = ℕ} j []) (min-zero (suc k)))
drop_least (suc k) (c ∷ cs) = drop_least k cs ∙ sym (ap (λ (j : ℕ). drop j (c ∷ cs)) (suc-min-suc k (length cs)))

rest_is : (l : List ℕ) → behind l ≡ drop (next_place l) l
unfolding next_place
rest_is l =
    let e : suc (length (before 0 l)) ≡ length (before 0 l) + 1 = omega arith in
    behind_is l ∙ ap (λ (k : ℕ). drop k l) e ∙ drop_least (length (before 0 l) + 1) l

-- a word that starts at a and ends at e, and where the next one starts: after the 0 that ends it, or at the end where it has none
module _ (s : List ℕ) (a e : ℕ) (h : e ≡ a + length (before 0 (drop a s))) where
  pub first_word : take (e - a) (drop a s) ≡ before 0 (drop a s)
  first_word =
      let q : e - a ≡ length (before 0 (drop a s)) = omega arith in
      rw q (sym (before_is 0 (drop a s)))

  pub next_there : e < length s → e + 1 ≡ a + next_place (drop a s)
  unfolding next_place
  next_there l = omega (arith, length-drop a s)

  pub next_none : a ≤ length s → length s ≤ e → e ≡ a + next_place (drop a s)
  unfolding next_place
  next_none f l = omega (arith, length-drop a s, before_short 0 (drop a s))

-- a word further
word_after : (k : ℕ) (l : List ℕ) → 0 < k → word_at (k - 1) (behind l) ≡ word_at k l
unfolding word_at
word_after zero l h = absurd (not-suc-le-zero h)
word_after (suc k) l h = let e : suc k - 1 ≡ k = omega arith in rw e

place_after : (k : ℕ) (l : List ℕ) → 0 < k → next_place l + word_place (k - 1) (behind l) ≡ word_place k l
unfolding word_place
place_after zero l h = absurd (not-suc-le-zero h)
place_after (suc k) l h = let e : suc k - 1 ≡ k = omega arith in rw e

module _ (s : List ℕ) (a r : ℕ) (h : r ≡ a + next_place (drop a s)) where
  pub next_within : a ≤ length s → r ≤ length s
  unfolding next_place
  next_within f = omega (arith, length-drop a s)

  rest : drop r s ≡ behind (drop a s)
  rest = ap (λ (k : ℕ). drop k s) h ∙ sym (rest_is (drop a s) ∙ drop-drop (next_place (drop a s)) a s)

  pub next_word : (k : ℕ) → 0 < k → word_at (k - 1) (drop r s) ≡ word_at k (drop a s)
  next_word k f = ap (λ (t : List ℕ). word_at (k - 1) t) rest ∙ word_after k (drop a s) f

  pub next_place_lem : (k : ℕ) → 0 < k → r + word_place (k - 1) (drop r s) ≡ a + word_place k (drop a s)
  next_place_lem k f = rw rest (omega (arith, place_after k (drop a s) f))

-- no word further
pub word_here : (k : ℕ) (l : List ℕ) → k ≡ 0 → before 0 l ≡ word_at k l
unfolding word_at
word_here k l e = rw e

pub place_here : (k : ℕ) (l : List ℕ) → k ≡ 0 → word_place k l ≡ 0
unfolding word_place
place_here k l e = rw e
