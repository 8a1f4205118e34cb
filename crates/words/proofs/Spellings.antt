-- A word's number, digit after digit.
use mathlib.Core.Path.{◌≡◌, refl, sym, ap, ◌∙◌}
use mathlib.Core.Bool.{Bool, true, false, cond, ◌&&◌}
use mathlib.Core.List.{List, [], ◌∷◌}
use Prim.Native.Nat.{ℕ, suc, ◌+◌, ◌*◌, ◌^◌, ◌≤◌, ◌<◌}
use native.Mathlib.Omega.{arith}
use native.Mathlib.Nat.{le-mul_of_pos_right, le_trans}
use native.Mathlib.Numerals.{add-one}
use lib.Dec.{ltb}
use lib.ListN.{length, drop, get_or, drop_of_length-le}
use lib.Seq.{drop-cons}
use borrow.Author.Tests.{lt-ltb, le-ltb}
use Rattle.std.proofs.Common.{Option, Some, None}
use Rattle.std.proofs.lemmas.Bool.Decides.{nat_tests}
use Rattle.std.specs.Char.{digit_value}
use Rattle.words.specs.Spelling.{low_digit, letter_digit, digit_of, onwards, digits_only, spelled}

-- what is spelled by the number n and then the digits of a word
unfoldable pub further : ℕ → ℕ → List ℕ → Option ℕ
further b n cs = cond (digits_only b cs && ltb (onwards b n cs) (2 ^ 64)) (Some (onwards b n cs)) None

pub empty : (b : ℕ) (s : List ℕ) → length s ≡ 0 → None ≡ spelled b s
unfolding spelled
empty b s e = rw e

pub begun : (b : ℕ) (s : List ℕ) → (length s ≡ 0 → ⊥) → further b 0 (drop 0 s) ≡ spelled b s
unfolding spelled further
begun b s ne = rw (lt-ltb 0 (length s) (omega (arith, ne)))

-- a further digit makes no number smaller
grows : (b n : ℕ) (cs : List ℕ) → 1 ≤ b → n ≤ onwards b n cs
unfolding onwards
grows b n [] h = omega arith
grows b n (c ∷ cs) h =
    let m : n ≤ n * b = le-mul_of_pos_right n h in
    le_trans (omega arith) (grows b (n * b + digit_of c) cs h)

and-false : (a b : Bool) → b ≡ false → (a && b) ≡ false
and-false true b e = e
and-false false b e = refl

-- more than 64 bits spell nothing
more_bits : (b n : ℕ) (cs : List ℕ) → 2 ^ 64 ≤ onwards b n cs → None ≡ further b n cs
unfolding further
more_bits b n cs h =
    sym (ap (λ (t : Bool). cond t (Some (onwards b n cs)) None) (and-false (digits_only b cs) _ (le-ltb (onwards b n cs) (2 ^ 64) h)))

-- std's digits and letters, below 16
digit_here : (c b : ℕ) → b ≤ 16 → digit_value c < b → digit_value c ≡ digit_of c
unfolding digit_of low_digit letter_digit
digit_here c b h g = grind (arith, nat_tests)

digit_gone : (c b : ℕ) → b ≤ 16 → (digit_value c < b → ⊥) → b ≤ digit_of c
unfolding digit_of low_digit letter_digit
digit_gone c b h g = grind (arith, nat_tests)

cons_digit : (b n c d : ℕ) (cs : List ℕ) → d ≡ digit_of c → d < b → further b (n * b + d) cs ≡ further b n (c ∷ cs)
unfolding further digits_only onwards
cons_digit b n c d cs e g = rw (← e, lt-ltb d b g)

-- a byte x of the word is next
module _ (b n : ℕ) (s : List ℕ) (i x : ℕ) (h : i < length s) (o : b ≤ 16) (w : x ≡ get_or s i 0) where
  pub no_digit : (digit_value x < b → ⊥) → None ≡ further b n (drop i s)
  unfolding further digits_only onwards
  no_digit g = rw (drop-cons s i 0 h, ← w, le-ltb (digit_of x) b (digit_gone x b o g))

  module _ (d : ℕ) (e : (digit_value x < b) × (d ≡ digit_value x)) where
    pub one_digit : further b (n * b + d) (drop (i + 1) s) ≡ further b n (drop i s)
    one_digit = rw (add-one i, drop-cons s i 0 h, ← w) (cons_digit b n x d (drop (suc i) s) (e.1 ∙ digit_here x b o e.0) (omega arith))

    pub too_long : 1 ≤ b → 2 ^ 64 ≤ n * b + d → None ≡ further b n (drop i s)
    too_long p z = more_bits b (n * b + d) (drop (i + 1) s) (le_trans z (grows b (n * b + d) (drop (i + 1) s) p)) ∙ one_digit

-- no digit is left
pub ended : (b n : ℕ) (s : List ℕ) (i : ℕ) → length s ≤ i → n < 2 ^ 64 → Some n ≡ further b n (drop i s)
unfolding further digits_only onwards
ended b n s i h f = rw (drop_of_length-le s h, lt-ltb n (2 ^ 64) f)
