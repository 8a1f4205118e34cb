-- Laws of the changes that words ask for.
use mathlib.Core.Path.{◌≡◌, refl, sym, ap, ◌∙◌}
use mathlib.Core.Bool.{Bool, true, false}
use mathlib.Core.List.{List, [], ◌∷◌}
use Prim.Native.Nat.{ℕ, suc, ◌+◌, ◌-◌, ◌*◌, ◌≤◌, ◌<◌}
use native.Mathlib.Omega.{arith}
use borrow.Author.Tests.{le-ltb}
use Rattle.types.specs.Types.{known_of}
use Rattle.std.proofs.Common.{Option, Some, None, Result, Ok, Err}
use Rattle.std.specs.Option.{ok_or}
use Rattle.std.specs.Bool.{then_some}
use Rattle.std.specs.Result.{OkIff, result_ok}
use Rattle.words.specs.Spelling.{spelled}
use Rattle.words.specs.Split.{word_at}
use Rattle.asked.specs.declared.asked.Change.{Change}
use Rattle.asked.specs.Asked.{Asked, spelled_in, code_of, asked_at, asked_from, first_bad}

-- what a word spells, from the calls that find it and read it
pub spells : (b k : ℕ) (line w : List ℕ) (x y : Option ℕ) → w ≡ word_at k line → x ≡ spelled b w → x ≡ y → spelled b (word_at k line) ≡ y
spells b k line w x y e f g = sym (f ∙ ap (spelled b) e) ∙ g

-- the number of a word that spells none
pub bad_word : (o : Option ℕ) (k e : ℕ) → Err e ≡ ok_or o k → e ≡ k
bad_word (Some x) k e p = cc
bad_word None k e p = cc

-- a type's code, by the test that the number fits a byte and the one that it names a type
pub large_code : (n : ℕ) → (n < 256 → ⊥) → None ≡ code_of (Some n)
unfolding code_of
large_code n h = rw (le-ltb n 7 (omega arith))

pub code_told : (n : ℕ) (v : Bool) → v ≡ known_of n → then_some v n ≡ code_of (Some n)
unfolding code_of
code_told n true e = rw (← e)
code_told n false e = rw (← e)

pub no_number : None ≡ code_of None
unfolding code_of
no_number = refl

-- a number in a byte, or one that is none
pub byte_fits : {E : Type 0} (r : Result ℕ E) (n t : ℕ) → OkIff r (n < 256) n → Some t ≡ result_ok r → t ≡ n
byte_fits (Ok x) n t h e = cc
byte_fits (Err x) n t h e = cc

pub byte_over : {E : Type 0} (r : Result ℕ E) (n : ℕ) → OkIff r (n < 256) n → ◌≡◌ {A = Option ℕ} None (result_ok r) → n < 256 → ⊥
byte_over (Ok x) n h e = cc
byte_over (Err x) n h e = h

pub coded : (k : ℕ) (line w : List ℕ) (x y : Option ℕ) → w ≡ word_at k line → x ≡ code_of (spelled 10 w) → x ≡ y → code_of (spelled 10 (word_at k line)) ≡ y
coded k line w x y e f g = sym (f ∙ ap (λ (v : List ℕ). code_of (spelled 10 v)) e) ∙ g

-- each word of a change in turn: bad, or else the next one
module _ (line : List ℕ) (k : ℕ) where
  pub bad_entry : spelled 10 (word_at k line) ≡ None → Err k ≡ asked_at line k
  unfolding asked_at spelled_in
  bad_entry e = rw e

  module _ (entry : ℕ) (p : spelled 10 (word_at k line) ≡ Some entry) where
    pub bad_type : code_of (spelled 10 (word_at (k + 1) line)) ≡ None → Err (k + 1) ≡ asked_at line k
    unfolding asked_at spelled_in
    bad_type e = rw (p, e)

    module _ (ty : ℕ) (q : code_of (spelled 10 (word_at (k + 1) line)) ≡ Some ty) where
      pub bad_bits : spelled 16 (word_at (k + 2) line) ≡ None → Err (k + 2) ≡ asked_at line k
      unfolding asked_at spelled_in
      bad_bits e = rw (p, q, e)

      pub good_change : (bits : ℕ) → spelled 16 (word_at (k + 2) line) ≡ Some bits → Ok (record { entry = entry; ty = ty; bits = bits }) ≡ asked_at line k
      unfolding asked_at spelled_in
      good_change bits e = rw (p, q, e)

-- the changes that are left after i of n
module _ (line : List ℕ) (from n : ℕ) where
  unfoldable pub left : ℕ → List Asked
  left i = asked_from (n - i) line (from + 3 * i)

  pub left_all : left 0 ≡ asked_from n line from
  unfolding left
  left_all =
      let a : n - 0 ≡ n = omega arith in
      let b : from + 3 * 0 ≡ from = omega arith in
      ap (λ (m : ℕ). asked_from m line (from + 3 * 0)) a ∙ ap (asked_from n line) b

  pub left_next : (i : ℕ) → i < n → left i ≡ asked_at line (from + 3 * i) ∷ left (i + 1)
  unfolding left asked_from
  left_next i h =
      let a : n - i ≡ suc (n - (i + 1)) = omega arith in
      let b : from + 3 * i + 3 ≡ from + 3 * (i + 1) = omega arith in
      ap (λ (m : ℕ). asked_from m line (from + 3 * i)) a ∙ ap (λ (k : ℕ). asked_at line (from + 3 * i) ∷ asked_from (n - (i + 1)) line k) b

  pub left_none : (i : ℕ) → n ≤ i → left i ≡ []
  unfolding left asked_from
  left_none i h = let a : n - i ≡ 0 = omega arith in rw a

  -- the first bad word is the next change's, or that of those after it
  pub bad_here : (i k : ℕ) (a : Asked) → i < n → a ≡ asked_at line (from + 3 * i) → a ≡ Err k → Some k ≡ first_bad (left i)
  unfolding first_bad
  bad_here i k a h e f = rw (left_next i h, ← e, f)

  pub bad_later : (i : ℕ) (a : Asked) (c : Change) → i < n → a ≡ asked_at line (from + 3 * i)
      → a ≡ Ok c → first_bad (left (i + 1)) ≡ first_bad (left i)
  unfolding first_bad
  bad_later i a c h e f = rw (left_next i h, ← e, f)

  pub bad_none : (i : ℕ) → n ≤ i → ◌≡◌ {A = Option ℕ} None (first_bad (left i))
  unfolding first_bad
  bad_none i h = rw (left_none i h)
