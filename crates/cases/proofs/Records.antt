-- What is read from a record of an operator, and the slot that an outcome makes. Assumes nothing.
use Prim.Native.Nat.{ℕ, ◌+◌, ◌*◌, ◌/◌, ◌<◌}
use mathlib.Core.Path.{◌≡◌, sym, ap, ◌∙◌}
use mathlib.Core.Bool.{Bool}
use mathlib.Core.List.{List}
use native.Mathlib.Omega.{arith}
use lib.ListN.{length, get_or}
use borrow.Author.Tests.{eq-eqb, ne_eqb}
use Rattle.low.specs.Bytes.{whole, part}
use Rattle.low.proofs.Parts.{part_again, patch_all}
use Rattle.operand.specs.declared.Instance.{Instance}
use Rattle.operand.specs.declared.Outcome.{Outcome}
use Rattle.dispatch.specs.Meaning.{unary_meaning, binary_meaning}
use Rattle.slot.specs.Slot.{bytes_of, put}
use Rattle.slot.proofs.Slots.{bytes_long, put_in}
use Rattle.cases.specs.Record.{number_at, first_in, second_place, answer_in, asked_by}
use Rattle.cases.specs.Judged.{same}

-- ---- the number at a place, from the eight bytes that stand there
pub number_at_lem : (s : List ℕ) (a : ℕ) (p : List ℕ) (x : ℕ) → p ≡ part s a 8 → x ≡ whole (part p 0 8) → x ≡ number_at s a
number_at_lem s a p x ep ex = ex ∙ ap (λ (l : List ℕ). whole (part l 0 8)) ep ∙ ap whole (part_again s a 8)

-- ---- what must come out, after one operand and after two
module _ (c : List ℕ) (k n : ℕ) (ek : k ≡ get_or c 0 0) (en : n ≡ second_place c) (p : List ℕ) where
  pub answer_after_one : k ≡ 1 → p ≡ part c n 137 → p ≡ answer_in c
  unfolding answer_in
  answer_after_one h e = rw (← ek, eq-eqb k 1 h, ← en) e

  pub answer_after_two : (k ≡ 1 → ⊥) → (m : ℕ) → m ≡ get_or c (n + 3) 0 → p ≡ part c (n + 4 + 8 * m) 137 → p ≡ answer_in c
  unfolding answer_in
  answer_after_two h m em e = rw (← ek, ne_eqb k 1 h, ← en, ← em) e

-- ---- what is asked, of one operand and of two
module _ (read : List ℕ → Instance) (c : List ℕ) (k op stage : ℕ) (ek : k ≡ get_or c 0 0) (eo : op ≡ get_or c 1 0) (es : stage ≡ get_or c 2 0)
    (p : List ℕ) (ep : p ≡ first_in c) (l : Instance) (el : l ≡ read p) (o : Outcome) where
  pub asked_of_one : k ≡ 1 → o ≡ unary_meaning op stage l → o ≡ asked_by read c
  unfolding asked_by
  asked_of_one h e = rw (← ek, eq-eqb k 1 h, ← eo, ← es, ← ep, ← el) e

  pub asked_of_two : (k ≡ 1 → ⊥) → (n : ℕ) → n ≡ second_place c → (q : List ℕ) → q ≡ part c n 132 → (r : Instance) → r ≡ read q
      → o ≡ binary_meaning op stage l r → o ≡ asked_by read c
  unfolding asked_by
  asked_of_two h n en q eq r er e = rw (← ek, ne_eqb k 1 h, ← eo, ← es, ← ep, ← el, ← en, ← eq, ← er) e

-- ---- the slot that an outcome makes
-- it replaces all of 136 bytes
pub slot_over : (l : List ℕ) (o : Outcome) → length l ≡ 136 → put l 0 (bytes_of o) ≡ bytes_of o
slot_over l o h =
    let k : 0 < length l / 136 = omega arith in
    put_in l 0 (bytes_of o) k ∙ patch_all l (bytes_of o) (bytes_long o ∙ sym h)

-- a test against that slot
pub same_slot : (s l m : List ℕ) (o q : Outcome) (r : Bool) → length l ≡ 136 → m ≡ put l 0 (bytes_of o) → o ≡ q → r ≡ same s m → r ≡ same s (bytes_of q)
same_slot s l m o q r h e f t = t ∙ ap (λ (x : List ℕ). same s x) (e ∙ slot_over l o h ∙ ap (λ (x : Outcome). bytes_of x) f)
