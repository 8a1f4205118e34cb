-- What an entry of an accepted sheet means is well formed, whatever the buffer holds.
use mathlib.Core.Path.{◌≡◌, refl}
use mathlib.Core.Bool.{Bool, true, false, ◌&&◌, ◌||◌}
use mathlib.Core.List.{List}
use mathlib.Core.Logic.{⊎_elim}
use Prim.Native.Nat.{ℕ, ◌≤◌}
use native.Mathlib.Omega.{arith}
use lib.Dec.{eqb, leb}
use borrow.Author.Tests.{leb-true, le-leb}
use Rattle.types.specs.Edition.{Edition}
use Rattle.value.specs.Pattern.{pick}
use Rattle.operand.specs.declared.Outcome.{Outcome}
use Rattle.low.proofs.Tests.{both, one_of}
use Rattle.pairing.specs.Pairing.{op_known, unary_known}
use Rattle.dispatch.specs.Meaning.{unary_meaning, binary_meaning}
use Rattle.dispatch.proofs.Outcomes.{unary_answers, binary_answers}
use Rattle.slot.specs.Slot.{formed}
use Rattle.slot.proofs.Written.{formed_value, answers_formed, reference_formed, formed_good}
use Rattle.sheet.specs.Tree.{Expr, literal, reference, unary, binary, Entry, setting, expression}
use Rattle.sheet.specs.Node.{operator_known}
use Rattle.sheet.proofs.Sound.{Sound, sound_literal, sound_reference, sound_unary, sound_binary, SoundEntry, sound_setting, sound_expression}
use Rattle.work.specs.Meaning.{on_one, on_two, meaning, entry_meaning}

-- an operator that was accepted is known
known_unary : (op : ℕ) → operator_known false op ≡ true → unary_known op ≡ true
known_unary op e = go (leb 1 op) (leb op 3) e
  where
    go : (a b : Bool) → (a && (b || false)) ≡ true → (a && b) ≡ true
    go true true e = refl
    go true false e = e
    go false b e = e

known_binary : (op : ℕ) → operator_known true op ≡ true → op_known op ≡ true
known_binary op e =
    let h = both (leb 1 op) (leb op 3 || leb op 18) e in
    rw h.0 (⊎_elim (λ (p : leb op 3 ≡ true). le-leb op 18 (omega (arith, leb-true op 3 p))) (λ (p : leb op 18 ≡ true). p) (one_of (leb op 3) (leb op 18) h.1))

-- in a stage of the three, over any buffer
module _ (ed : Edition) (stage : ℕ) (staged : stage ≤ 2) (l : List ℕ) where
  -- an operator answers what is well formed or hands on the refusal of an operand
  one_formed : (op : ℕ) (x : Outcome) → unary_known op ≡ true → formed ed x ≡ true → formed ed (on_one op stage x) ≡ true
  unfolding on_one
  one_formed op x k h = go (eqb x.status 0) refl
    where
      go : (c : Bool) → eqb x.status 0 ≡ c → formed ed (pick c (unary_meaning op stage x.value) x) ≡ true
      go true e = answers_formed ed _ (unary_answers op stage x.value (formed_good ed x h e) k (le-leb stage 2 staged))
      go false e = h

  two_formed : (op : ℕ) (x y : Outcome) → op_known op ≡ true → formed ed x ≡ true → formed ed y ≡ true → formed ed (on_two op stage x y) ≡ true
  unfolding on_two
  two_formed op x y k h g = go (eqb x.status 0) (eqb y.status 0) refl refl
    where
      go : (c d : Bool) → eqb x.status 0 ≡ c → eqb y.status 0 ≡ d → formed ed (pick c (pick d (binary_meaning op stage x.value y.value) y) x) ≡ true
      go true true e f = answers_formed ed _ (binary_answers op stage x.value y.value (formed_good ed x h e) (formed_good ed y g f) k (le-leb stage 2 staged))
      go true false e f = g
      go false d e f = h

  -- so a tree that the reader lets through means what is well formed
  module _ (below : ℕ) (few : below ≤ 128) where
    tree_formed : (t : Expr) → Sound ed below t → formed ed (meaning ed stage l t) ≡ true
    unfolding meaning
    tree_formed (literal v) (sound_literal h) = formed_value ed v h.shape h.used h.rest
    tree_formed (reference k) (sound_reference h) = reference_formed ed l k (omega arith)
    tree_formed (unary place op t) (sound_unary k s) = one_formed op (meaning ed stage l t) (known_unary op k) (tree_formed t s)
    tree_formed (binary place op x y) (sound_binary k s r) = two_formed op (meaning ed stage l x) (meaning ed stage l y) (known_binary op k) (tree_formed x s) (tree_formed y r)

pub entry_formed : (ed : Edition) (l : List ℕ) (below : ℕ) → below ≤ 128 → (x : Entry) → SoundEntry ed below x → formed ed (entry_meaning ed l x) ≡ true
unfolding entry_meaning
entry_formed ed l below few (setting v) (sound_setting h) = formed_value ed v h.shape h.used h.rest
entry_formed ed l below few (expression stage t) (sound_expression h s) = tree_formed ed stage h l below few t s
