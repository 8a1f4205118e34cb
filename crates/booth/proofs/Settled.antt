-- What a direct call leaves: its answer and the slot; and the order of its checks.
use Prim.Native.Nat.{ℕ, ◌<◌, ◌≤◌, ◌/◌}
use mathlib.Core.Path.{◌≡◌, refl, sym, ap, subst, ◌∙◌}
use mathlib.Core.Bool.{Bool, true, false, false≢true}
use mathlib.Core.List.{List}
use mathlib.Core.Logic.{⊎_elim}
use native.Mathlib.Omega.{arith}
use lib.Dec.{eqb}
use lib.ListN.{length}
use borrow.Author.Tests.{eq-eqb, ne_eqb}
use Rattle.value.specs.Refusals as No
use Rattle.operand.specs.declared.Instance.{Instance}
use Rattle.operand.specs.declared.Outcome.{Outcome}
use Rattle.operand.specs.Operand.{operand_formed}
use Rattle.operand.proofs.Answers.{Answers, Value, Refusing}
use Rattle.pairing.specs.Pairing.{op_known, unary_known, stage_known}
use Rattle.dispatch.specs.Meaning.{refuse_unless, judged, unary_judged, unary_meaning, binary_meaning}
use Rattle.dispatch.proofs.Outcomes.{binary_answers, unary_answers}
use Rattle.slot.specs.Slot.{bytes_of, put}
use Rattle.low.proofs.Parts.{patch_all}
use Rattle.slot.proofs.Slots.{bytes_long, put_in}
use Rattle.booth.specs.Answer.{packed_answer}
use Rattle.booth.specs.Operand.{call_refused, into_slot, fills, direct_answer, direct_bytes}

-- ---- as the code's tests leave it
-- a refusal of the call fills no slot
call_empty : (t : ℕ) → call_refused t ≡ true → fills t ≡ false
call_empty t c = rw (other 0 refl, other 9 refl, other 10 refl)
  where
    other : (n : ℕ) → call_refused n ≡ false → eqb t n ≡ false
    other n q = ne_eqb t n (λ e. false≢true (sym q ∙ ap call_refused (sym e) ∙ c))

module _ (l : List ℕ) (o : Outcome) (r : ℕ) (t : Bool) (q : t ≡ call_refused o.status) where
  pub settled_call : t ≡ true → r ≡ packed_answer o.status o.detail → (r ≡ direct_answer l o) × (l ≡ direct_bytes l o)
  unfolding into_slot direct_answer direct_bytes
  settled_call c e = (rw (← q, c) e, rw (← q, c, call_empty o.status (sym q ∙ c)))

  module _ (c : t ≡ false) where
    pub settled_wrong_size : (length l ≡ 136 → ⊥) → r ≡ packed_answer 30 0 → (r ≡ direct_answer l o) × (l ≡ direct_bytes l o)
    unfolding into_slot direct_answer direct_bytes
    settled_wrong_size n e = (rw (← q, c, ne_eqb (length l) 136 n) e, rw (← q, c, ne_eqb (length l) 136 n))

    module _ (h : length l ≡ 136) (e : r ≡ packed_answer o.status o.detail) where
      pub settled_refused : fills o.status ≡ false → (r ≡ direct_answer l o) × (l ≡ direct_bytes l o)
      unfolding into_slot direct_answer direct_bytes
      settled_refused n = (rw (← q, c, eq-eqb (length l) 136 h) e, rw (← q, c, eq-eqb (length l) 136 h, n))

      -- all of the slot is replaced
      replaced : put l 0 (bytes_of o) ≡ bytes_of o
      replaced =
          let k : 0 < length l / 136 = omega arith in
          put_in l 0 (bytes_of o) k ∙ patch_all l (bytes_of o) (bytes_long o ∙ sym h)

      pub settled_written : (m : List ℕ) → fills o.status ≡ true → m ≡ put l 0 (bytes_of o) → (r ≡ direct_answer l o) × (m ≡ direct_bytes l o)
      unfolding into_slot direct_answer direct_bytes
      settled_written m z p = (rw (← q, c, eq-eqb (length l) 136 h) e, rw (← q, c, eq-eqb (length l) 136 h, z) (p ∙ replaced))

-- ---- the order of the checks
-- an operator's own answers are no refusals of the call
own_answer : (o : Outcome) → Answers o → call_refused o.status ≡ false
own_answer o a = ⊎_elim (λ (v : Value o). low (omega (arith, v.status))) (λ (v : Refusing o). low v.high) a
  where
    low : o.status ≤ 10 → call_refused o.status ≡ false
    low h = rw (ne_eqb o.status 25 (λ e. omega (arith, e, h)), ne_eqb o.status 23 (λ e. omega (arith, e, h)), ne_eqb o.status 26 (λ e. omega (arith, e, h)))

module _ (slot : List ℕ) where
  -- a refusal of the call stands, and the slot's size is judged after those
  call_first : (n : ℕ) → call_refused n ≡ true → (b : Bool) (o p : Outcome) → (b ≡ true → into_slot slot o ≡ p) → into_slot slot (refuse_unless b n o) ≡ refuse_unless b n p
  unfolding into_slot
  call_first n c true o p h = h refl
  call_first n c false o p h = rw c

  then_size : (o : Outcome) → Answers o → into_slot slot o ≡ refuse_unless (eqb (length slot) 136) No.ResultsSize o
  unfolding into_slot
  then_size o a = rw (own_answer o a)

  -- operator (25), stage (23), left malformed (26), right malformed (26), size of the slot (30), then the operator itself
  pub binary_order : (op stage : ℕ) (l r : Instance) → into_slot slot (binary_meaning op stage l r)
      ≡ refuse_unless (op_known op) No.BadNode
      (refuse_unless (stage_known stage) No.BadStage
      (refuse_unless (operand_formed l) No.BadValue
      (refuse_unless (operand_formed r) No.BadValue
      (refuse_unless (eqb (length slot) 136) No.ResultsSize
      (judged op stage l r)))))
  unfolding binary_meaning
  binary_order op stage l r =
      call_first No.BadNode refl (op_known op) _ _ (λ a. call_first No.BadStage refl (stage_known stage) _ _ (λ b.
      call_first No.BadValue refl (operand_formed l) _ _ (λ u. call_first No.BadValue refl (operand_formed r) _ _ (λ v.
      then_size (judged op stage l r) (subst Answers (rw (a, b, u, v)) (binary_answers op stage l r u v a b))))))

  pub unary_order : (op stage : ℕ) (v : Instance) → into_slot slot (unary_meaning op stage v)
      ≡ refuse_unless (unary_known op) No.BadNode
      (refuse_unless (stage_known stage) No.BadStage
      (refuse_unless (operand_formed v) No.BadValue
      (refuse_unless (eqb (length slot) 136) No.ResultsSize
      (unary_judged op v))))
  unfolding unary_meaning
  unary_order op stage v =
      call_first No.BadNode refl (unary_known op) _ _ (λ a. call_first No.BadStage refl (stage_known stage) _ _ (λ b.
      call_first No.BadValue refl (operand_formed v) _ _ (λ u.
      then_size (unary_judged op v) (subst Answers (rw (a, b, u)) (unary_answers op stage v u a b)))))
