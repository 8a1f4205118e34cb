-- A call by code: the number that refuses it, or the operator's own answer on well_formed_lem operands. Assumes nothing.
use mathlib.Core.Path.{◌≡◌, refl, sym, ap, ◌∙◌}
use mathlib.Core.Bool.{Bool, true, false, ◌&&◌}
use Prim.Native.Nat.{ℕ}
use native.Mathlib.Omega.{arith}
use Rattle.std.specs.Prelude.{Result, Ok, Err, ⊤}
use Rattle.operand.specs.Operand.{operand_formed, shape_of, in_shape}
use Rattle.operand.specs.Outcome.{refused_with, refused_as}
use Rattle.value.specs.Answer.{refusal}
use Rattle.operand.specs.declared.Instance.{Instance}
use Rattle.operand.specs.declared.Shape.{Shape}
use Rattle.operand.specs.declared.Outcome.{Outcome}
use Rattle.low.proofs.Tests.{both}
use Rattle.pairing.specs.Pairing.{op_known, unary_known, stage_known, call_fault}
use Rattle.pairing.proofs.Picks.{no_fault}
use Rattle.dispatch.specs.Meaning.{refuse_unless, judged, unary_judged, unary_meaning, binary_meaning}
use Rattle.value.specs.Refusals as No

-- an operand in its own shape
pub reshaped : (v : Instance) (s : Shape) → s ≡ shape_of v → in_shape v.ty s v.comps ≡ v
reshaped v s e = ap (λ (s : Shape). in_shape v.ty s v.comps) e

-- the three checks in front of an operator
abbrev asked : Bool → Bool → Bool → Outcome → Outcome
asked k s f o = refuse_unless k No.BadNode (refuse_unless s No.BadStage (refuse_unless f No.BadValue o))

-- a fault carries no operand
pub plain : (k s f : Bool) (n : ℕ) → Err n ≡ call_fault k s f → refused_as (refusal n 0) ≡ refused_with n 0
plain true true true n z = let q : ◌≡◌ {A = ℕ} 0 1 = cc in absurd (omega arith)
plain true true false n z = let q : n ≡ No.BadValue = cc in rw q
plain true false f n z = let q : n ≡ No.BadStage = cc in rw q
plain false s f n z = let q : n ≡ No.BadNode = cc in rw q

module _ (k s f : Bool) (c : Result ⊤ ℕ) (e : c ≡ call_fault k s f) (v o : Outcome) where
  faulty : (n : ℕ) → c ≡ Err n → v ≡ refused_with n 0 → v ≡ asked k s f o
  faulty n h q = go k s f (sym h ∙ e)
    where
      numbered : (m : ℕ) → ◌≡◌ {A = Result ⊤ ℕ} (Err n) (Err m) → v ≡ refused_with m 0
      numbered m z = let k : n ≡ m = cc in q ∙ ap (λ (x : ℕ). refused_with x 0) k

      go : (k s f : Bool) → Err n ≡ call_fault k s f → v ≡ asked k s f o
      go true true true z = let k : ◌≡◌ {A = ℕ} 0 1 = cc in absurd (omega arith)
      go true true false z = numbered No.BadValue z
      go true false f z = numbered No.BadStage z
      go false s f z = numbered No.BadNode z

  faultless : c ≡ Ok tt → v ≡ o → v ≡ asked k s f o
  faultless z q = let h = no_fault k s f (sym e ∙ z) in rw (h.0, h.1, h.2) q

-- a unary operator
module _ (op stage : ℕ) (v : Instance) (k f : Bool) (ek : k ≡ unary_known op) (ef : f ≡ operand_formed v) (c : Result ⊤ ℕ) (e : c ≡ call_fault k (stage_known stage) f) where
  fault : c ≡ call_fault (unary_known op) (stage_known stage) (operand_formed v)
  fault = rw (← ek, ← ef) e

  pub unary_formed : c ≡ Ok tt → operand_formed v ≡ true
  unary_formed z = (no_fault (unary_known op) (stage_known stage) (operand_formed v) (sym fault ∙ z)).2

  pub unary_refused : (o : Outcome) (n : ℕ) → c ≡ Err n → o ≡ refused_with n 0 → o ≡ unary_meaning op stage v
  unfolding unary_meaning
  unary_refused o n h q = faulty (unary_known op) (stage_known stage) (operand_formed v) c fault o (unary_judged op v) n h q

  pub unary_called : (o : Outcome) → c ≡ Ok tt → o ≡ unary_judged op v → o ≡ unary_meaning op stage v
  unfolding unary_meaning
  unary_called o z q = faultless (unary_known op) (stage_known stage) (operand_formed v) c fault o (unary_judged op v) z q

-- both operands at once: the left is judged first, and the right is refused alike
both_formed : (k s f g : Bool) (o : Outcome) → asked k s (f && g) o ≡ refuse_unless k No.BadNode (refuse_unless s No.BadStage (refuse_unless f No.BadValue (refuse_unless g No.BadValue o)))
both_formed k s true g o = refl
both_formed k s false g o = refl

-- a binary operator
module _ (op stage : ℕ) (l r : Instance) (k f g : Bool) (ek : k ≡ op_known op) (ef : f ≡ operand_formed l) (eg : g ≡ operand_formed r)
    (c : Result ⊤ ℕ) (e : c ≡ call_fault k (stage_known stage) (f && g)) where
  fault_two : c ≡ call_fault (op_known op) (stage_known stage) (operand_formed l && operand_formed r)
  fault_two = rw (← ek, ← ef, ← eg) e

  meaning : asked (op_known op) (stage_known stage) (operand_formed l && operand_formed r) (judged op stage l r) ≡ binary_meaning op stage l r
  unfolding binary_meaning
  meaning = both_formed (op_known op) (stage_known stage) (operand_formed l) (operand_formed r) (judged op stage l r)

  pub binary_formed : c ≡ Ok tt → (operand_formed l ≡ true) × (operand_formed r ≡ true)
  binary_formed z =
      both (operand_formed l) (operand_formed r) (no_fault (op_known op) (stage_known stage) (operand_formed l && operand_formed r) (sym fault_two ∙ z)).2

  pub binary_refused : (o : Outcome) (n : ℕ) → c ≡ Err n → o ≡ refused_with n 0 → o ≡ binary_meaning op stage l r
  binary_refused o n h q = faulty (op_known op) (stage_known stage) (operand_formed l && operand_formed r) c fault_two o (judged op stage l r) n h q ∙ meaning

  pub binary_called : (o : Outcome) → c ≡ Ok tt → o ≡ judged op stage l r → o ≡ binary_meaning op stage l r
  binary_called o z q = faultless (op_known op) (stage_known stage) (operand_formed l && operand_formed r) c fault_two o (judged op stage l r) z q ∙ meaning
