-- Laws of the tests of a slot, as the code makes them.
use mathlib.Core.Path.{◌≡◌, sym, ap, ◌∙◌}
use mathlib.Core.Bool.{Bool, true, false, ◌&&◌, or-false}
use mathlib.Core.List.{List}
use mathlib.Core.Logic.{⊎_elim}
use Prim.Native.Nat.{ℕ, ◌+◌, ◌*◌, ◌<◌, ◌≤◌}
use native.Mathlib.Omega.{arith}
use native.Mathlib.Nat.{eq-or-lt_of_le}
use native.Mathlib.Numerals.{add-one}
use lib.Dec.{eqb, leb}
use lib.ListN.{get_or}
use borrow.Author.Tests.{lt-ltb, le-ltb, eq-eqb, ne_eqb, le-leb, lt-leb}
use Rattle.value.specs.Pattern.{proper_of, kept_of}
use Rattle.value.specs.Refusals as No
use Rattle.operand.specs.declared.Instance.{Instance}
use Rattle.operand.specs.declared.Outcome.{Outcome}
use Rattle.operand.specs.Operand.{shape_ok}
use Rattle.operand.proofs.Shapes.{shape_in_lem}
use Rattle.types.specs.Types.{integer_of}
use Rattle.types.specs.Edition.{plain}
use Rattle.operand.specs.Outcome.{refused_with}
use Rattle.slot.specs.Slot.{said_by, slot, each, component_formed, components_formed, value_formed, blank, integer_formed, beside_formed, detail_formed, formed, well_formed, reference_to}

pub each_more : (p : ℕ → Bool) (i : ℕ) (a b : Bool) → a ≡ each p i → b ≡ p i → (a && b) ≡ each p (i + 1)
unfolding each
each_more p i a b e q = rw (add-one i, e, q)

module _ (ty n : ℕ) (xs : List ℕ) (i : ℕ) where
  pub used_formed : (p : Bool) (k : ℕ) → i < n → p ≡ proper_of ty (get_or xs i 0) → k ≡ kept_of ty (get_or xs i 0) → (p && eqb k (get_or xs i 0)) ≡ component_formed ty n xs i
  unfolding component_formed
  used_formed p k h e q = rw (lt-ltb i n h, e, q)

  pub unused_formed : n ≤ i → eqb (get_or xs i 0) 0 ≡ component_formed ty n xs i
  unfolding component_formed
  unused_formed h = rw (le-ltb i n h)

module _ (v : Instance) where
  pub value_formed_lem : (a b : Bool) (n : ℕ) → a ≡ shape_ok v.ty v.cols v.rows → n ≡ v.cols * v.rows → b ≡ components_formed v.ty n v.comps
      → (a && b) ≡ value_formed plain v
  unfolding value_formed
  value_formed_lem a b n p h q = rw (p ∙ sym (shape_in_lem plain v.ty v.cols v.rows), q, h)

  pub blank_formed : (b : Bool) → b ≡ components_formed 0 0 v.comps → (eqb v.ty 0 && eqb v.cols 0 && eqb v.rows 0 && b) ≡ blank v
  unfolding blank
  blank_formed b q = rw q

  pub integer_formed_lem : (a b : Bool) → a ≡ integer_of v.ty → b ≡ value_formed plain v → (a && eqb v.cols 1 && eqb v.rows 1 && b) ≡ integer_formed plain v
  unfolding integer_formed
  integer_formed_lem a b p q = rw (p, q)

-- status 0: a value; any other: a refusal
module _ (o : Outcome) where
  pub value_status : (a : Bool) → o.status ≡ 0 → a ≡ value_formed plain o.value → (eqb o.detail 0 && a) ≡ formed plain o
  unfolding formed
  value_status a h p = rw (eq-eqb o.status 0 h, lt-leb 1 o.status (omega (arith, h)), p, or-false (eqb o.detail 0 && value_formed plain o.value))

  pub refusal_status : (d b : Bool) → (o.status ≡ 0 → ⊥) → d ≡ detail_formed o.status o.detail → b ≡ beside_formed plain o.status o.value
      → (leb o.status 11 && d && b) ≡ formed plain o
  unfolding formed
  refusal_status d b h q r = rw (ne_eqb o.status 0 h, le-leb 1 o.status (⊎_elim (λ (p : 0 ≡ o.status). absurd (h (sym p))) (λ (p : 0 < o.status). p) (eq-or-lt_of_le (omega arith))), q, r)

-- ---- what a slot gives who asks
pub slot_formed : (l : List ℕ) (k : ℕ) (o : Outcome) (r : Bool) → o ≡ said_by (slot l k) → r ≡ formed plain o → r ≡ well_formed plain (slot l k)
unfolding well_formed
slot_formed l k o r e q = q ∙ ap (formed plain) e

module _ (l : List ℕ) (k : ℕ) (o : Outcome) (r : Bool) (e : o ≡ said_by (slot l k)) (q : r ≡ formed plain o) where
  given : (b : Bool) → (eqb o.status 0 && r) ≡ b → (eqb (said_by (slot l k)).status 0 && well_formed plain (slot l k)) ≡ b
  given b h = ap (λ (x : Outcome). eqb x.status 0 && well_formed plain (slot l k)) (sym e) ∙ ap (λ (x : Bool). eqb o.status 0 && x) (sym (slot_formed l k o r e q)) ∙ h

  pub reference_value : (eqb o.status 0 && r) ≡ true → o ≡ reference_to plain l k
  unfolding reference_to
  reference_value h = rw (given true h) e

  pub reference_refused : (x : Outcome) → (eqb o.status 0 && r) ≡ false → x ≡ refused_with No.FromEntry k → x ≡ reference_to plain l k
  unfolding reference_to
  reference_refused x h p = rw (given false h) p
