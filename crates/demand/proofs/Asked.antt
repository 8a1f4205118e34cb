-- A change is asked in the words of the demand exactly if no check refuses it.
use mathlib.Core.Path.{◌≡◌, refl, sym, ap, subst, ◌∙◌}
use mathlib.Core.Bool.{Bool, true, false, false≢true}
use mathlib.Core.List.{List}
use Prim.Native.Nat.{ℕ, ◌*◌, ◌<◌}
use native.Mathlib.Omega.{arith}
use lib.Dec.{eqb}
use lib.ListN.{length}
use borrow.Author.Tests.{eq-eqb, eqb-true}
use Rattle.value.specs.Pattern.{pick}
use Rattle.operand.specs.declared.Instance.{Instance}
use Rattle.low.specs.Read.{Read, found, refused, must, refusal}
use Rattle.sheet.specs.Tree.{Entry, setting, expression}
use Rattle.sheet.specs.Sheet.{Sheet, read_sheet}
use Rattle.entries.specs.Entries.{entry_at, refs_of, is_setting, setting_type}
use Rattle.entries.specs.Depend.{depends, tally}
use Rattle.std.specs.Prelude.{Result, Ok}
use Rattle.low.specs.declared.Refused.{Refused}
use Rattle.fold.specs.Fresh.{means_of}
use Rattle.fold.specs.Change.{content_bytes, fault_of, changed, change_answer, change_bytes}
use Rattle.fold.proofs.Answers.{setting_among, no_fault, proper_in_lem}
use Rattle.fold.proofs.Theorems as theorems
use Rattle.demand.specs.Demand.{answered, after, Content, Asked, ChangeMeets}

-- ---- the setting and its type
module _ (es : Sheet) (i ty bits : ℕ) (c : Content es i ty bits) where
  is_setting_lem : is_setting (entry_at es i) ≡ true
  unfolding is_setting
  is_setting_lem = ap is_setting c.setting

  pub setting_typed : ty ≡ setting_type (entry_at es i)
  unfolding setting_type
  setting_typed = c.type ∙ sym (ap setting_type c.setting)

  pub content_among : i < length es.entries
  content_among = setting_among es i is_setting_lem

  -- no check refuses it
  pub passes : (size : ℕ) → size ≡ 136 * length es.entries → fault_of es size i ty bits ≡ 0
  unfolding fault_of must
  passes size h = rw (eq-eqb size (136 * length es.entries) h, is_setting_lem, proper_in_lem es.edition ty bits ∙ c.proper, eq-eqb ty (setting_type (entry_at es i)) setting_typed)

a_setting : (x : Entry) → is_setting x ≡ true → (v : Instance) × (x ≡ setting v) × (setting_type x ≡ v.ty)
unfolding is_setting setting_type
a_setting (setting v) h = (v, refl, refl)
a_setting (expression stage t) h = absurd (false≢true h)

-- what no check refuses is asked
pub passed : (s l : List ℕ) (es : Sheet) (n i ty bits : ℕ) → read_sheet s ≡ found es n → fault_of es (length l) i ty bits ≡ 0 → Asked s l es i ty bits
passed s l es n i ty bits good e =
    let f = no_fault es (length l) i ty bits e in
    let v = a_setting (entry_at es i) f.setting in
    record {
      end = n;
      accepted = good;
      sized = f.sized;
      content = record { value = v.0; setting = v.1; type = f.typed ∙ v.2; proper = f.proper };
    }

-- ---- what a call answers
module _ (s l : List ℕ) (i ty bits : ℕ) where
  done_asked : (x : Read Sheet) → read_sheet s ≡ x → (count : ℕ) → change_answer x l i ty bits ≡ Ok count → (es : Sheet) × Asked s l es i ty bits
  unfolding change_answer
  done_asked (found es n) good count e = go (eqb (fault_of es (length l) i ty bits) 0) refl e
    where
      go : (b : Bool) → eqb (fault_of es (length l) i ty bits) 0 ≡ b
          → pick b (Ok (tally (depends (refs_of es) i) (length es.entries))) (refusal (fault_of es (length l) i ty bits) 0) ≡ Ok count
          → (es : Sheet) × Asked s l es i ty bits
      go true q h = (es, passed s l es n i ty bits good (eqb-true (fault_of es (length l) i ty bits) 0 q))
      go false q h = absurd (let z : ◌≡◌ {A = ℕ} 0 1 = cc in omega arith)
  done_asked (refused k p) good count e = absurd (let z : ◌≡◌ {A = ℕ} 0 1 = cc in omega arith)

  refused_keeps : (x : Read Sheet) (k p : ℕ) → change_answer x l i ty bits ≡ refusal k p → change_bytes x l i ty bits ≡ l
  unfolding change_answer change_bytes
  refused_keeps (found es n) k p e = go (eqb (fault_of es (length l) i ty bits) 0) (changed (means_of es) (refs_of es) i (content_bytes ty bits) (length es.entries) l) e
    where
      go : (b : Bool) (r : List ℕ) → pick b (Ok (tally (depends (refs_of es) i) (length es.entries))) (refusal (fault_of es (length l) i ty bits) 0) ≡ refusal k p
          → pick b r l ≡ l
      go true r h = absurd (let z : ◌≡◌ {A = ℕ} 0 1 = cc in omega arith)
      go false r h = refl
  refused_keeps (refused j q) k p e = refl

  pub change_meets : ChangeMeets s l i ty bits (answered s l i ty bits) (after s l i ty bits)
  change_meets =
      record {
        works = λ es q. theorems.demand s es q.end q.accepted l i ty bits (passes es i ty bits q.content (length l) q.sized);
        only = λ count e. done_asked (read_sheet s) refl count e;
        refuses = λ k p e. refused_keeps (read_sheet s) k p e;
      }

  -- so does whatever equals what is answered and left
  pub outcome_meets : (answer : Result ℕ Refused) (r : List ℕ) → answer ≡ answered s l i ty bits → r ≡ after s l i ty bits → ChangeMeets s l i ty bits answer r
  outcome_meets answer r e f =
      subst (λ (x : Result ℕ Refused). ChangeMeets s l i ty bits x r) (sym e) (subst (ChangeMeets s l i ty bits (answered s l i ty bits)) (sym f) change_meets)
