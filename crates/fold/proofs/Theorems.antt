-- What is asked of a change holds of what the contracts say, for every accepted sheet.
use mathlib.Core.Path.{◌≡◌, refl, sym, ap, ◌∙◌}
use mathlib.Core.List.Memᴰ
use mathlib.Core.List.{List, [], Memᴰ}
use mathlib.Core.Bool.{Bool, true, false, ◌||◌, false≢true}
use mathlib.Core.Logic.{◌≢◌, ⊎_elim, ◌⊎◌, inl, inr}
use Prim.Native.Nat.{ℕ, ◌*◌, ◌<◌}
use native.Mathlib.Omega.{arith}
use lib.Dec.{eqb}
use lib.ListN.{length, length-set, get_or}
use lib.Seq.{get_or-set_same, get_or-set_other}
use borrow.Author.Tests.{eq-eqb, eqb-true, eqb-false}
use Rattle.std.specs.Prelude.{Ok}
use Rattle.low.specs.Bytes.{up_to}
use Rattle.low.specs.Read.{found, must}
use Rattle.low.proofs.Tables.{table_at}
use Rattle.types.specs.Edition.{Edition}
use Rattle.value.specs.Pattern.{pick}
use Rattle.operand.specs.declared.Instance.{Instance}
use Rattle.operand.specs.Outcome.{value_of}
use Rattle.slot.specs.Slot.{bytes_of}
use Rattle.slot.proofs.Slots.{bytes_long}
use Rattle.sheet.specs.Tree.{Entry, setting, expression, names_of}
use Rattle.sheet.specs.Sheet.{Sheet, read_sheet}
use Rattle.entries.specs.Entries.{entry_at, refs_of, is_setting, with_setting}
use Rattle.entries.specs.Depend.{Leads, depends, touched, tally}
use Rattle.entries.proofs.Chains.{touched_self, depends_leads, touched_leads}
use Rattle.low.proofs.Tests.{one_of}
use Rattle.entries.proofs.Places.{few}
use Rattle.work.specs.Meaning.{entry_meaning}
use Rattle.fold.specs.Fresh.{means_of, evaluated, fresh, fresh_bytes}
use Rattle.fold.specs.Change.{content, content_bytes, fault_of, with_content, changed, change_answer, change_bytes, change_marks}
use Rattle.fold.specs.Demand.{Changed, SameButContent, same, contents, Version}
use Rattle.fold.proofs.Evaluated.{evaluated_same}
use Rattle.fold.proofs.Changes.{Ordered, content_here, content_elsewhere, changed_is, changed_only, changed_fresh, all_any, commute}
use Rattle.fold.proofs.Steps.{ordered}
use Rattle.fold.proofs.Answers.{NoFault, no_fault}

-- a setting names nothing
names_none : (x : Entry) → is_setting x ≡ true → names_of x ≡ []
unfolding is_setting names_of
names_none (setting v) h = refl
names_none (expression stage t) h = absurd (false≢true h)

setting_names : (es : Sheet) (i : ℕ) → is_setting (entry_at es i) ≡ true → refs_of es i ≡ []
unfolding refs_of
setting_names es i e = names_none (entry_at es i) e

-- the sheet with a setting replaced means the new value there, and elsewhere what it meant
means_here : (es : Sheet) (i : ℕ) (v : Instance) (l : List ℕ) → i < length es.entries → means_of (with_setting es i v) i l ≡ bytes_of (value_of v)
unfolding means_of entry_at entry_meaning
means_here es i v l h = ap (λ (e : Entry). bytes_of (entry_meaning es.edition l e)) (get_or-set_same es.entries i (setting v) _ h)

means_there : (es : Sheet) (i : ℕ) (v : Instance) (k : ℕ) (l : List ℕ) → k ≢ i → means_of (with_setting es i v) k l ≡ means_of es k l
unfolding means_of entry_at
means_there es i v k l ne = ap (λ (e : Entry). bytes_of (entry_meaning es.edition l e)) (get_or-set_other es.entries i k (setting v) _ ne)

-- a sheet that was accepted
module _ (s : List ℕ) (es : Sheet) (z : ℕ) (good : read_sheet s ≡ found es z) where
  pub ord : Ordered (means_of es) (refs_of es)
  ord = ordered s es z good

  -- fresh results do not depend on what the buffer held
  pub fresh_any : (l r : List ℕ) → length l ≡ 136 * length es.entries → length r ≡ 136 * length es.entries → fresh_bytes (read_sheet s) l ≡ fresh_bytes (read_sheet s) r
  unfolding fresh_bytes must fresh
  fresh_any l r hl hr =
      rw (good, eq-eqb (length l) (136 * length es.entries) hl, eq-eqb (length r) (136 * length es.entries) hr) (all_any (means_of es) (refs_of es) ord (length es.entries) l r hl hr)

  module _ (l : List ℕ) (i ty bits : ℕ) (ok : fault_of es (length l) i ty bits ≡ 0) where
    passed : NoFault es (length l) i ty bits
    passed = no_fault es (length l) i ty bits ok

    bytes_are : change_bytes (read_sheet s) l i ty bits ≡ changed (means_of es) (refs_of es) i (content_bytes ty bits) (length es.entries) l
    unfolding change_bytes
    bytes_are = rw (good, ok)

    answer_is : change_answer (read_sheet s) l i ty bits ≡ Ok (tally (depends (refs_of es) i) (length es.entries))
    unfolding change_answer
    answer_is = rw (good, ok)

    -- a change that no check refuses answers a count, and count and buffer are what is asked
    pub demand : (count : ℕ) × (change_answer (read_sheet s) l i ty bits ≡ Ok count)
        × Changed (means_of es) (refs_of es) i (content_bytes ty bits) (length es.entries) l (change_bytes (read_sheet s) l i ty bits) count
    demand = (
      tally (depends (refs_of es) i) (length es.entries),
      answer_is,
      rw bytes_are (changed_is (means_of es) (refs_of es) ord i (length es.entries) passed.among (content_bytes ty bits) (bytes_long (value_of (content ty bits))) l passed.sized),
    )

    -- what is asked leaves one outcome
    pub demand_only : (r : List ℕ) (count : ℕ) → Changed (means_of es) (refs_of es) i (content_bytes ty bits) (length es.entries) l r count
        → (change_answer (read_sheet s) l i ty bits ≡ Ok count) × (change_bytes (read_sheet s) l i ty bits ≡ r)
    demand_only r count p =
        let w = changed_only (means_of es) (refs_of es) ord i (length es.entries) passed.among (content_bytes ty bits) (bytes_long (value_of (content ty bits))) l r count passed.sized p in
        (answer_is ∙ ap Ok (sym w.1), bytes_are ∙ sym w.0)

    bytes_long_still : length (change_bytes (read_sheet s) l i ty bits) ≡ length l
    bytes_long_still = demand.2.long ∙ sym passed.sized

    marks_are : (ms : List Bool) → change_marks (read_sheet s) l i ty bits ms ≡ up_to (touched (refs_of es) i) 128
    unfolding change_marks
    marks_are ms = rw (good, ok)

    mark_at : (ms : List Bool) (k : ℕ) → k < length es.entries → get_or (change_marks (read_sheet s) l i ty bits ms) k false ≡ touched (refs_of es) i k
    mark_at ms k h = ap (λ (t : List Bool). get_or t k false) (marks_are ms) ∙ table_at (touched (refs_of es) i) false 128 k (omega (arith, few s es z good))

    -- the entries marked are the setting and those from which a chain of references leads to it
    pub marked_only : (ms : List Bool) (k : ℕ) → k < length es.entries → get_or (change_marks (read_sheet s) l i ty bits ms) k false ≡ true → (k ≡ i) ⊎ Leads (refs_of es) i k
    marked_only ms k h e =
        ⊎_elim (λ q. inl (eqb-true k i q)) (λ q. inr (depends_leads (refs_of es) i ord.earlier k q)) (one_of (eqb k i) _ (sym (mark_at ms k h) ∙ e))

    pub marked_all : (ms : List Bool) (k : ℕ) → k < length es.entries → (k ≡ i) ⊎ Leads (refs_of es) i k → get_or (change_marks (read_sheet s) l i ty bits ms) k false ≡ true
    marked_all ms k h (inl q) = mark_at ms k h ∙ ap (touched (refs_of es) i) q ∙ touched_self (refs_of es) i ord.earlier
    marked_all ms k h (inr q) = mark_at ms k h ∙ touched_leads (refs_of es) i ord.earlier q

  -- changes of two different settings commute, from any buffer
  pub changes_commute : (l : List ℕ) (i ty bits j uy cits : ℕ) → i ≢ j → fault_of es (length l) i ty bits ≡ 0 → fault_of es (length l) j uy cits ≡ 0
      → change_bytes (read_sheet s) (change_bytes (read_sheet s) l i ty bits) j uy cits ≡ change_bytes (read_sheet s) (change_bytes (read_sheet s) l j uy cits) i ty bits
  changes_commute l i ty bits j uy cits ne p q =
      let one = passed l i ty bits p in
      let two = passed l j uy cits q in
      bytes_are (change_bytes (read_sheet s) l i ty bits) j uy cits (rw (bytes_long_still l i ty bits p) q)
      ∙ ap (changed (means_of es) (refs_of es) j (content_bytes uy cits) (length es.entries)) (bytes_are l i ty bits p)
      ∙ commute (means_of es) (refs_of es) ord (length es.entries) l one.sized i j (content_bytes ty bits) (content_bytes uy cits) one.among two.among ne
      (setting_names es i one.setting) (setting_names es j two.setting) (bytes_long (value_of (content ty bits))) (bytes_long (value_of (content uy cits)))
      ∙ ap (changed (means_of es) (refs_of es) i (content_bytes ty bits) (length es.entries)) (sym (bytes_are l j uy cits q))
      ∙ sym (bytes_are (change_bytes (read_sheet s) l j uy cits) i ty bits (rw (bytes_long_still l j uy cits q) p))

-- ---- a sheet, and a version of it with other contents in its settings
module _ (es fs : Sheet) (alike : Version es fs) where
  -- they name the same entries
  refs_same : refs_of es ≡ refs_of fs
  unfolding refs_of names_of
  refs_same = λ x k. by k (alike.each k) x
    where
      by : (k : ℕ) → SameButContent (entry_at es k) (entry_at fs k) → names_of (entry_at es k) ≡ names_of (entry_at fs k)
      by k (same e) = ap names_of (sym e)
      by k (contents v w e f q) = ap names_of e ∙ sym (ap names_of f)

  -- an entry that names one means the same
  namer_same : (k j : ℕ) (r : List ℕ) → Memᴰ j (refs_of es k) → means_of es k r ≡ means_of fs k r
  unfolding means_of refs_of names_of
  namer_same k j r u = by (alike.each k) ∙ ap (λ (e : Edition). bytes_of (entry_meaning e r (entry_at fs k))) (sym alike.edition)
    where
      by : SameButContent (entry_at es k) (entry_at fs k) → bytes_of (entry_meaning es.edition r (entry_at es k)) ≡ bytes_of (entry_meaning es.edition r (entry_at fs k))
      by (same e) = ap (λ (x : Entry). bytes_of (entry_meaning es.edition r x)) (sym e)
      by (contents v w e f q) = absurd (Memᴰ.not-nil (rw (ap names_of e) at u))

  leader_same : (i k : ℕ) (r : List ℕ) → Leads (refs_of es) i k → means_of es k r ≡ means_of fs k r
  leader_same i k r (Leads.direct h) = namer_same k _ r h
  leader_same i k r (Leads.chained h q) = namer_same k _ r h

  -- so what a change works means the same
  worked_same : (earlier : (k j : ℕ) → Memᴰ j (refs_of es k) → j < k) (i : ℕ) (c : List ℕ) (k : ℕ) (r : List ℕ) → touched (refs_of es) i k ≡ true
      → with_content (means_of es) i c k r ≡ with_content (means_of fs) i c k r
  unfolding with_content
  worked_same earlier i c k r e = by (eqb k i) e
    where
      by : (b : Bool) → (b || depends (refs_of es) i k) ≡ true → pick b c (means_of es k r) ≡ pick b c (means_of fs k r)
      by true q = refl
      by false q = leader_same i k r (depends_leads (refs_of es) i earlier k q)

-- fresh results of any version become, by a change over the sheet itself, the fresh results of that version with the setting replaced
module _ (s t : List ℕ) (es fs : Sheet) (y z : ℕ) (good : read_sheet s ≡ found es y) (goods : read_sheet t ≡ found fs z) (alike : Version es fs) where
  pub fresh_again_lem : (l : List ℕ) (i ty bits : ℕ) → length l ≡ 136 * length es.entries → fault_of es (length (fresh fs l)) i ty bits ≡ 0
      → change_bytes (read_sheet s) (fresh fs l) i ty bits ≡ fresh (with_setting fs i (content ty bits)) l
  unfolding fresh changed
  fresh_again_lem l i ty bits long ok =
      bytes_are s es y good (fresh fs l) i ty bits ok
      ∙ evaluated_same _ _ (touched (refs_of es) i) (length es.entries) (fresh fs l) (λ k h e r. worked_same es fs alike (ord s es y good).earlier i c k r e)
      ∙ ap (λ (refs : ℕ → List ℕ). changed (means_of fs) refs i c (length es.entries) (fresh fs l)) (refs_same es fs alike)
      ∙ ap (λ (n : ℕ). changed (means_of fs) (refs_of fs) i c n (fresh fs l)) (sym alike.long)
      ∙ changed_fresh (means_of fs) (refs_of fs) (ord t fs z goods) i (length fs.entries) among c (bytes_long (value_of (content ty bits))) l (omega (arith, alike.long))
      ∙ evaluated_same _ _ (λ k. true) (length fs.entries) l (λ k h e r. replaced k (eqb k i) refl r)
      ∙ ap (λ (n : ℕ). evaluated (means_of (with_setting fs i (content ty bits))) (λ k. true) n l) (sym (length-set fs.entries i (setting (content ty bits))))
    where
      c : List ℕ
      c = content_bytes ty bits

      among : i < length fs.entries
      among = omega (arith, (passed s es y good (fresh fs l) i ty bits ok).among, alike.long)

      replaced : (k : ℕ) (b : Bool) → eqb k i ≡ b → (r : List ℕ) → with_content (means_of fs) i c k r ≡ means_of (with_setting fs i (content ty bits)) k r
      replaced k true e r = let q = eqb-true k i e in rw q (content_here (means_of fs) i c r ∙ sym (means_here fs i (content ty bits) r among))
      replaced k false e r = content_elsewhere (means_of fs) i c k r (eqb-false k i e) ∙ sym (means_there fs i (content ty bits) k r (eqb-false k i e))
