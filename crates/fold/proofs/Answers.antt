-- Laws of the answers of the public calls, from what the reader found and what the loops did.
use mathlib.Core.Path.{◌≡◌, refl, sym, ap, subst, ◌∙◌}
use mathlib.Core.List.{List}
use mathlib.Core.Bool.{Bool, true, false, false≢true}
use mathlib.Core.Logic.{⊎_elim, ◌≢◌}
use Prim.Native.Nat.{ℕ, ◌*◌, ◌≤◌, ◌<◌}
use native.Mathlib.Omega.{arith}
use lib.Dec.{eqb}
use lib.ListN.{length, replicate, get_or-eq_default}
use borrow.Author.Tests.{eq-eqb, ne_eqb, eqb-true}
use Rattle.integer.proofs.Order.{le_or_lt}
use Rattle.std.specs.Prelude.{Option, Some, None, Result, Ok, Err}
use Rattle.low.specs.declared.Refused.{Refused}
use Rattle.low.specs.Read.{Read, found, refused, must, refusal}
use Rattle.types.specs.Types.{known_of}
use Rattle.types.specs.Edition.{Edition}
use Rattle.types.proofs.Editions.{in_edition_lem}
use Rattle.value.specs.Pattern.{pick, proper_of, kept_of}
use Rattle.value.specs.Refusals as No
use Rattle.operand.specs.declared.Instance.{Instance}
use Rattle.operand.specs.Operand.{a_scalar}
use Rattle.low.proofs.Tests.{both}
use Rattle.sheet.specs.Tree.{Entry}
use Rattle.sheet.specs.Sheet.{Sheet, read_sheet, counted_of}
use Rattle.sheet.proofs.Sheets.{was_good, was_bad}
use Rattle.entries.specs.Entries.{entry_at, refs_of, is_setting, setting_type}
use Rattle.entries.specs.Depend.{depends, tally}
use Rattle.entries.specs.Records.{setting_of}
use Rattle.entries.specs.Inside.{At, Accepted, Ready}
use Rattle.entries.proofs.Places.{setting_there}
use Rattle.fold.specs.Fresh.{means_of, fresh_answer, fresh_bytes}
use Rattle.fold.specs.Change.{content, proper_in, fault_of, changed, change_answer, change_bytes, change_marks, content_bytes}
use Rattle.fold.specs.Inside.{WorksAll, Found, Judges, Judged, Applied}
use Rattle.fold.proofs.Steps.{all_worked}

-- ---- new content
pub content_is : (ty bits k : ℕ) (v : Instance) → k ≡ kept_of ty bits → v ≡ a_scalar ty k → v ≡ content ty bits
unfolding content
content_is ty bits k v e q = q ∙ ap (a_scalar ty) e

-- ---- the checks of a change
past_no_setting : (es : Sheet) (i : ℕ) → length es.entries ≤ i → is_setting (entry_at es i) ≡ false
unfolding is_setting entry_at
past_no_setting es i h = ap is_setting (get_or-eq_default es.entries _ h)

pub setting_among : (es : Sheet) (i : ℕ) → is_setting (entry_at es i) ≡ true → i < length es.entries
setting_among es i e =
    ⊎_elim
    (λ (h : length es.entries ≤ i). absurd (false≢true (sym (past_no_setting es i h) ∙ e)))
    (λ (h : i < length es.entries). h)
    (le_or_lt (length es.entries) i)

said : (e : Entry) (x : Option ℕ) → x ≡ pick (is_setting e) (Some (setting_type e)) None
    → (x ≡ None → is_setting e ≡ false) × ((own : ℕ) → x ≡ Some own → (is_setting e ≡ true) × (setting_type e ≡ own))
said e x h = go (is_setting e) h
  where
    go : (b : Bool) → x ≡ pick b (Some (setting_type e)) None → (x ≡ None → b ≡ false) × ((own : ℕ) → x ≡ Some own → (b ≡ true) × (setting_type e ≡ own))
    go true q = (λ z. absurd (let y : ◌≡◌ {A = ℕ} 0 1 = cc in omega arith), λ own z. (refl, cc))
    go false q = (λ z. refl, λ own z. absurd (let y : ◌≡◌ {A = ℕ} 0 1 = cc in omega arith))

-- an edition has every type, so it asks no more of a pattern
pub proper_in_lem : (ed : Edition) (ty bits : ℕ) → proper_in ed ty bits ≡ proper_of ty bits
proper_in_lem ed ty bits = in_edition_lem ed ty (proper_of ty bits) (λ q. (both (known_of ty) _ q).0)

module _ (s : List ℕ) (size n i ty bits : ℕ) (b : Bool) (e : b ≡ eqb size (136 * n)) where
  size_is : (es : Sheet) → length es.entries ≡ n → (c : Bool) → b ≡ c → eqb size (136 * length es.entries) ≡ c
  size_is es h c q = ap (λ (k : ℕ). eqb size (136 * k)) h ∙ sym e ∙ q

  pub judged_size : b ≡ false → Judged s size n i ty bits (refusal 30 0)
  unfolding Judged Judges fault_of must
  judged_size q = λ es z good c. (rw (size_is es c false q), (λ h. omega arith), refl)

  module _ (q : b ≡ true) (x : Option ℕ) (f : Found s n i x) where
    -- there is no such entry
    pub judged_past : x ≡ None → Judged s size n i ty bits (refusal 31 0)
    unfolding Found Judged Judges fault_of must
    judged_past h = λ es z good c.
        let past : n ≤ i = subst (Found s n i) h f in
        (rw (size_is es c true q, past_no_setting es i (omega arith)), (λ h. omega arith), refl)

    module _ (at : ℕ) (h : x ≡ Some at) (y : Option ℕ) (g : y ≡ setting_of s at) where
      there : (es : Sheet) (z : ℕ) → read_sheet s ≡ found es z → length es.entries ≡ n → (i < n) × At s es i at
      unfolding Found
      there es z good c = let w : Found s n i (Some at) = subst (Found s n i) h f in (w.0, w.1 es z good c)

      setting_said : (es : Sheet) (z : ℕ) → read_sheet s ≡ found es z → length es.entries ≡ n → y ≡ pick (is_setting (entry_at es i)) (Some (setting_type (entry_at es i))) None
      setting_said es z good c = let w = there es z good c in g ∙ setting_there s es i at w.1 (omega (arith, w.0))

      -- it is no setting
      pub judged_none : y ≡ None → Judged s size n i ty bits (refusal 31 0)
      unfolding Judged Judges fault_of must
      judged_none u = λ es z good c.
          (rw (size_is es c true q, (said (entry_at es i) y (setting_said es z good c)).0 u), (λ h. omega arith), refl)

      module _ (own : ℕ) (u : y ≡ Some own) (p : Bool) (v : p ≡ proper_of ty bits) where
        -- what is left of the checks
        of_content : (es : Sheet) (z : ℕ) → read_sheet s ≡ found es z → length es.entries ≡ n
            → fault_of es size i ty bits ≡ must p No.BadValue (must (eqb ty own) No.SettingType 0)
        unfolding fault_of must
        of_content es z good c =
            let w = (said (entry_at es i) y (setting_said es z good c)).1 own u in
            rw (size_is es c true q, w.0, w.1, proper_in_lem es.edition ty bits, v)

        -- they answer the number of the first that fails, or else the place
        pub judged_content : (r : ℕ) → r ≡ must (proper_of ty bits) No.BadValue (must (eqb ty own) No.SettingType 0)
            → (r ≡ 0 → Judged s size n i ty bits (Ok at)) × (r ≢ 0 → Judged s size n i ty bits (refusal r 0))
        unfolding Judged Judges
        judged_content r e =
            let asked : (es : Sheet) (z : ℕ) → read_sheet s ≡ found es z → length es.entries ≡ n → fault_of es size i ty bits ≡ r =
            λ es z good c. of_content es z good c ∙ ap (λ (t : Bool). must t No.BadValue (must (eqb ty own) No.SettingType 0)) v ∙ sym e in
            (λ k es z good c. (asked es z good c ∙ k, (there es z good c).1), λ k es z good c. (asked es z good c, k, refl))

        pub judged_value : p ≡ false → Judged s size n i ty bits (refusal 26 0)
        unfolding must
        judged_value k = (judged_content No.BadValue (rw (← v, k))).1 (λ h. omega arith)

        module _ (k : p ≡ true) where
          pub judged_type : ty ≢ own → Judged s size n i ty bits (refusal 32 0)
          unfolding must
          judged_type ne = (judged_content No.SettingType (rw (← v, k, ne_eqb ty own ne))).1 (λ h. omega arith)

          pub judged_fits : ty ≡ own → Judged s size n i ty bits (Ok at)
          unfolding must
          judged_fits same = (judged_content 0 (rw (← v, k, eq-eqb ty own same))).0 refl

-- what a change that no check refuses has passed
pub record NoFault (es : Sheet) (size i ty bits : ℕ) : Type 0 where
  pub sized : size ≡ 136 * length es.entries
  pub setting : is_setting (entry_at es i) ≡ true
  pub among : i < length es.entries
  pub proper : proper_of ty bits ≡ true
  pub typed : ty ≡ setting_type (entry_at es i)

need_zero : (t : Bool) (n x : ℕ) → (n ≡ 0 → ⊥) → must t n x ≡ 0 → (t ≡ true) × (x ≡ 0)
unfolding must
need_zero true n x ne h = (refl, h)
need_zero false n x ne h = absurd (ne h)

pub no_fault : (es : Sheet) (size i ty bits : ℕ) → fault_of es size i ty bits ≡ 0 → NoFault es size i ty bits
unfolding fault_of
no_fault es size i ty bits e =
    let p = need_zero _ 30 _ (λ z. omega arith) e in
    let q = need_zero _ 31 _ (λ z. omega arith) p.1 in
    let r = need_zero _ 26 _ (λ z. omega arith) q.1 in
    let t = need_zero _ 32 _ (λ z. omega arith) r.1 in
    record {
      sized = eqb-true size (136 * length es.entries) p.0;
      setting = q.0;
      among = setting_among es i q.0;
      proper = sym (proper_in_lem es.edition ty bits) ∙ r.0;
      typed = eqb-true ty (setting_type (entry_at es i)) t.0;
    }

-- ---- the calls
-- what a change answers and leaves, as its contract says it
abbrev Changes : List ℕ → List ℕ → ℕ → ℕ → ℕ → List Bool → Result ℕ Refused → List ℕ → List Bool → Type 0
Changes s l i ty bits ms a r ns =
    (a ≡ change_answer (read_sheet s) l i ty bits) × (r ≡ change_bytes (read_sheet s) l i ty bits) × (ns ≡ change_marks (read_sheet s) l i ty bits ms)

module _ (s : List ℕ) (x : Result ℕ Refused) (e : x ≡ counted_of (read_sheet s)) where
  module _ (k : Refused) (q : x ≡ Err k) (l : List ℕ) where
    was : read_sheet s ≡ refused k.number k.place
    was = was_bad (read_sheet s) k (sym q ∙ e)

    pub fresh_bad : (Err k ≡ fresh_answer (read_sheet s) l) × (l ≡ fresh_bytes (read_sheet s) l)
    unfolding fresh_answer fresh_bytes
    fresh_bad = (ap (λ (y : Read Sheet). fresh_answer y l) (sym was), ap (λ (y : Read Sheet). fresh_bytes y l) (sym was))

    pub change_bad : (i ty bits : ℕ) (ms : List Bool) → Changes s l i ty bits ms (Err k) l ms
    unfolding change_answer change_bytes change_marks
    change_bad i ty bits ms = (
      ap (λ (y : Read Sheet). change_answer y l i ty bits) (sym was),
      ap (λ (y : Read Sheet). change_bytes y l i ty bits) (sym was),
      ap (λ (y : Read Sheet). change_marks y l i ty bits ms) (sym was),
    )

  module _ (n : ℕ) (q : x ≡ Ok n) where
    read : (es : Sheet) × (z : ℕ) × (read_sheet s ≡ found es z) × (length es.entries ≡ n)
    read = was_good (read_sheet s) n (sym q ∙ e)

    pub accepted : Accepted s n
    accepted = record { sheet = read.0; end = read.1; read = read.2; count = read.3 }

    module _ (l : List ℕ) (b : Bool) (f : b ≡ eqb (length l) (136 * n)) where
      same_size : (c : Bool) → b ≡ c → eqb (length l) (136 * length read.0.entries) ≡ c
      same_size c h = ap (λ (k : ℕ). eqb (length l) (136 * k)) read.3 ∙ sym f ∙ h

      pub fresh_size : b ≡ false → (refusal No.ResultsSize 0 ≡ fresh_answer (read_sheet s) l) × (l ≡ fresh_bytes (read_sheet s) l)
      unfolding fresh_answer fresh_bytes must
      fresh_size h = (rw (read.2, same_size false h), rw (read.2, same_size false h))

      pub fresh_done : b ≡ true → (r : List ℕ) → WorksAll s n 0 (replicate 128 true) l r → (Ok n ≡ fresh_answer (read_sheet s) l) × (r ≡ fresh_bytes (read_sheet s) l)
      unfolding fresh_answer fresh_bytes must accepted
      fresh_done h r g = (
        rw (read.2, same_size true h) (ap Ok (sym read.3)),
        rw (read.2, same_size true h) (all_worked s n l r accepted g),
      )

    module _ (l : List ℕ) (i ty bits : ℕ) (y : Result ℕ Refused) (j : Judged s (length l) n i ty bits y) where
      pub change_fault : (z : Refused) → y ≡ Err z → (ms : List Bool) → Changes s l i ty bits ms (Err z) l ms
      unfolding Judged Judges change_answer change_bytes change_marks
      change_fault z h ms =
          let w : Judges s read.0 (length l) i ty bits (Err z) = subst (Judges s read.0 (length l) i ty bits) h (j read.0 read.1 read.2 read.3) in
          let ne = ne_eqb z.number 0 w.1 in
          (rw (read.2, w.0, ne) (ap (λ (p : ℕ). refusal z.number p) w.2), rw (read.2, w.0, ne), rw (read.2, w.0, ne))

      module _ (at : ℕ) (h : y ≡ Ok at) where
        judged : (fault_of read.0 (length l) i ty bits ≡ 0) × At s read.0 i at
        unfolding Judged Judges
        judged = subst (Judges s read.0 (length l) i ty bits) h (j read.0 read.1 read.2 read.3)

        pub among : i < n
        among = omega (arith, (no_fault read.0 (length l) i ty bits judged.0).among, read.3)

        pub ready : Ready s n i at
        unfolding accepted
        ready = record { accepted = accepted; here = judged.1; among = among }

        pub change_done : (r : List ℕ) (ms ns : List Bool) (count : ℕ) → Applied s n i ty bits l r ns count → Changes s l i ty bits ms (Ok count) r ns
        unfolding change_answer change_bytes change_marks Applied
        change_done r ms ns count g =
            let w = g read.0 read.1 read.2 read.3 in (
              rw (read.2, judged.0) (ap Ok (w.counted ∙ ap (tally (depends (refs_of read.0) i)) (sym read.3))),
              rw (read.2, judged.0) (w.wrote ∙ ap (λ (k : ℕ). changed (means_of read.0) (refs_of read.0) i (content_bytes ty bits) k l) (sym read.3)),
              rw (read.2, judged.0) w.marked,
            )
