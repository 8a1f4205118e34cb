-- Laws of the whole sheet: its records one by one, forwards as the code goes and backwards from what was accepted.
use mathlib.Core.Path.{◌≡◌, refl, sym, ap, ◌∙◌}
use mathlib.Core.Bool.{Bool, true, false}
use mathlib.Core.List.{List, [], ◌∷◌, ◌++◌, map, map-append, append_assoc, append-nil}
use Prim.Native.Nat.{ℕ, zero, suc, ◌+◌, ◌-◌, ◌<◌, ◌≤◌}
use native.Mathlib.Numerals.{sub-one, add-one}
use native.Mathlib.Omega.{arith}
use lib.ListN.{length, take, set, length-append, length-set}
use lib.Seq.{take-suc-set}
use lib.Dec.{ltb, leb}
use borrow.Author.Tests.{lt-ltb, le-ltb, le-leb, lt-leb}
use Rattle.value.specs.Pattern.{pick}
use Rattle.value.specs.Refusals as No
use Rattle.std.specs.Prelude.{Result, Ok, Err}
use Rattle.low.specs.declared.Refused.{Refused}
use Rattle.sheet.specs.declared.Passed.{Passed}
use Rattle.low.specs.Read.{Read, found, refused, must, then_read, read_as, refusal}
use Rattle.sheet.specs.Tree.{Entry, entry_stage}
use Rattle.sheet.specs.Record.{read_record, passed_of}
use Rattle.sheet.specs.Sheet.{Sheet, sheet_of, read_records, read_from, read_sheet, counted_of}
use Rattle.low.proofs.Reading.{never, must_found, as_found}
use Rattle.sheet.proofs.Records.{record_there}
use Rattle.types.specs.Edition.{Edition, plain}

-- ---- from the code's answer to the definition's
was_passed : (x : Read Entry) (o : Passed) → Ok o ≡ passed_of x → (e : Entry) × (entry_stage e ≡ o.stage) × (x ≡ found e o.next)
was_passed (found e m) o q =
    let h : o ≡ record { stage = entry_stage e; next = m } = cc in
    (e, sym (ap (λ (p : Passed). p.stage) h), ap (found e) (sym (ap (λ (p : Passed). p.next) h)))
was_passed (refused j r) o q = absurd (let z : ◌≡◌ {A = ℕ} 0 1 = cc in omega arith)

was_stopped : (x : Read Entry) (z : Refused) → Err z ≡ passed_of x → x ≡ refused z.number z.place
was_stopped (found e n) z q = absurd (let y : ◌≡◌ {A = ℕ} 0 1 = cc in omega arith)
was_stopped (refused j r) z q =
    let h : z ≡ record { number = j; place = r } = cc in
    rw h

pub was_good : (x : Read Sheet) (n : ℕ) → Ok n ≡ counted_of x → (sh : Sheet) × (m : ℕ) × (x ≡ found sh m) × (length sh.entries ≡ n)
was_good (found sh m) n e = (sh, m, refl, let z : length sh.entries ≡ n = cc in z)
was_good (refused j q) n e = absurd (let z : ◌≡◌ {A = ℕ} 0 1 = cc in omega arith)

pub was_bad : (x : Read Sheet) (z : Refused) → Err z ≡ counted_of x → x ≡ refused z.number z.place
was_bad (found sh m) z e = absurd (let y : ◌≡◌ {A = ℕ} 0 1 = cc in omega arith)
was_bad (refused j q) z e =
    let h : z ≡ record { number = j; place = q } = cc in
    rw h

-- what follows one record
abbrev after_record : Edition → ℕ → List ℕ → List Entry → Read Entry → Read (List Entry)
after_record ed room s done x = then_read x (λ e n. read_records ed room s (done ++ e ∷ []) n)

-- the stages of the entries done, one more entry
one_staged : (stages : List ℕ) (n g : ℕ) (done : List Entry) (e : Entry) → n < length stages → take n stages ≡ map entry_stage done → entry_stage e ≡ g
    → take (n + 1) (set stages n g) ≡ map entry_stage (done ++ e ∷ [])
one_staged stages n g done e h f q =
    rw add-one
    (take-suc-set stages n g h
    ∙ ap (λ (l : List ℕ). l ++ g ∷ []) f
    ∙ ap (λ (k : ℕ). map entry_stage done ++ k ∷ []) (sym q)
    ∙ sym (map-append entry_stage done (e ∷ [])))

unlike : (d : List Entry) (e : Entry) (r : List Entry) → d ≡ d ++ e ∷ r → ⊥
unlike d e r q = omega (arith, ap length q, length-append d (e ∷ r))

cancel : (d : List Entry) (e f : Entry) (r q : List Entry) → d ++ e ∷ r ≡ d ++ f ∷ q → (e ≡ f) × (r ≡ q)
cancel [] e f r q h = (cc, cc)
cancel (x ∷ d) e f r q h = cancel d e f r q cc

module _ (ed : Edition) where
  -- ---- the records from a place on
  pub records_end : (room : ℕ) (s : List ℕ) (done : List Entry) (at : ℕ) → length s ≤ at → read_records ed room s done at ≡ found done at
  unfolding read_records
  records_end zero s done at l = simp (le-ltb at (length s) l)
  records_end (suc room) s done at l = simp (le-ltb at (length s) l)

  pub records_full : (room : ℕ) (s : List ℕ) (done : List Entry) (at : ℕ) → at < length s → room ≡ 0 → read_records ed room s done at ≡ refused No.TooManyEntries at
  unfolding read_records
  records_full zero s done at l e = simp (lt-ltb at (length s) l)
  records_full (suc room) s done at l e = absurd (omega arith)

  records_step : (room : ℕ) (s : List ℕ) (done : List Entry) (at : ℕ) → at < length s → 0 < room
      → read_records ed room s done at ≡ after_record ed (room - 1) s done (read_record ed (map entry_stage done) s at)
  unfolding read_records
  records_step zero s done at l e = absurd (omega arith)
  records_step (suc room) s done at l e = simp (lt-ltb at (length s) l, sub-one (suc room))

  module _ (room : ℕ) (s : List ℕ) (done : List Entry) (at : ℕ) (stages : List ℕ) (l : at < length s) (h : 0 < room) (r : stages ≡ map entry_stage done) where
    step : (x : Read Entry) → read_record ed stages s at ≡ x → read_records ed room s done at ≡ after_record ed (room - 1) s done x
    step x e = records_step room s done at l h ∙ ap (after_record ed (room - 1) s done) (ap (λ (k : List ℕ). read_record ed k s at) (sym r) ∙ e)

    pub records_bad : (k p : ℕ) → read_record ed stages s at ≡ refused k p → read_records ed room s done at ≡ refused k p
    unfolding then_read
    records_bad k p q = step (refused k p) q

    pub records_next : (e : Entry) (n : ℕ) → read_record ed stages s at ≡ found e n → read_records ed room s done at ≡ read_records ed (room - 1) s (done ++ e ∷ []) n
    unfolding then_read
    records_next e n q = step (found e n) q

  -- a record that is read ends past its start, and within the sheet
  pub record_past : (stages s : List ℕ) (at : ℕ) (r : Result Passed Refused) → r ≡ passed_of (read_record ed stages s at) → (o : Passed) → r ≡ Ok o
      → (at < o.next) × (o.next ≤ length s)
  record_past stages s at r e o q =
      let w = was_passed (read_record ed stages s at) o (sym q ∙ e) in
      let k = record_there ed stages s at w.0 o.next w.2 in
      (omega (arith, k.ends, k.after), omega (arith, k.ends, k.inside))

  -- the entries of an accepted sheet begin with those done
  pub prefix : (room : ℕ) (s : List ℕ) (d : List Entry) (at : ℕ) (es : List Entry) (z : ℕ) → read_records ed room s d at ≡ found es z → (r : List Entry) × (es ≡ d ++ r)
  unfolding read_records then_read
  prefix zero s d at es z = go (ltb at (length s))
    where
      go : (b : Bool) → pick b (refused No.TooManyEntries at) (found d at) ≡ found es z → (r : List Entry) × (es ≡ d ++ r)
      go true q = absurd (never 24 at es z q)
      go false q = ([], let h : d ≡ es = cc in sym h ∙ sym (append-nil d))
  prefix (suc room) s d at es z = go (prefix room s) (ltb at (length s)) (read_record ed (map entry_stage d) s at)
    where
      go : ((d : List Entry) (at : ℕ) (es : List Entry) (z : ℕ) → read_records ed room s d at ≡ found es z → (r : List Entry) × (es ≡ d ++ r))
          → (b : Bool) (x : Read Entry) → pick b (after_record ed room s d x) (found d at) ≡ found es z → (r : List Entry) × (es ≡ d ++ r)
      go ih true (found e n) q = let w = ih (d ++ e ∷ []) n es z q in (e ∷ w.0, w.1 ∙ append_assoc d (e ∷ []) w.0)
      go ih true (refused k p) q = absurd (never k p es z q)
      go ih false x q = ([], let h : d ≡ es = cc in sym h ∙ sym (append-nil d))

  -- the next entry of an accepted sheet stands in the next record
  pub one_more : (room : ℕ) (s : List ℕ) (d : List Entry) (at : ℕ) (e : Entry) (r : List Entry) (z : ℕ) → read_records ed room s d at ≡ found (d ++ e ∷ r) z
      → (n : ℕ) × (read_record ed (map entry_stage d) s at ≡ found e n) × (read_records ed (room - 1) s (d ++ e ∷ []) n ≡ found ((d ++ e ∷ []) ++ r) z)
  unfolding read_records then_read
  one_more zero s d at e r z = go (ltb at (length s))
    where
      go : (b : Bool) → pick b (refused No.TooManyEntries at) (found d at) ≡ found (d ++ e ∷ r) z
          → (n : ℕ) × (read_record ed (map entry_stage d) s at ≡ found e n) × (read_records ed (zero - 1) s (d ++ e ∷ []) n ≡ found ((d ++ e ∷ []) ++ r) z)
      go true q = absurd (never 24 at (d ++ e ∷ r) z q)
      go false q = absurd (unlike d e r cc)
  one_more (suc room) s d at e r z = go (ltb at (length s)) (read_record ed (map entry_stage d) s at) refl
    where
      go : (b : Bool) (x : Read Entry) → read_record ed (map entry_stage d) s at ≡ x → pick b (after_record ed room s d x) (found d at) ≡ found (d ++ e ∷ r) z
          → (n : ℕ) × (read_record ed (map entry_stage d) s at ≡ found e n) × (read_records ed (suc room - 1) s (d ++ e ∷ []) n ≡ found ((d ++ e ∷ []) ++ r) z)
      go true (found f n) h q =
          let w = prefix room s (d ++ f ∷ []) n (d ++ e ∷ r) z q in
          let c = cancel d e f r w.0 (w.1 ∙ append_assoc d (f ∷ []) w.0) in
          let less : read_records ed (suc room - 1) s (d ++ e ∷ []) n ≡ read_records ed room s (d ++ e ∷ []) n = ap (λ (k : ℕ). read_records ed k s (d ++ e ∷ []) n) (sub-one (suc room)) in
          let same : read_records ed room s (d ++ e ∷ []) n ≡ found (d ++ e ∷ r) z = ap (λ (y : Entry). read_records ed room s (d ++ y ∷ []) n) c.0 ∙ q in
          (n, h ∙ ap (λ (y : Entry). found y n) (sym c.0), less ∙ same ∙ ap (λ (y : List Entry). found y z) (sym (append_assoc d (e ∷ []) r)))
      go true (refused k p) h q = absurd (never k p (d ++ e ∷ r) z q)
      go false x h q = absurd (unlike d e r cc)

-- ---- where the loop over the records stands: the entries done, and their stages in the front of the array
pub record Going (s stages : List ℕ) (n at : ℕ) : Type 0 where
  pub done : List Entry
  pub staged : take n stages ≡ map entry_stage done
  pub counted : length done ≡ n
  pub room : n ≤ 128
  pub wide : length stages ≡ 128
  pub short : length s ≤ 16384
  pub same : read_sheet s ≡ read_as (sheet_of plain 0) (read_records plain (128 - n) s done at)

pub sheet_long : (s : List ℕ) → 16384 < length s → refusal No.SheetTooLong 0 ≡ counted_of (read_sheet s)
unfolding read_sheet must
sheet_long s l = simp (lt-leb (length s) 16384 l)

pub going_start : (s stages : List ℕ) → length stages ≡ 128 → length s ≤ 16384 → Going s stages 0 0
unfolding read_sheet read_from must
going_start s stages w l = record { done = []; staged = refl; counted = refl; room = omega arith; wide = w; short = l; same = simp (le-leb (length s) 16384 l) }

module _ (s stages : List ℕ) (n at : ℕ) (i : Going s stages n at) where
  -- the sheet's answer, from that of the records to come
  answered : (x : Read (List Entry)) → read_records plain (128 - n) s i.done at ≡ x → read_sheet s ≡ read_as (sheet_of plain 0) x
  answered x e = i.same ∙ ap (read_as (sheet_of plain 0)) e

  pub going_end : length s ≤ at → Ok n ≡ counted_of (read_sheet s)
  unfolding read_as
  going_end l = sym (ap counted_of (answered (found i.done at) (records_end plain (128 - n) s i.done at l)) ∙ ap Ok i.counted)

  pub going_full : at < length s → 128 ≤ n → refusal No.TooManyEntries at ≡ counted_of (read_sheet s)
  unfolding read_as
  going_full l h = sym (ap counted_of (answered (refused No.TooManyEntries at) (records_full plain (128 - n) s i.done at l (omega arith))))

  module _ (l : at < length s) (h : n < 128) (r : Result Passed Refused) (e : r ≡ passed_of (read_record plain (take n stages) s at)) where
    pub going_bad : (z : Refused) → r ≡ Err z → Err z ≡ counted_of (read_sheet s)
    unfolding read_as
    going_bad z q =
        let k = z.number in
        let p = z.place in
        let x = was_stopped (read_record plain (take n stages) s at) z (sym q ∙ e) in
        sym (ap counted_of (answered (refused k p) (records_bad plain (128 - n) s i.done at (take n stages) l (omega arith) i.staged k p x)))

    pub going_on : (o : Passed) → r ≡ Ok o → Going s (set stages n o.stage) (n + 1) o.next
    going_on o q =
        let g = o.stage in
        let m = o.next in
        let w = was_passed (read_record plain (take n stages) s at) o (sym q ∙ e) in
        let after = records_next plain (128 - n) s i.done at (take n stages) l (omega arith) i.staged w.0 m w.2 in
        let less = ap (λ (k : ℕ). read_records plain k s (i.done ++ w.0 ∷ []) m) (let z : 128 - n - 1 ≡ 128 - (n + 1) = omega arith in z) in
        record {
          done = i.done ++ w.0 ∷ [];
          staged = one_staged stages n g i.done w.0 (omega (arith, i.wide)) i.staged w.1;
          counted = length-append i.done (w.0 ∷ []) ∙ omega (arith, i.counted);
          room = omega arith;
          wide = length-set stages n g ∙ i.wide;
          short = i.short;
          same = answered _ (after ∙ less);
        }

-- ---- backwards: a sheet that was accepted
pub sheet_good : (s : List ℕ) (sh : Sheet) (n : ℕ) → read_sheet s ≡ found sh n → read_records sh.edition 128 s [] sh.begins ≡ found sh.entries n
unfolding read_sheet read_from
sheet_good s sh n e =
    let m = must_found (leb (length s) 16384) 20 0 (read_from plain 0 s) sh n e in
    let a = as_found (sheet_of plain 0) (read_records plain 128 s [] 0) sh n m.1 in
    rw a.2 a.1

pub begins_first : (s : List ℕ) (sh : Sheet) (n : ℕ) → read_sheet s ≡ found sh n → 0 ≡ sh.begins
unfolding read_sheet read_from
begins_first s sh n e =
    let m = must_found (leb (length s) 16384) 20 0 (read_from plain 0 s) sh n e in
    ap (λ (x : Sheet). x.begins) (sym (as_found (sheet_of plain 0) (read_records plain 128 s [] 0) sh n m.1).2)
