-- Which bytes decide a refusal: a sheet that agrees on them, and is long enough, is refused alike.
use mathlib.Core.Path.{◌≡◌, refl, sym, ap, subst, ◌∙◌}
use mathlib.Core.Bool.{Bool, true, false, ◌&&◌}
use mathlib.Core.Logic.{⊎_elim}
use mathlib.Core.List.{List, [], ◌∷◌, ◌++◌, map}
use Prim.Native.Nat.{ℕ, zero, suc, ◌+◌, ◌≤◌, ◌<◌}
use native.Mathlib.Omega.{arith}
use lib.Dec.{leb, ltb, eqb}
use lib.ListN.{length, get_or}
use borrow.Author.Tests.{leb-true, leb-false, le-leb, lt-leb, ltb-true, lt-ltb}
use Rattle.types.specs.Edition.{plain}
use Rattle.value.specs.Pattern.{pick}
use Rattle.value.specs.Refusals as No
use Rattle.std.specs.Prelude.{Result}
use Rattle.low.specs.declared.Refused.{Refused}
use Rattle.low.specs.Read.{refusal}
use Rattle.sheet.specs.declared.Head.{Head}
use Rattle.low.specs.Bytes.{part}
use Rattle.low.proofs.Parts.{length_part, at_part}
use Rattle.low.specs.Read.{Read, found, refused, must, then_read, read_as, placed_from, there}
use Rattle.sheet.specs.Tree.{Entry, entry_stage}
use Rattle.sheet.specs.Stage.{stage_known}
use Rattle.sheet.specs.Record.{body_len, read_head, read_body, on_head, read_record}
use Rattle.sheet.specs.Sheet.{sheet_of, read_records, read_from, read_sheet}
use Rattle.low.proofs.Reading.{never}
use Rattle.sheet.proofs.Records.{record_there}
use Rattle.writer.specs.Refused.{extent, Agree, LongEnough, RefusedAlike}
use Rattle.writer.proofs.Looked.{looked, Same, agree_less, must_same, test_same, must_least, word_same, body_same}

looked_placed : {A : Type 0} (start : ℕ) (x : Read A) → looked (placed_from start x) ≡ start + looked x
unfolding looked placed_from
looked_placed start (found a n) = refl
looked_placed start (refused k p) = omega arith

-- ---- a sheet t that is long enough for what s was answered
unfoldable Fits : {A : Type 0} → List ℕ → List ℕ → Read A → Type 0
Fits s t (found a n) = length s ≤ length t
Fits s t (refused k p) = LongEnough s t k p

long_enough : (s t : List ℕ) (k p : ℕ) → LongEnough s t k p → length s ≤ length t
long_enough s t k p f = ⊎_elim (λ (e : length s ≡ length t). omega arith) (λ w. w.0) f

fits_long : {A : Type 0} (s t : List ℕ) (x : Read A) → Fits s t x → length s ≤ length t
unfolding Fits
fits_long s t (found a n) f = f
fits_long s t (refused k p) f = long_enough s t k p f

-- so many bytes are there
cut_fits : {A : Type 0} (s t : List ℕ) (at n : ℕ) (x y : Read A) → (at + n ≤ length s → Fits s t x → Agree (looked x) s t → x ≡ y)
    → Fits s t (must (there s at n) (refused No.CutShort (length s)) x) → Agree (looked (must (there s at n) (refused No.CutShort (length s)) x)) s t
    → must (there s at n) (refused No.CutShort (length s)) x ≡ must (there t at n) (refused No.CutShort (length t)) y
unfolding Fits
cut_fits s t at n x y f =
    must_same (Fits s t) s t (there s at n) (there t at n) (refused No.CutShort (length s)) (refused No.CutShort (length t)) x y
    (λ g u a.
    let e = ⊎_elim (λ (e : length s ≡ length t). e) (λ w. absurd (let z = w.2 refl in omega arith)) u in
    (ap (leb (at + n)) (sym e) ∙ g, ap (refused 22) e))
    (λ g u a.
    let l = leb-true (at + n) (length s) g in
    (le-leb (at + n) (length t) (omega (arith, fits_long s t x u)), f l u a))

-- ---- a record: its checks one after another
module _ (stages s : List ℕ) (at : ℕ) where
  -- its body, by the stage byte and the length
  abbrev body_read : ℕ → ℕ → Read Entry
  body_read stage n = must (there s (at + 5) n) (refused No.CutShort (length s)) (placed_from (at + 5) (read_body plain stages stage (part s (at + 5) n)))

  abbrev record_read : Read Entry
  record_read =
      must (there s at 5) (refused No.CutShort (length s))
      (must (eqb (get_or s at 0) 213 && eqb (get_or s (at + 1) 0) 23) (refused No.BadMark at)
      (must (stage_known (get_or s (at + 2) 0)) (refused No.BadStage (at + 2))
      (body_read (get_or s (at + 2) 0) (body_len s at))))

  on_must : (g : Bool) (k p : ℕ) (h : Result Head Refused) → on_head plain (must g (refusal k p) h) stages s ≡ must g (refused k p) (on_head plain h stages s)
  unfolding must
  on_must true k p h = refl
  on_must false k p h = refl

  record_opened : read_record plain stages s at ≡ record_read
  unfolding read_record read_head
  record_opened =
      on_must (there s at 5) No.CutShort (length s) _
      ∙ ap (must (there s at 5) (refused No.CutShort (length s)))
      (on_must (eqb (get_or s at 0) 213 && eqb (get_or s (at + 1) 0) 23) No.BadMark at _
      ∙ ap (must (eqb (get_or s at 0) 213 && eqb (get_or s (at + 1) 0) 23) (refused No.BadMark at))
      (on_must (stage_known (get_or s (at + 2) 0)) No.BadStage (at + 2) _
      ∙ ap (must (stage_known (get_or s (at + 2) 0)) (refused No.BadStage (at + 2))) (on_must (there s (at + 5) (body_len s at)) No.CutShort (length s) _)))

  body_least : (stage n : ℕ) → at + 5 ≤ length s → at + 5 ≤ looked (body_read stage n)
  unfolding looked
  body_least stage n l = must_least (at + 5) _ _ _ (λ z. omega arith) (λ z. omega (arith, looked_placed (at + 5) (read_body plain stages stage (part s (at + 5) n))))

  stage_least : at + 5 ≤ length s → at + 3 ≤ looked (must (stage_known (get_or s (at + 2) 0)) (refused No.BadStage (at + 2)) (body_read (get_or s (at + 2) 0) (body_len s at)))
  unfolding extent looked
  stage_least l = must_least (at + 3) _ _ _ (λ z. omega arith) (λ z. omega (arith, body_least (get_or s (at + 2) 0) (body_len s at) l))

  record_least : at ≤ length s → at ≤ looked (read_record plain stages s at)
  unfolding looked
  record_least l =
      subst (λ (x : Read Entry). at ≤ looked x) (sym record_opened)
      (must_least at _ _ _ (λ z. omega arith) (λ z. must_least at _ _ _ (λ y. omega arith) (λ y. omega (arith, stage_least (leb-true (at + 5) (length s) z)))))

module _ (stages s t : List ℕ) (at : ℕ) where
  body_alike : (stage n : ℕ) → Fits s t (body_read stages s at stage n) → Same (λ (x : List ℕ). body_read stages x at stage n) s t
  body_alike stage n =
      cut_fits s t (at + 5) n _ _ (λ l u a.
      let m : at + 5 + n ≤ length t = omega (arith, fits_long s t _ u) in
      let e = length_part s (at + 5) n l in
      let f = length_part t (at + 5) n m in
      let k = looked_placed (at + 5) (read_body plain stages stage (part s (at + 5) n)) in
      ap (placed_from (at + 5)) (body_same (part s (at + 5) n) (part t (at + 5) n) (e ∙ sym f) stages stage
      (λ i h j. at_part s (at + 5) n i (omega arith) ∙ a (at + 5 + i) (omega arith) (omega arith) ∙ sym (at_part t (at + 5) n i (omega arith)))))

  opened_alike : Fits s t (record_read stages s at) → Same (λ (x : List ℕ). record_read stages x at) s t
  unfolding extent
  opened_alike =
      cut_fits s t at 5 _ _ (λ l.
      test_same (Fits s t) s t (at + 2) _ _ 21 at _ _ (marks l) (omega arith) (λ z. omega (arith, stage_least stages s at l)) (λ z.
      test_same (Fits s t) s t (at + 3) _ _ 23 (at + 2) _ _ (stage l) (omega arith) (λ y. omega (arith, least l)) (λ y u a.
      body_alike (get_or s (at + 2) 0) (body_len s at) u a ∙ moved l (agree_less s t (at + 5) _ (least l) a))))
    where
      least : at + 5 ≤ length s → at + 5 ≤ looked (body_read stages s at (get_or s (at + 2) 0) (body_len s at))
      least l = body_least stages s at (get_or s (at + 2) 0) (body_len s at) l

      marks : at + 5 ≤ length s → Agree (at + 2) s t → (eqb (get_or s at 0) 213 && eqb (get_or s (at + 1) 0) 23) ≡ (eqb (get_or t at 0) 213 && eqb (get_or t (at + 1) 0) 23)
      marks l a = rw (a at (omega arith) (omega arith), a (at + 1) (omega arith) (omega arith))

      stage : at + 5 ≤ length s → Agree (at + 3) s t → stage_known (get_or s (at + 2) 0) ≡ stage_known (get_or t (at + 2) 0)
      stage l a = ap (λ (k : ℕ). stage_known k) (a (at + 2) (omega arith) (omega arith))

      moved : at + 5 ≤ length s → Agree (at + 5) s t
          → body_read stages t at (get_or s (at + 2) 0) (body_len s at) ≡ body_read stages t at (get_or t (at + 2) 0) (body_len t at)
      moved l a =
          ap (λ (k : ℕ). body_read stages t at k (body_len s at)) (a (at + 2) (omega arith) (omega arith))
          ∙ ap (body_read stages t at (get_or t (at + 2) 0)) (word_same s t 2 (at + 3) (omega arith) (agree_less s t (at + 3 + 2) (at + 5) (omega arith) a))

  record_alike : Fits s t (read_record plain stages s at) → Same (λ (x : List ℕ). read_record plain stages x at) s t
  record_alike f a =
      record_opened stages s at
      ∙ opened_alike (subst (Fits s t) (record_opened stages s at) f) (subst (λ (x : Read Entry). Agree (looked x) s t) (record_opened stages s at) a)
      ∙ sym (record_opened stages t at)

-- a refusal is the same whatever was to be read
refusals : {A B : Type 0} (j o k p : ℕ) → ◌≡◌ {A = Read A} (refused j o) (refused k p) → ◌≡◌ {A = Read B} (refused j o) (refused k p)
refusals j o k p e = let x : j ≡ k = cc in let y : o ≡ p = cc in ap (λ (z : ℕ). refused z o) x ∙ ap (refused k) y

-- ---- the records from a place on
after_record_lem : (stages s : List ℕ) (at : ℕ) (e : Entry) (n : ℕ) → read_record plain stages s at ≡ found e n → (at ≤ n) × (n ≤ length s)
after_record_lem stages s at e n q = let w = record_there plain stages s at e n q in (omega (arith, w.ends, w.after), omega (arith, w.ends, w.inside))

-- what follows one record, if there is one
abbrev next_read : Bool → ℕ → List ℕ → List Entry → ℕ → Read Entry → Read (List Entry)
next_read more room s done at x = pick more (then_read x (λ e n. read_records plain room s (done ++ e ∷ []) n)) (found done at)

records_least : (room : ℕ) (s : List ℕ) (done : List Entry) (at : ℕ) → at ≤ length s → at ≤ looked (read_records plain room s done at)
unfolding read_records then_read looked
records_least zero s done at l = go (ltb at (length s))
  where
    go : (b : Bool) → at ≤ looked {A = List Entry} (pick b (refused No.TooManyEntries at) (found done at))
    go true = omega arith
    go false = omega arith
records_least (suc room) s done at l =
    go (records_least room s) (ltb at (length s)) (read_record plain (map entry_stage done) s at) refl (record_least (map entry_stage done) s at l)
  where
    go : ((done : List Entry) (at : ℕ) → at ≤ length s → at ≤ looked (read_records plain room s done at))
        → (b : Bool) (x : Read Entry) → read_record plain (map entry_stage done) s at ≡ x → at ≤ looked x → at ≤ looked (next_read b room s done at x)
    go ih true (found e n) q h = let w = after_record_lem (map entry_stage done) s at e n q in omega (arith, ih (done ++ e ∷ []) n w.1, w.0)
    go ih true (refused k p) q h = h
    go ih false x q h = omega arith

module _ (s t : List ℕ) (k p : ℕ) (agree : Agree (p + extent k) s t) (long : LongEnough s t k p) where
  more_there : (at : ℕ) → ltb at (length s) ≡ true → ltb at (length t) ≡ true
  more_there at e = lt-ltb at (length t) (omega (arith, ltb-true at (length s) e, long_enough s t k p long))

  records_alike : (room : ℕ) (done : List Entry) (at : ℕ) → at ≤ length s → read_records plain room s done at ≡ refused k p → read_records plain room t done at ≡ refused k p
  unfolding read_records then_read looked Fits
  records_alike zero done at l e = go (ltb at (length s)) refl e
    where
      go : (b : Bool) → ltb at (length s) ≡ b → pick b (refused No.TooManyEntries at) (found done at) ≡ refused k p
          → pick (ltb at (length t)) (refused No.TooManyEntries at) (found done at) ≡ refused k p
      go true q h = rw (more_there at q) h
      go false q h = absurd (never k p done at (sym h))
  records_alike (suc room) done at l e = go (records_alike room) (ltb at (length s)) (read_record plain stages s at) refl refl e
    where
      stages : List ℕ
      stages = map entry_stage done

      of_read : (x : Read Entry) → read_record plain stages s at ≡ x → Fits s t x → Agree (looked x) s t → read_record plain stages t at ≡ x
      of_read x r f a = sym (record_alike stages s t at (subst (Fits s t) (sym r) f) (subst (λ (y : Read Entry). Agree (looked y) s t) (sym r) a)) ∙ r

      go : ((done : List Entry) (at : ℕ) → at ≤ length s → read_records plain room s done at ≡ refused k p → read_records plain room t done at ≡ refused k p)
          → (b : Bool) (x : Read Entry) → ltb at (length s) ≡ b → read_record plain stages s at ≡ x → next_read b room s done at x ≡ refused k p
          → next_read (ltb at (length t)) room t done at (read_record plain stages t at) ≡ refused k p
      go ih true (found f n) q r h =
          let w = after_record_lem stages s at f n r in
          let far : n ≤ p + extent k = subst (λ (x : Read (List Entry)). n ≤ looked x) h (records_least room s (done ++ f ∷ []) n w.1) in
          let same : read_record plain stages t at ≡ found f n =
          of_read (found f n) r (long_enough s t k p long) (agree_less s t n (p + extent k) far agree) in
          ap (λ (g : Bool). next_read g room t done at (read_record plain stages t at)) (more_there at q)
          ∙ ap (next_read true room t done at) same ∙ ih (done ++ f ∷ []) n w.1 h
      go ih true (refused j o) q r h =
          let same : read_record plain stages t at ≡ refused k p = of_read (refused k p) (r ∙ refusals j o k p h) long agree in
          ap (λ (g : Bool). next_read g room t done at (read_record plain stages t at)) (more_there at q)
          ∙ ap (next_read true room t done at) same
      go ih false x q r h = absurd (never k p done at (sym h))

-- ---- the whole sheet
-- where what is made of a thing is refused, the thing was refused so
as_refused : {A B : Type 0} (f : A → B) (x : Read A) (k p : ℕ) → read_as f x ≡ refused k p → x ≡ refused k p
unfolding read_as
as_refused f (found a n) k p e = absurd (never k p (f a) n (sym e))
as_refused f (refused j o) k p e = refusals j o k p e

pub refused_alike : RefusedAlike
unfolding read_sheet read_from read_as must
refused_alike s t k p e agree long = go (leb (length s) 16384) refl e
  where
    go : (b : Bool) → leb (length s) 16384 ≡ b → must b (refused No.SheetTooLong 0) (read_from plain 0 s) ≡ refused k p → read_sheet t ≡ refused k p
    go true q h =
        let short : length t ≤ 16384 = ⊎_elim (λ (z : length s ≡ length t). omega (arith, leb-true (length s) 16384 q)) (λ w. w.1) long in
        ap (λ (g : Bool). must g (refused No.SheetTooLong 0) (read_from plain 0 t)) (le-leb (length t) 16384 short)
        ∙ ap (read_as (sheet_of plain 0)) (records_alike s t k p agree long 128 [] 0 (omega arith) (as_refused (sheet_of plain 0) (read_records plain 128 s [] 0) k p h))
    go false q h =
        let over : 16384 < length t = omega (arith, leb-false (length s) 16384 q, long_enough s t k p long) in
        ap (λ (g : Bool). must g (refused No.SheetTooLong 0) (read_from plain 0 t)) (lt-leb (length t) 16384 over) ∙ h
