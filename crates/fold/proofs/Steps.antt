-- Laws of the loop that works the marked entries of an accepted sheet, and of what it is used for.
use mathlib.Core.Path.{◌≡◌, refl, sym, ap, ◌∙◌}
use mathlib.Core.List.{List, Memᴰ}
use mathlib.Core.Bool.{Bool, true, false, ◌&&◌}
use Prim.Native.Nat.{ℕ, ◌+◌, ◌*◌, ◌/◌, ◌%◌, ◌^◌, ◌≤◌, ◌<◌}
use native.Mathlib.Omega.{arith}
use native.Mathlib.Nat.{le_antisymm, zero-add}
use Rattle.std.specs.Prelude.{Option, Some, None}
use Rattle.std.specs.Option.{SomeIff, option_eq}
use lib.ListN.{length, get_or, replicate, get_or-replicate}
use lib.Dec.{eqb}
use borrow.Author.Tests.{lt-leb, le-leb, eq-eqb, ne_eqb, eqb-true, eqb-false}
use Rattle.low.specs.Bytes.{part}
use Rattle.low.specs.Read.{found}
use Rattle.low.proofs.Tables.{table_at}
use Rattle.types.specs.Edition.{Edition, plain}
use Rattle.value.specs.Pattern.{pick}
use Rattle.operand.specs.declared.Instance.{Instance}
use Rattle.operand.specs.declared.Outcome.{Outcome}
use Rattle.operand.specs.Outcome.{value_of}
use Rattle.slot.specs.Slot.{bytes_of, slot, put}
use Rattle.slot.proofs.Slots.{bytes_long}
use Rattle.sheet.specs.Sheet.{Sheet, read_sheet}
use Rattle.entries.specs.declared.Span.{Span}
use Rattle.entries.specs.Entries.{entry_at, refs_of}
use Rattle.entries.specs.Depend.{touched}
use Rattle.entries.specs.Records.{begins_in, span_of, place_after}
use Rattle.entries.specs.Inside.{At, Here, Accepted, Ready, Dependents}
use Rattle.entries.proofs.Places.{at_begin, few, same_sheet, place_there, span_after, earlier}
use Rattle.entries.proofs.Turning.{its_body, its_next}
use Rattle.work.specs.Meaning.{entry_meaning}
use Rattle.work.specs.Inside.{BodyMeans}
use Rattle.work.proofs.Trees.{entry_same}
use Rattle.fold.specs.Fresh.{means_of, evaluated, fresh}
use Rattle.fold.specs.Change.{content, content_bytes}
use Rattle.fold.specs.Inside.{Placed, marked_from, Works, WorksAll, Found, Applied}
use Rattle.fold.proofs.Evaluated.{evaluated_more, evaluated_none, evaluated_chosen}
use Rattle.fold.proofs.Changes.{Ordered, changed_marked}

-- ---- a size in whole slots
pub sized_is : (size n : ℕ) → (eqb (size / 136) n && eqb (size % 136) 0) ≡ eqb size (136 * n)
sized_is size n = go (eqb (size / 136) n) refl (eqb (size % 136) 0) refl
  where
    go : (a : Bool) → eqb (size / 136) n ≡ a → (b : Bool) → eqb (size % 136) 0 ≡ b → (a && b) ≡ eqb size (136 * n)
    go true p true q = sym (eq-eqb size (136 * n) (omega (arith, eqb-true (size / 136) n p, eqb-true (size % 136) 0 q)))
    go true p false q = sym (ne_eqb size (136 * n) (λ e. eqb-false (size % 136) 0 q (omega arith)))
    go false p b q = sym (ne_eqb size (136 * n) (λ e. eqb-false (size / 136) n p (omega arith)))

-- as `sized` asks it: o is std's product by 136, where 64 bits hold it
pub sized_found : (size n : ℕ) (o : Option ℕ) {b : Bool} → size < 2 ^ 64 → SomeIff o (n * 136 < 2 ^ 64) (n * 136) → b ≡ option_eq eqb o (Some size) → b ≡ eqb size (136 * n)
sized_found size n None f h e = e ∙ sym (ne_eqb size (136 * n) (λ q. h (fits q)))
  where
    fits : size ≡ 136 * n → n * 136 < 2 ^ 64
    fits q = omega arith
sized_found size n (Some x) f h e = e ∙ go (eqb x size) refl
  where
    go : (t : Bool) → eqb x size ≡ t → eqb x size ≡ eqb size (136 * n)
    go true p = p ∙ sym (eq-eqb size (136 * n) (omega (arith, eqb-true x size p, h.1)))
    go false p = p ∙ sym (ne_eqb size (136 * n) (λ q. eqb-false x size p (omega (arith, h.1))))

-- ---- the meanings of an accepted sheet look at earlier entries alone
means_same : (sh : Sheet) (k : ℕ) (l r : List ℕ) → ((j : ℕ) → Memᴰ j (refs_of sh k) → slot l j ≡ slot r j) → means_of sh k l ≡ means_of sh k r
unfolding means_of refs_of
means_same sh k l r f = ap bytes_of (entry_same sh.edition l r (entry_at sh k) f)

means_wide : (sh : Sheet) (k : ℕ) (l : List ℕ) → length (means_of sh k l) ≡ 136
unfolding means_of
means_wide sh k l = bytes_long (entry_meaning sh.edition l (entry_at sh k))

pub ordered : (s : List ℕ) (sh : Sheet) (z : ℕ) → read_sheet s ≡ found sh z → Ordered (means_of sh) (refs_of sh)
ordered s sh z good = record { earlier = earlier s sh z good; local = record { wide = means_wide sh; same = means_same sh } }

-- ---- one entry: r is what was read of its record, b its body
module _ (s : List ℕ) (at : ℕ) (r : Span) (w : r ≡ span_of s at) (k : ℕ) (marks : List Bool) (l : List ℕ) where
  pub works_not : get_or marks k false ≡ false → Works s k at marks l l r.next
  unfolding Works
  works_not q = λ sh p more. record { after = rw w (span_after s sh k at p more); wrote = rw q }

  pub works_is : get_or marks k false ≡ true → (b : List ℕ) → b ≡ part s r.start r.len → (o : Outcome) → BodyMeans plain r.stage b l o
      → (x : List ℕ) → x ≡ put l k (bytes_of o) → Works s k at marks l x r.next
  unfolding Works BodyMeans means_of
  works_is q b e o m x h = λ sh p more.
      record {
        after = its_next s at r w b e sh k p more;
        wrote =
            rw q
            (h ∙ ap (λ (y : Outcome). put l k (bytes_of y)) (meant sh p more));
      }
    where
      meant : (sh : Sheet) → At s sh k at → k < length sh.entries → o ≡ entry_meaning sh.edition l (entry_at sh k)
      meant sh p more = m (entry_at sh k) (its_body s at r w b e sh k p more) ∙ in_plain sh.edition
        where
          in_plain : (ed : Edition) → entry_meaning plain l (entry_at sh k) ≡ entry_meaning ed l (entry_at sh k)
          in_plain plain = refl

-- ---- where the loop stands
pub record Working (s : List ℕ) (n from : ℕ) (marks : List Bool) (l : List ℕ) (k at : ℕ) (r : List ℕ) : Type 0 where
  pub accepted : Accepted s n
  pub place : At s accepted.sheet k at
  pub wrote : r ≡ evaluated (means_of accepted.sheet) (marked_from from marks) k l
  pub past : from ≤ k

pub working_start : (s : List ℕ) (n from place : ℕ) (marks : List Bool) (l : List ℕ) → Placed s n from place → Working s n from marks l from place l
working_start s n from place marks l y =
    record {
      accepted = y.accepted;
      place = y.here;
      wrote = sym (evaluated_none _ (marked_from from marks) from l (λ j h. rw (lt-leb from j h)));
      past = omega arith;
    }

module _ (s : List ℕ) (n from : ℕ) (marks : List Bool) (l : List ℕ) (k at : ℕ) (r : List ℕ) (f : Working s n from marks l k at r) where
  pub working_here : k < n → Here s k at
  working_here h = record { sheet = f.accepted.sheet; place = f.place; more = omega (arith, f.accepted.count) }

  pub working_more : k < n → (x : List ℕ) (next : ℕ) → Works s k at marks r x next → Working s n from marks l (k + 1) next x
  unfolding Works
  working_more h x next w =
      let v = w f.accepted.sheet f.place (omega (arith, f.accepted.count)) in
      let m = means_of f.accepted.sheet in
      let chosen : get_or marks k false ≡ marked_from from marks k = sym (ap (λ (b : Bool). b && get_or marks k false) (le-leb from k f.past)) in
      record {
        accepted = f.accepted;
        place = v.after;
        wrote =
            v.wrote ∙ ap (λ (t : List ℕ). pick (get_or marks k false) (put t k (m k t)) t) f.wrote
            ∙ ap (λ (b : Bool). pick b (put (made k) k (m k (made k))) (made k)) chosen ∙ sym (evaluated_more m (marked_from from marks) k l);
        past = let p = f.past in omega arith;
      }
    where
      made : ℕ → List ℕ
      made j = evaluated (means_of f.accepted.sheet) (marked_from from marks) j l

  pub working_end : k ≤ n → n ≤ k → WorksAll s n from marks l r
  unfolding WorksAll
  working_end h i = λ sh z good c.
      f.wrote ∙ ap (λ (t : Sheet). evaluated (means_of t) (marked_from from marks) k l) (same_sheet s f.accepted.sheet f.accepted.end f.accepted.read sh z good)
      ∙ ap (λ (j : ℕ). evaluated (means_of sh) (marked_from from marks) j l) (le_antisymm h i)

-- it starts no later than it ends
pub working_none : (s : List ℕ) (n from place : ℕ) → Placed s n from place → from ≤ n
working_none s n from place y = omega (arith, y.here.within, y.accepted.count)

-- ---- fresh evaluation: all are marked
pub all_placed : (s : List ℕ) (n at : ℕ) → Accepted s n → at ≡ begins_in (read_sheet s) → Placed s n 0 at
unfolding begins_in
all_placed s n at y e =
    let q : at ≡ y.sheet.begins = e ∙ ap begins_in y.read in
    record { accepted = y; here = rw q (at_begin s y.sheet y.end y.read) }

pub all_worked : (s : List ℕ) (n : ℕ) (l r : List ℕ) (y : Accepted s n) → WorksAll s n 0 (replicate 128 true) l r → r ≡ fresh y.sheet l
unfolding WorksAll fresh
all_worked s n l r y h =
    h y.sheet y.end y.read y.count
    ∙ evaluated_chosen (means_of y.sheet) (marked_from 0 (replicate 128 true)) (λ k. true) n l
    (λ k q. rw (le-leb 0 k (omega arith)) (get_or-replicate 128 k true false (omega (arith, y.count, few s y.sheet y.end y.read))))
    ∙ ap (λ (j : ℕ). evaluated (means_of y.sheet) (λ k. true) j l) (sym y.count)

-- ---- the way to entry i
pub found_not : (s : List ℕ) (n i : ℕ) → n ≤ i → Found s n i None
unfolding Found
found_not s n i h = h

pub found_at : (s : List ℕ) (n i at r : ℕ) → i < n → at ≡ begins_in (read_sheet s) → r ≡ place_after s at i → Found s n i (Some r)
unfolding Found begins_in
found_at s n i at r h e f = (
  h,
  λ sh z good c.
      let b : at ≡ sh.begins = e ∙ ap begins_in good in
      rw (f, b) (rw (zero-add i) at (place_there s sh 0 sh.begins (at_begin s sh z good) i (omega arith))),
)

-- ---- the change of setting i
-- new content in the setting's slot
pub put_content : (l : List ℕ) (i ty bits : ℕ) (v : Instance) (o : Outcome) (r : List ℕ) → v ≡ content ty bits → o ≡ value_of v → r ≡ put l i (bytes_of o)
    → r ≡ put l i (content_bytes ty bits)
put_content l i ty bits v o r e q h = h ∙ ap (λ (x : Outcome). put l i (bytes_of x)) (q ∙ ap value_of e)

pub next_placed : (s : List ℕ) (n i place : ℕ) (own : Span) → Ready s n i place → own ≡ span_of s place → Placed s n (i + 1) own.next
next_placed s n i place own y w =
    record { accepted = y.accepted; here = rw w (span_after s y.accepted.sheet i place y.here (omega (arith, y.among, y.accepted.count))) }

pub applied : (s : List ℕ) (n i ty bits : ℕ) (l x r : List ℕ) (ms : List Bool) (count : ℕ) → i < n → Dependents s n i ms count → x ≡ put l i (content_bytes ty bits)
    → WorksAll s n (i + 1) ms x r → Applied s n i ty bits l r ms count
unfolding Applied Dependents WorksAll
applied s n i ty bits l x r ms count h d e f = λ sh z good c.
    let m = d sh z good c in
    let ord = ordered s sh z good in
    let right : (k : ℕ) → k < n → get_or ms k false ≡ touched (refs_of sh) i k =
    λ k q. ap (λ (t : List Bool). get_or t k false) m.marked ∙ table_at (touched (refs_of sh) i) false 128 k (omega (arith, c, few s sh z good)) in
    record {
      wrote = f sh z good c ∙ ap (evaluated (means_of sh) (marked_from (i + 1) ms) n) e ∙ changed_marked (means_of sh) (refs_of sh) ord.earlier i (content_bytes ty bits) l ms n right h;
      marked = m.marked;
      counted = m.counted;
    }
