-- Laws of the pass that marks the dependents of an entry.
use mathlib.Core.Path.{◌≡◌, refl, sym, ap, ap₂, ◌∙◌}
use mathlib.Core.List.{List, Memᴰ}
use mathlib.Core.Bool.{Bool, true, false, ◌||◌}
use mathlib.Core.Logic.{⊎_elim}
use Prim.Native.Nat.{ℕ, ◌+◌, ◌≤◌, ◌<◌}
use native.Mathlib.Omega.{arith}
use native.Mathlib.Nat.{le_antisymm}
use lib.ListN.{length, get_or, set, replicate, length-set, length-replicate, get_or-replicate, get_or-eq_default}
use lib.Seq.{get_or-set_same, get_or-set_other, ext_get_or}
use borrow.Author.Tests.{ne_eqb}
use Rattle.std.specs.Int.{from_bool}
use Rattle.integer.proofs.Order.{le_or_lt}
use Rattle.low.specs.Bytes.{part, up_to}
use Rattle.low.proofs.Tables.{table_long, table_at}
use Rattle.types.specs.Edition.{Edition, plain}
use Rattle.value.specs.Pattern.{pick}
use Rattle.sheet.specs.Tree.{Entry}
use Rattle.sheet.specs.Node.{any_marked}
use Rattle.sheet.specs.Sheet.{Sheet}
use Rattle.sheet.specs.Accepted.{Body, Bodied, NamesMarked}
use Rattle.entries.specs.declared.Span.{Span}
use Rattle.entries.specs.Entries.{entry_at, refs_of}
use Rattle.entries.specs.Depend.{any, depends, touched, tally}
use Rattle.entries.specs.Records.{span_of}
use Rattle.entries.specs.Inside.{At, Here, Accepted, Ready, Depended, Dependents}
use Rattle.entries.proofs.Chains.{any_nothing, touched_self, not_before, no_depends, depends_is, marked_depends, tally_more, tally_none, tally_small}
use Rattle.entries.proofs.Places.{few, same_sheet, entry_few, span_body, span_after, refs_past, earlier}

-- ---- one record: r is what was read of it, b its body
-- entry k has its turn: it is marked and counted if it names a marked entry
pub record Turned (s : List ℕ) (sh : Sheet) (k : ℕ) (ms ns : List Bool) (next count : ℕ) : Type 0 where
  pub after : At s sh (k + 1) next
  pub marked : ns ≡ set ms k (any_marked ms (refs_of sh k))
  pub counted : count ≡ pick (any_marked ms (refs_of sh k)) 1 0

counted_as : (hit : Bool) → from_bool hit ≡ pick hit 1 0
counted_as true = refl
counted_as false = refl

-- what the code asks of a body is said of the one edition
pub plain_body : (ed : Edition) (stage : ℕ) (b : List ℕ) (x : Entry) → Body ed stage b x → Body plain stage b x
plain_body plain stage b x y = y

module _ (s : List ℕ) (at : ℕ) (r : Span) (w : r ≡ span_of s at) (b : List ℕ) (e : b ≡ part s r.start r.len) where
  pub its_body : (sh : Sheet) (k : ℕ) → At s sh k at → k < length sh.entries → Body plain r.stage b (entry_at sh k)
  its_body sh k p more =
      plain_body sh.edition r.stage b (entry_at sh k)
      (rw e (rw w (span_body s sh k at p more)))

  pub its_next : (sh : Sheet) (k : ℕ) → At s sh k at → k < length sh.entries → At s sh (k + 1) r.next
  its_next sh k p more = rw w (span_after s sh k at p more)

  pub here_bodied : (k : ℕ) → Here s k at → Bodied plain r.stage b
  here_bodied k y = record { entry = entry_at y.sheet k; body = its_body y.sheet k y.place y.more }

  pub turned : (sh : Sheet) (k : ℕ) → At s sh k at → k < length sh.entries → (ms : List Bool) (hit : Bool) → NamesMarked plain r.stage b ms hit
      → (one : ℕ) → one ≡ from_bool hit → Turned s sh k ms (set ms k hit) r.next one
  unfolding NamesMarked refs_of
  turned sh k p more ms hit f one e =
      let t : hit ≡ any_marked ms (refs_of sh k) = f (entry_at sh k) (its_body sh k p more) in
      record { after = its_next sh k p more; marked = ap (set ms k) t; counted = e ∙ counted_as hit ∙ ap (λ (h : Bool). pick h 1 0) t }

pub here_few : (s : List ℕ) (k at : ℕ) → Here s k at → k < 128
here_few s k at y = entry_few s y.sheet k at y.place y.more

-- ---- where the pass stands: the entries before k are marked as they should be
clear : (j : ℕ) → get_or (replicate 128 false) j false ≡ false
clear j =
    ⊎_elim
    (λ (h : 128 ≤ j). get_or-eq_default (replicate 128 false) false {n = j} (omega (arith, length-replicate {A = Bool} 128 false)))
    (λ (h : j < 128). get_or-replicate 128 j false false h)
    (le_or_lt 128 j)

mark_set : (ms : List Bool) (k : ℕ) (b : Bool) → length ms ≡ 128 → k < 128 → get_or (set ms k b) k false ≡ b
mark_set ms k b e h = get_or-set_same ms k b false (omega arith)

pub record Marking (s : List ℕ) (n i k at : ℕ) (ms : List Bool) (count : ℕ) : Type 0 where
  pub accepted : Accepted s n
  pub place : At s accepted.sheet k at
  pub right : (j : ℕ) → j < k → get_or ms j false ≡ touched (refs_of accepted.sheet) i j
  pub rest : (j : ℕ) → k ≤ j → get_or ms j false ≡ false
  pub room : length ms ≡ 128
  pub counted : count ≡ tally (depends (refs_of accepted.sheet) i) k
  pub past : i < k

pub ready_few : (s : List ℕ) (n i place : ℕ) → Ready s n i place → i < 128
ready_few s n i place y = omega (arith, y.among, y.accepted.count, few s y.accepted.sheet y.accepted.end y.accepted.read)

pub marking_start : (s : List ℕ) (n i place : ℕ) (own : Span) → Ready s n i place → own ≡ span_of s place
    → Marking s n i (i + 1) own.next (set (replicate 128 false) i true) 0
marking_start s n i place own y w =
    record {
      accepted = y.accepted;
      place = rw w (span_after s sh i place y.here (omega (arith, y.among, y.accepted.count)));
      right = λ j q. here j q;
      rest = λ j q. get_or-set_other (replicate 128 false) i j true false (omega arith) ∙ clear j;
      room = length-set (replicate 128 false) i true ∙ length-replicate 128 false;
      counted = sym (tally_none (depends (refs_of sh) i) (i + 1) (λ j q. no_depends (refs_of sh) i early j (omega arith)));
      past = omega arith;
    }
  where
    sh : Sheet
    sh = y.accepted.sheet

    early : (k j : ℕ) → Memᴰ j (refs_of sh k) → j < k
    early = earlier s sh y.accepted.end y.accepted.read

    here : (j : ℕ) → j < i + 1 → get_or (set (replicate 128 false) i true) j false ≡ touched (refs_of sh) i j
    here j q =
        ⊎_elim
        (λ (g : i ≤ j).
        let e : j ≡ i = omega arith in
        rw e (mark_set (replicate 128 false) i true (length-replicate 128 false) (ready_few s n i place y) ∙ sym (touched_self (refs_of sh) i early)))
        (λ (g : j < i). get_or-set_other (replicate 128 false) i j true false (omega arith) ∙ clear j ∙ sym (not_before (refs_of sh) i early j g))
        (le_or_lt i j)

module _ (s : List ℕ) (n i k at : ℕ) (ms : List Bool) (count : ℕ) (f : Marking s n i k at ms count) where
  abbrev its : Sheet
  its = f.accepted.sheet

  early : (k j : ℕ) → Memᴰ j (refs_of its k) → j < k
  early = earlier s its f.accepted.end f.accepted.read

  pub marking_more : k < n → k < length its.entries
  marking_more h = omega (arith, f.accepted.count)

  pub marking_here : k < n → Here s k at
  marking_here h = record { sheet = its; place = f.place; more = marking_more h }

  pub marking_few : count ≤ k
  marking_few = omega (arith, f.counted, tally_small (depends (refs_of its) i) k)

  named : any_marked ms (refs_of its k) ≡ depends (refs_of its) i k
  named = marked_depends (refs_of its) i early ms k f.right

  chosen : touched (refs_of its) i k ≡ depends (refs_of its) i k
  chosen = ap (λ (b : Bool). b || depends (refs_of its) i k) (ne_eqb k i (λ e. let p = f.past in omega arith))

  module _ (h : k < n) (ns : List Bool) (next one : ℕ) (turned : Turned s its k ms ns next one) where
    pub marking_small : one ≤ 1
    marking_small = go (any_marked ms (refs_of its k)) turned.counted
      where
        go : (b : Bool) → one ≡ pick b 1 0 → one ≤ 1
        go true e = omega arith
        go false e = omega arith

    pub marking_next : Marking s n i (k + 1) next ns (count + one)
    marking_next =
        record {
          accepted = f.accepted;
          place = turned.after;
          right = λ j q. ap (λ (m : List Bool). get_or m j false) turned.marked ∙ here j q;
          rest = λ j q. ap (λ (m : List Bool). get_or m j false) turned.marked ∙ get_or-set_other ms k j _ false (omega arith) ∙ f.rest j (omega arith);
          room = ap length turned.marked ∙ length-set ms k _ ∙ f.room;
          counted = ap₂ ◌+◌ f.counted (turned.counted ∙ ap (λ (b : Bool). pick b 1 0) named) ∙ sym (tally_more (depends (refs_of its) i) k);
          past = let p = f.past in omega arith;
        }
      where
        few_here : k < 128
        few_here = here_few s k at (marking_here h)

        here : (j : ℕ) → j < k + 1 → get_or (set ms k (any_marked ms (refs_of its k))) j false ≡ touched (refs_of its) i j
        here j q =
            ⊎_elim
            (λ (g : k ≤ j). let e : j ≡ k = omega arith in rw e (mark_set ms k _ f.room few_here ∙ named ∙ sym chosen))
            (λ (g : j < k). get_or-set_other ms k j _ false (omega arith) ∙ f.right j g)
            (le_or_lt k j)

  pub marking_done : k ≤ n → n ≤ k → Dependents s n i ms count
  unfolding Dependents
  marking_done h g = λ sh z good c. rw (sym (same_sheet s its f.accepted.end f.accepted.read sh z good)) done
    where
      none_past : (j : ℕ) → n ≤ j → touched (refs_of its) i j ≡ false
      none_past j q =
          ap (λ (b : Bool). b || depends (refs_of its) i j) (ne_eqb j i (λ z. let p = f.past in omega arith))
          ∙ depends_is (refs_of its) i early j ∙ ap (any (touched (refs_of its) i)) (refs_past its j (omega (arith, f.accepted.count))) ∙ any_nothing (touched (refs_of its) i)

      marks : (j : ℕ) → j < 128 → get_or ms j false ≡ get_or (up_to (touched (refs_of its) i) 128) j false
      marks j q =
          ⊎_elim (λ (z : k ≤ j). f.rest j z ∙ sym (none_past j (omega arith))) (λ (z : j < k). f.right j z) (le_or_lt k j)
          ∙ sym (table_at (touched (refs_of its) i) false 128 j q)

      done : Depended its n i ms count
      done =
          record {
            marked = ext_get_or false ms (up_to (touched (refs_of its) i) 128) (f.room ∙ sym (table_long (touched (refs_of its) i) 128)) (λ j q. marks j (omega (arith, f.room)));
            counted = f.counted ∙ ap (tally (depends (refs_of its) i)) (le_antisymm h g);
          }
