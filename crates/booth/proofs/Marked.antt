-- The marks of a change: their bytes one after another, and what the call leaves.
use Prim.Native.Nat.{ℕ, zero, suc, ◌+◌, ◌≤◌, ◌<◌}
use mathlib.Core.Path.{◌≡◌, refl, sym, ap, ◌∙◌}
use mathlib.Core.Bool.{Bool, true, false, ◌&&◌, ◌||◌, false≢true}
use mathlib.Core.List.{List, [], ◌∷◌, ◌++◌, append-nil}
use mathlib.Core.Logic.{◌⊎◌}
use native.Mathlib.Omega.{arith}
use native.Mathlib.Numerals.{add-one}
use lib.Dec.{eqb}
use lib.ListN.{length, drop, get_or, set, drop_of_length-le}
use lib.Seq.{drop-cons, set_at, append_snoc}
use borrow.Author.Tests.{eq-eqb, ne_eqb}
use mir.Val.{bool_byte}
use Rattle.std.specs.Prelude.{Result, Ok, Err, is_ok}
use Rattle.low.specs.declared.Refused.{Refused}
use Rattle.low.specs.Bytes.{up_to}
use Rattle.low.specs.Read.{Read, found, refused, refusal}
use Rattle.low.proofs.Tables.{table_long, table_at}
use Rattle.value.specs.Pattern.{pick}
use Rattle.sheet.specs.Sheet.{Sheet, read_sheet, counted_of}
use Rattle.entries.specs.Entries.{refs_of}
use Rattle.entries.specs.Depend.{Leads, any, chain, touched, depends, tally}
use Rattle.entries.proofs.Places.{few, refs_past}
use Rattle.fold.specs.Change.{fault_of, change_answer, change_bytes, change_marks}
use Rattle.fold.proofs.Answers.{no_fault}
use Rattle.fold.proofs.Theorems.{demand, marked_only, marked_all}
use Rattle.booth.specs.Answer.{packed_fold}
use Rattle.booth.specs.Marks.{mark_byte, mark_bytes, other_size, marks_answer, marks_results, marks_bytes}

-- ---- the bytes, one after another
-- those of the first k entries are written, the others are as they were
abbrev pub written : ℕ → List Bool → List ℕ → List ℕ
written k ws l = up_to (λ j. mark_byte (get_or ws j false)) k ++ drop k l

pub written_none : (ws : List Bool) (l : List ℕ) → l ≡ written 0 ws l
unfolding up_to
written_none ws l = refl

pub written_more : (ws : List Bool) (l m : List ℕ) (k v : ℕ) → k < length l → m ≡ written k ws l → v ≡ mark_byte (get_or ws k false) → set m k v ≡ written (k + 1) ws l
unfolding up_to
written_more ws l m k v g e q =
    ap (λ (t : List ℕ). set t k v) (e ∙ ap (λ (t : List ℕ). first ++ t) (drop-cons l k 0 g))
    ∙ set_at first (get_or l k 0) (drop (suc k) l) v k (table_long (λ (j : ℕ). mark_byte (get_or ws j false)) k)
    ∙ ap (λ (b : ℕ). first ++ b ∷ drop (suc k) l) q
    ∙ sym (append_snoc first (mark_byte (get_or ws k false)) (drop (suc k) l))
    ∙ rest
  where
    first : List ℕ
    first = up_to (λ j. mark_byte (get_or ws j false)) k

    rest : first ++ (mark_byte (get_or ws k false) ∷ []) ++ drop (suc k) l ≡ written (k + 1) ws l
    rest = rw (add-one k)

-- a truth as a number, 1 or 0
pub byte_lem : (b : Bool) → bool_byte b ≡ mark_byte b
byte_lem true = refl
byte_lem false = refl

pub written_all : (ws : List Bool) (l m : List ℕ) → length l ≡ 128 → m ≡ written 128 ws l → m ≡ mark_bytes ws
unfolding mark_bytes
written_all ws l m h e =
    let g : length l ≤ 128 = omega arith in
    e ∙ ap (λ (t : List ℕ). up_to (λ j. mark_byte (get_or ws j false)) 128 ++ t) (drop_of_length-le l g) ∙ append-nil (up_to (λ j. mark_byte (get_or ws j false)) 128)

-- ---- marks of another size
pub size_refused : (q : Read Sheet) (a : Result ℕ Refused) (n : ℕ) → a ≡ counted_of q → a ≡ Ok n → refusal 30 0 ≡ other_size q
unfolding other_size
size_refused (found sh m) a n e d = refl
size_refused (refused k p) a n e d = absurd (let z : ◌≡◌ {A = ℕ} 0 1 = cc in omega arith)

pub sheet_refused : (q : Read Sheet) (a : Result ℕ Refused) (k : Refused) → a ≡ counted_of q → a ≡ Err k → a ≡ other_size q
unfolding other_size
sheet_refused (found sh m) a k e d = absurd (let z : ◌≡◌ {A = ℕ} 0 1 = cc in omega arith)
sheet_refused (refused j i) a k e d = e

-- ---- which answer it was
pub was_done : (a : Result ℕ Refused) → is_ok a ≡ true → (n : ℕ) × (a ≡ Ok n)
was_done (Ok n) h = (n, refl)
was_done (Err k) h = absurd (false≢true h)

pub was_refused : (a : Result ℕ Refused) → is_ok a ≡ false → (k : Refused) × (a ≡ Err k)
was_refused (Ok n) h = absurd (false≢true (sym h))
was_refused (Err k) h = (k, refl)

-- ---- what the call leaves
same_up : (f g : ℕ → ℕ) (n : ℕ) → ((k : ℕ) → k < n → f k ≡ g k) → up_to f n ≡ up_to g n
unfolding up_to
same_up f g zero h = refl
same_up f g (suc n) h = rw (same_up f g n (λ k l. h k (omega arith)), h n (omega arith))

bytes_up : (f : ℕ → Bool) → mark_bytes (up_to f 128) ≡ up_to (λ k. mark_byte (f k)) 128
unfolding mark_bytes
bytes_up f = same_up (λ k. mark_byte (get_or (up_to f 128) k false)) (λ k. mark_byte (f k)) 128 (λ k h. ap mark_byte (table_at f false 128 k h))

module _ (l : List ℕ) (i ty bits : ℕ) (m : List ℕ) where
  -- marks of another size stay
  kept_size : (q : Read Sheet) → eqb (length m) 128 ≡ false → m ≡ marks_bytes q l i ty bits m
  unfolding marks_bytes
  kept_size (found sh n) e = rw e
  kept_size (refused k p) e = refl

  -- so do those of a refused change
  kept_refused : (q : Read Sheet) (k : Refused) → change_answer q l i ty bits ≡ Err k → m ≡ marks_bytes q l i ty bits m
  unfolding change_answer marks_bytes
  kept_refused (found sh n) k e = go (eqb (length m) 128) (eqb (fault_of sh (length l) i ty bits) 0) e
    where
      go : (b t : Bool)
          → pick t (Ok (tally (depends (refs_of sh) i) (length sh.entries))) (refusal (fault_of sh (length l) i ty bits) 0) ≡ Err k
          → m ≡ pick (b && t) (up_to (λ j. mark_byte (touched (refs_of sh) i j)) 128) m
      go b true h = absurd (let z : ◌≡◌ {A = ℕ} 0 1 = cc in omega arith)
      go true false h = refl
      go false false h = refl
  kept_refused (refused j o) k e = refl

  -- those of a change that is done are the entries that it marks
  taken : (q : Read Sheet) (n : ℕ) (ws : List Bool) → change_answer q l i ty bits ≡ Ok n → eqb (length m) 128 ≡ true
      → mark_bytes (change_marks q l i ty bits ws) ≡ marks_bytes q l i ty bits m
  unfolding change_answer change_marks marks_bytes
  taken (found sh k) n ws e s = rw s (go (eqb (fault_of sh (length l) i ty bits) 0) e)
    where
      go : (t : Bool)
          → pick t (Ok (tally (depends (refs_of sh) i) (length sh.entries))) (refusal (fault_of sh (length l) i ty bits) 0) ≡ Ok n
          → mark_bytes (pick t (up_to (touched (refs_of sh) i) 128) ws) ≡ pick t (up_to (λ j. mark_byte (touched (refs_of sh) i j)) 128) m
      go true h = bytes_up (touched (refs_of sh) i)
      go false h = absurd (let z : ◌≡◌ {A = ℕ} 0 1 = cc in omega arith)
  taken (refused j o) n ws e s = absurd (let z : ◌≡◌ {A = ℕ} 0 1 = cc in omega arith)

  module _ (q : Read Sheet) where
    abbrev Leaves : ℕ → List ℕ → List ℕ → Type 0
    Leaves r x y = (r ≡ packed_fold (marks_answer q l i ty bits m)) × (x ≡ marks_results q l i ty bits m) × (y ≡ marks_bytes q l i ty bits m)

    pub left_size : (r : ℕ) (a : Result ℕ Refused) → (length m ≡ 128 → ⊥) → a ≡ other_size q → r ≡ packed_fold a → Leaves r l m
    unfolding marks_answer marks_results
    left_size r a s e h =
        let f = ne_eqb (length m) 128 s in
        (rw f (h ∙ ap packed_fold e), rw f, kept_size q f)

    module _ (r : ℕ) (a : Result ℕ Refused) (x : List ℕ) (s : length m ≡ 128) (e : a ≡ change_answer q l i ty bits) (c : x ≡ change_bytes q l i ty bits) where
      pub left_refused : (k : Refused) → a ≡ Err k → r ≡ packed_fold a → Leaves r x m
      unfolding marks_answer marks_results
      left_refused k d h = let f = eq-eqb (length m) 128 s in (rw f (h ∙ ap packed_fold e), rw f c, kept_refused q k (sym e ∙ d))

      pub left_done : (n : ℕ) (vs ws : List Bool) (y : List ℕ) → a ≡ Ok n → r ≡ packed_fold a → ws ≡ change_marks q l i ty bits vs → y ≡ mark_bytes ws
          → Leaves r x y
      unfolding marks_answer marks_results
      left_done n vs ws y d h w o =
          let f = eq-eqb (length m) 128 s in
          (rw f (h ∙ ap packed_fold e), rw f c, o ∙ ap mark_bytes w ∙ taken q n vs (sym e ∙ d) f)

-- ---- what a byte says of a change that is done
marked_is : (b : Bool) → mark_byte b ≡ 1 → b ≡ true
marked_is true e = refl
marked_is false e = absurd (omega (arith, e))

-- an entry that names nothing depends on nothing
alone : (refs : ℕ → List ℕ) (i n k : ℕ) → refs k ≡ [] → chain refs i n k ≡ false
unfolding chain any
alone refs i zero k e = refl
alone refs i (suc n) k e = rw e

module _ (s : List ℕ) (es : Sheet) (z : ℕ) (good : read_sheet s ≡ found es z) (l : List ℕ) (i ty bits : ℕ) (ok : fault_of es (length l) i ty bits ≡ 0)
    (m : List ℕ) (size : length m ≡ 128) where
  abbrev byte_at : ℕ → ℕ
  byte_at k = get_or (marks_bytes (read_sheet s) l i ty bits m) k 0

  byte_is : (k : ℕ) → k < 128 → byte_at k ≡ mark_byte (get_or (change_marks (read_sheet s) l i ty bits []) k false)
  unfolding mark_bytes
  byte_is k h =
      let d = demand s es z good l i ty bits ok in
      ap (λ (t : List ℕ). get_or t k 0) (sym (taken l i ty bits m (read_sheet s) d.0 [] d.1 (eq-eqb (length m) 128 size)))
      ∙ table_at (λ (j : ℕ). mark_byte (get_or (change_marks (read_sheet s) l i ty bits []) j false)) 0 128 k h

  -- it is 1 for the setting and for the entries from which a chain of references leads to it, and for no other
  pub one_only : (k : ℕ) → k < length es.entries → byte_at k ≡ 1 → (k ≡ i) ⊎ Leads (refs_of es) i k
  one_only k h e = marked_only s es z good l i ty bits ok [] k h (marked_is _ (sym (byte_is k (omega (arith, few s es z good))) ∙ e))

  pub one_all : (k : ℕ) → k < length es.entries → (k ≡ i) ⊎ Leads (refs_of es) i k → byte_at k ≡ 1
  one_all k h w = byte_is k (omega (arith, few s es z good)) ∙ ap mark_byte (marked_all s es z good l i ty bits ok [] k h w)

  -- past the last entry it is 0
  untouched : (k : ℕ) → length es.entries ≤ k → touched (refs_of es) i k ≡ false
  untouched k h =
      ap (λ (b : Bool). b || depends (refs_of es) i k) (ne_eqb k i (λ e. omega (arith, (no_fault es (length l) i ty bits ok).among, e)))
      ∙ alone (refs_of es) i k k (refs_past es k h)

  pub zero_past : (k : ℕ) → length es.entries ≤ k → k < 128 → byte_at k ≡ 0
  unfolding change_marks
  zero_past k h g = byte_is k g ∙ ap mark_byte unmarked
    where
      unmarked : get_or (change_marks (read_sheet s) l i ty bits []) k false ≡ false
      unmarked = rw (good, ok) (table_at (touched (refs_of es) i) false 128 k g ∙ untouched k h)
