-- Laws of the pages of a sheet.
use mathlib.Core.Path.{◌≡◌, refl, sym, ap, ◌∙◌}
use mathlib.Core.Bool.{Bool, true, false}
use mathlib.Core.List.{List, [], ◌++◌, append_assoc, append-nil}
use Prim.Native.Nat.{ℕ, ◌+◌, ◌*◌, ◌≤◌, ◌<◌}
use native.Mathlib.Omega.{arith}
use lib.ListN.{take, replicate}
use Rattle.low.specs.declared.Refused.{Refused}
use Rattle.low.proofs.Parts.{zeros_of}
use Rattle.low.specs.Read.{Read, found, refused}
use Rattle.sheet.specs.Sheet.{Sheet, read_sheet, counted_of}
use Rattle.entries.proofs.Places.{few}
use Rattle.fold.specs.Fresh.{fresh_answer, fresh_bytes}
use Rattle.fold.specs.Change.{change_answer, change_bytes, change_marks}
use Rattle.text.specs.Text.{listing, refusal_line, moved_line}
use Rattle.std.proofs.Common.{Result, Ok, Err}
use Rattle.std.specs.Result.{result_unwrap_or}
use Rattle.asked.specs.declared.asked.Change.{Change}
use Rattle.asked.specs.Asked.{Asked, asked_at, asked_from}
use Rattle.command.specs.declared.show.Show.{Show}
use Rattle.command.specs.Inside.{Adds}
use Rattle.command.specs.Listing.{page, moved_page, change_page, after_change, change_pages, entries_of, blank, pages}
use Rattle.command.proofs.Shown.{after, nothing_added, added_as}
use Rattle.asked.proofs.Asking.{left, left_all, left_next, left_none}

-- the number of entries, from the check of a sheet
pub entries_told : (y : Read Sheet) → result_unwrap_or (counted_of y) 0 ≡ entries_of y
unfolding entries_of
entries_told (found sh z) = refl
entries_told (refused k p) = refl

module _ (s : List ℕ) where
  pub few_entries : (y : Read Sheet) → read_sheet s ≡ y → entries_of y ≤ 128
  unfolding entries_of
  few_entries (found sh z) q = few s sh z q
  few_entries (refused k p) q = omega arith

-- the page of an answer
module _ (x : Result ℕ Refused) (b : List ℕ) where
  pub page_done : (n : ℕ) → x ≡ Ok n → listing b ≡ page x b
  unfolding page
  page_done n e = rw e

  pub page_refused : (r : Refused) → x ≡ Err r → refusal_line r.number ≡ page x b
  unfolding page
  page_refused r e = rw e

module _ (v : Bool) (x : Result ℕ Refused) (ms : List Bool) (own : ℕ) where
  pub moved_refused : (r : Refused) → x ≡ Err r → [] ≡ moved_page v x ms own
  unfolding moved_page
  moved_refused r e = rw e

  pub moved_quiet : v ≡ false → [] ≡ moved_page v x ms own
  unfolding moved_page
  moved_quiet h = rw h (quiet x)
    where
      quiet : (y : Result ℕ Refused) → [] ≡ moved_page false y ms own
      quiet (Ok n) = refl
      quiet (Err r) = refl

  pub moved_asked : v ≡ true → moved_page true x ms own ≡ moved_page v x ms own
  moved_asked h = rw h

  pub moved_told : (n : ℕ) → x ≡ Ok n → moved_line n ms own ≡ moved_page true x ms own
  unfolding moved_page
  moved_told n e = rw e

-- one change: what the calls gave is its page and the results afterwards
module _ (v : Bool) (sheet : Read Sheet) (b : List ℕ) where
  module _ (a : Change) (c : List ℕ) (f : c ≡ change_bytes sheet b a.entry a.ty a.bits) where
    pub change_shown : (x : Result ℕ Refused) (ms : List Bool) → x ≡ change_answer sheet b a.entry a.ty a.bits
        → ms ≡ change_marks sheet b a.entry a.ty a.bits (replicate 128 false)
        → moved_page v x ms a.entry ++ page x c ≡ change_page v sheet b (Ok a)
    unfolding change_page
    change_shown x ms e g = rw (e, f, g)

    pub change_after : c ≡ after_change sheet b (Ok a)
    unfolding after_change
    change_after = f

  pub bad_shown : (a : Asked) (k : ℕ) → Err k ≡ a → [] ≡ change_page v sheet b a
  unfolding change_page
  bad_shown a k e = ap (change_page v sheet b) e

  pub bad_after : (a : Asked) (k : ℕ) → Err k ≡ a → b ≡ after_change sheet b a
  unfolding after_change
  bad_after a k e = ap (after_change sheet b) e

-- on the way: some changes are shown, and with the pages of those that are left their text is the whole one
pub record Going (v : Bool) (sheet : Read Sheet) (whole : List ℕ) (p q : Show) (b : List ℕ) (asked : List Asked) : Type 0 where
  pub done : List ℕ
  pub adds : Adds p q done
  pub rest : done ++ change_pages v sheet b asked ≡ whole

module _ (v : Bool) (sheet : Read Sheet) (line : List ℕ) (from n : ℕ) (p : Show) where
  pub going_start : (b : List ℕ) → Going v sheet (change_pages v sheet b (asked_from n line from)) p p b (left line from n 0)
  going_start b = record { done = []; adds = nothing_added p; rest = ap (change_pages v sheet b) (left_all line from n) }

  module _ (whole : List ℕ) (q : Show) (b : List ℕ) (i : ℕ) (g : Going v sheet whole p q b (left line from n i)) where
    pub going_more : (r : Show) (c : List ℕ) → i < n → Adds q r (change_page v sheet b (asked_at line (from + 3 * i)))
        → c ≡ after_change sheet b (asked_at line (from + 3 * i)) → Going v sheet whole p r c (left line from n (i + 1))
    unfolding change_pages
    going_more r c h s e =
        let this : List ℕ = change_page v sheet b (asked_at line (from + 3 * i)) in
        record {
          done = g.done ++ this;
          adds = after g.adds s;
          rest =
              append_assoc g.done this (change_pages v sheet c (left line from n (i + 1)))
              ∙ ap (λ (d : List ℕ). g.done ++ (this ++ change_pages v sheet d (left line from n (i + 1)))) e
              ∙ ap (λ (r : List Asked). g.done ++ change_pages v sheet b r) (sym (left_next line from n i h))
              ∙ g.rest;
        }

    pub going_end : n ≤ i → Adds p q whole
    unfolding change_pages
    going_end h =
        added_as g.adds
        (sym (append-nil g.done) ∙ ap (λ (r : List Asked). g.done ++ change_pages v sheet b r) (sym (left_none line from n i h)) ∙ g.rest)

-- the results before they are filled: zeros at the start of more zeros
pub zeros_blank : (sheet : Read Sheet) (n k m : ℕ) → n ≡ entries_of sheet → k ≡ 136 * n → k ≤ m → take k (replicate {A = ℕ} m 0) ≡ blank sheet
unfolding blank
zeros_blank sheet n k m e f h = zeros_of k m h ∙ ap (λ (j : ℕ). replicate {A = ℕ} j 0) (f ∙ ap (λ (j : ℕ). 136 * j) e)

-- the page of the fresh results, and then the changes
pub pages_shown : (v : Bool) (sheet : Read Sheet) (b : List ℕ) (x : Result ℕ Refused) (c : List ℕ) (asked : List Asked) → b ≡ blank sheet
    → x ≡ fresh_answer sheet b → c ≡ fresh_bytes sheet b → page x c ++ change_pages v sheet c asked ≡ pages v sheet asked
unfolding pages
pages_shown v sheet b x c asked e f g = rw (f, g, e)
