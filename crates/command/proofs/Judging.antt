-- Laws of the whole text: which line or which pages are said.
use mathlib.Core.Path.{◌≡◌, refl, sym, ap, ◌∙◌}
use mathlib.Core.Logic.{⊎_elim}
use mathlib.Core.Bool.{Bool, true, false, not, cond}
use mathlib.Core.List.{List, [], ◌∷◌}
use Prim.Native.Nat.{ℕ, suc, ◌+◌, ◌-◌, ◌/◌, ◌%◌, ◌≤◌, ◌<◌, min}
use native.Mathlib.Omega.{arith}
use Rattle.std.proofs.Common.{Option, Some, None}
use lib.Dec.{eqb}
use lib.ListN.{length, take, length-take}
use lib.Seq.{take_all}
use borrow.Author.Tests.{eq-eqb, ne_eqb, lt-ltb, le-ltb, le-leb, lt-leb, not-true, not-false}
use Rattle.value.specs.Pattern.{pick}
use Rattle.low.specs.Bytes.{patch}
use Rattle.integer.proofs.Order.{le_or_lt}
use Rattle.low.specs.Read.{refused, must}
use Rattle.sheet.specs.Sheet.{read_sheet}
use Rattle.words.specs.Split.{word_at, word_count}
use Rattle.text.specs.Text.{Put, ascii}
use Rattle.asked.specs.Asked.{verbose, sheet_at, words_after, asked_from, first_bad}
use Rattle.command.specs.Inside.{fitting, Shows}
use Rattle.command.specs.Listing.{usage, complaint, too_much, unless_bad, pages, judged_text, listing_of, printed}

-- no more words than bytes
pub count_short : (l : List ℕ) → word_count l ≤ length l
unfolding word_count
count_short [] = omega arith
count_short (c ∷ cs) = by_cases (eqb c 0) (count_short cs)
  where
    by_cases : (t : Bool) → word_count cs ≤ length cs → cond t 1 0 + word_count cs ≤ suc (length cs)
    by_cases true h = omega arith
    by_cases false h = omega arith

-- `-v` is there where the sheet's name is the second word
asked_verbose : (line : List ℕ) → eqb (sheet_at line) 1 ≡ verbose line
unfolding sheet_at
asked_verbose line = by_cases (verbose line)
  where
    by_cases : (v : Bool) → eqb (pick v 1 0) 1 ≡ v
    by_cases true = refl
    by_cases false = refl

-- the words after the sheet's name, each check in turn
module _ (line : List ℕ) (readable : Bool) (bytes : List ℕ) (first after : ℕ) (p : first ≡ sheet_at line) (q : after ≡ words_after line) where
  pub said_too_few : (after % 3 ≡ 0 → ⊥) → (w : List ℕ) → w ≡ word_at (first + after - after % 3) line
      → complaint (ascii "too few words after ") w ≡ judged_text line readable bytes
  unfolding judged_text must
  said_too_few h w e = rw (← p, ← q, ne_eqb (after % 3) 0 h, e)

  module _ (even : after % 3 ≡ 0) (bad : Option ℕ) (f : bad ≡ first_bad (asked_from (after / 3) line (first + 1))) where
    pub said_bad : (k : ℕ) → bad ≡ Some k → (w : List ℕ) → w ≡ word_at k line → complaint (ascii "bad word ") w ≡ judged_text line readable bytes
    unfolding judged_text unless_bad must
    said_bad k h w e = rw (← p, ← q, eq-eqb (after % 3) 0 even, ← f, h, e)

    module _ (good : bad ≡ None) where
      pub said_unread : not readable ≡ true → (w : List ℕ) → w ≡ word_at first line
          → complaint (ascii "cannot read ") w ≡ judged_text line readable bytes
      unfolding judged_text unless_bad must
      said_unread h w e = rw (← p, ← q, eq-eqb (after % 3) 0 even, ← f, good, not-true readable h, e)

      pub said_pages : not readable ≡ false
          → pages (eqb first 1) (read_sheet bytes) (asked_from (after / 3) line (first + 1)) ≡ judged_text line readable bytes
      unfolding judged_text unless_bad must
      said_pages h =
          rw (← p, ← q, eq-eqb (after % 3) 0 even, ← f, good, not-false readable h)
          (ap (λ (v : Bool). pages v (read_sheet bytes) (asked_from (after / 3) line (first + 1))) (ap (λ (k : ℕ). eqb k 1) p ∙ asked_verbose line))

-- the words as a whole
pub words_after_lem : (line : List ℕ) (first n : ℕ) → first ≡ sheet_at line → n ≡ word_count line → n - first - 1 ≡ words_after line
unfolding words_after
words_after_lem line first n p q = rw (p, q)

module _ (line : List ℕ) (readable : Bool) (bytes : List ℕ) where
  pub said_long : 65536 < length line → complaint (ascii "the words are over 65536 bytes") [] ≡ listing_of line readable bytes
  unfolding listing_of must
  said_long h = rw (lt-leb (length line) 65536 h)

  module _ (short : length line ≤ 65536) (first n : ℕ) (p : first ≡ sheet_at line) (q : n ≡ word_count line) where
    pub said_usage : n ≤ first → usage ≡ listing_of line readable bytes
    unfolding listing_of must
    said_usage h = rw (le-leb (length line) 65536 short, ← p, ← q, le-ltb first n h)

    pub said_judged : first < n → judged_text line readable bytes ≡ listing_of line readable bytes
    unfolding listing_of must
    said_judged h = rw (le-leb (length line) 65536 short, ← p, ← q, lt-ltb first n h)

-- a file over 16,384 bytes is a refused sheet, so its first 16,385 bytes are enough to know its text
pub long_refused : (s : List ℕ) → 16384 < length s → read_sheet s ≡ refused 20 0
unfolding read_sheet must
long_refused s h = rw (lt-leb (length s) 16384 h)

first_read : (s : List ℕ) → read_sheet (take 16385 s) ≡ read_sheet s
first_read s =
    ⊎_elim (λ (h : length s ≤ 16385). ap read_sheet (take_all 16385 s h))
    (λ (h : 16385 < length s).
    let n : 16384 < length (take 16385 s) = omega (arith, length-take 16385 s) in
    let m : 16384 < length s = omega arith in
    long_refused (take 16385 s) n ∙ sym (long_refused s m))
    (le_or_lt (length s) 16385)

pub first_bytes : (line : List ℕ) (readable : Bool) (s : List ℕ) → listing_of line readable (take 16385 s) ≡ listing_of line readable s
unfolding listing_of judged_text
first_bytes line readable s = rw (first_read s)

-- what is printed of a text: all of it, or as much of a line as there is room for
room_all : (l t : List ℕ) → fitting l 0 t ≡ take (length l) t
unfolding fitting
room_all l t = let e : length l - 0 ≡ length l = omega arith in ap (λ (k : ℕ). take k t) e

pub printed_text : {l m t : List ℕ} {r : ℕ} → Shows l m 0 r t → r ≤ length l → Put l m 0 r (printed (length l) t)
unfolding printed must
printed_text {l} {m} {t} {r} p h =
    let n : length t ≤ length l = omega (arith, p.next) in
    rw (le-leb (length t) (length l) n)
    record { text = p.text ∙ ap (patch l 0) (room_all l t ∙ take_all (length l) t n); next = p.next }

module _ {l m x y t : List ℕ} {k n : ℕ} (p : Shows l m 0 k too_much) (q : Shows x y 0 n t) (h : length l < n) where
  long : length l < length t
  long = omega (arith, q.next)

  printed_line : k ≤ length l → Put l m 0 k (printed (length l) t)
  unfolding printed must
  printed_line f =
      let all : length too_much ≤ length l = omega (arith, p.next) in
      rw (lt-leb (length t) (length l) long)
      record {
        text = p.text ∙ ap (patch l 0) (room_all l too_much);
        next = rw (take_all (length l) too_much all) p.next;
      }

  printed_cut : length l ≤ k → (r : ℕ) → r ≡ length l → Put l m 0 r (printed (length l) t)
  unfolding printed must
  printed_cut f r e =
      rw (lt-leb (length t) (length l) long)
      record {
        text = p.text ∙ ap (patch l 0) (room_all l too_much);
        next = omega (arith, p.next, length-take (length l) too_much);
      }

  pub printed_short : (r : ℕ) → r ≡ min k (length l) → Put l m 0 r (printed (length l) t)
  printed_short r e =
      ⊎_elim (λ (f : k ≤ length l). let same : r ≡ k = omega arith in rw same (printed_line f))
      (λ (f : length l < k). printed_cut (omega arith) r (omega arith)) (le_or_lt k (length l))
