-- Some bytes lie in others from a place on: which bytes are there, and what lies in a part of them.
use mathlib.Core.Path.{◌≡◌, refl, sym, ap, ◌∙◌}
use mathlib.Core.List.{List, [], ◌∷◌, ◌++◌, append_assoc, append-nil}
use Prim.Native.Nat.{ℕ, zero, suc, ◌+◌, ◌/◌, ◌%◌, ◌^◌, ◌<◌, ◌≤◌}
use native.Mathlib.Nat.{pow-suc}
use native.Mathlib.Omega.{arith}
use lib.ListN.{length, get_or, take, drop, length-append, length-take, take-append-drop}
use lib.Seq.{get_or_at, take_at, drop_at, drop-cons, drop-drop, take-add, take-length}
use Rattle.low.specs.Bytes.{lows, whole, part}
use Rattle.low.proofs.Lows.{lows_long, whole_lows, whole_part}
use Rattle.writer.specs.Write.{Bytes}

pub record Lies (b : List ℕ) (at : ℕ) (xs : List ℕ) : Type 0 where
  pub before : List ℕ
  pub after : List ℕ
  pub whole : b ≡ before ++ (xs ++ after)
  pub place : length before ≡ at

pub all_lies : (b : List ℕ) → Lies b 0 b
all_lies b = record { before = []; after = []; whole = sym (append-nil b); place = refl }

pub lies_end : (b : List ℕ) (at : ℕ) (xs : List ℕ) → Lies b at xs → at + length xs ≤ length b
lies_end b at xs s = omega (arith, ap length s.whole, length-append s.before (xs ++ s.after), length-append xs s.after, s.place)

-- the first of two parts, and the second
pub lies_left : (b : List ℕ) (at : ℕ) (xs ys : List ℕ) → Lies b at (xs ++ ys) → Lies b at xs
lies_left b at xs ys s =
    record { before = s.before; after = ys ++ s.after; whole = s.whole ∙ ap (λ (l : List ℕ). s.before ++ l) (append_assoc xs ys s.after); place = s.place }

pub lies_right : (b : List ℕ) (at : ℕ) (xs ys : List ℕ) → Lies b at (xs ++ ys) → Lies b (at + length xs) ys
lies_right b at xs ys s =
    record {
      before = s.before ++ xs;
      after = s.after;
      whole = s.whole ∙ ap (λ (l : List ℕ). s.before ++ l) (append_assoc xs ys s.after) ∙ sym (append_assoc s.before xs (ys ++ s.after));
      place = length-append s.before xs ∙ ap (λ (k : ℕ). k + length xs) s.place;
    }

pub lies_at : (b : List ℕ) (at to : ℕ) (xs : List ℕ) → at ≡ to → Lies b at xs → Lies b to xs
lies_at b at to xs e s = record { before = s.before; after = s.after; whole = s.whole; place = s.place ∙ e }

-- the first byte, and the rest
pub lies_first : (b : List ℕ) (at x : ℕ) (xs : List ℕ) → Lies b at (x ∷ xs) → get_or b at 0 ≡ x
lies_first b at x xs s = ap (λ (l : List ℕ). get_or l at 0) s.whole ∙ get_or_at s.before x (xs ++ s.after) 0 at s.place

pub lies_rest : (b : List ℕ) (at x : ℕ) (xs : List ℕ) → Lies b at (x ∷ xs) → Lies b (at + 1) xs
lies_rest b at x xs s = lies_right b at (x ∷ []) xs s

-- cut out, they are themselves
pub lies_part : (b : List ℕ) (at : ℕ) (xs : List ℕ) → Lies b at xs → part b at (length xs) ≡ xs
unfolding part
lies_part b at xs s =
    ap (λ (l : List ℕ). take (length xs) (drop at l)) s.whole
    ∙ ap (take (length xs)) (drop_at s.before (xs ++ s.after) at s.place)
    ∙ take_at xs s.after (length xs) refl

-- ---- and back: what is there lies there
pub lies_there : (b : List ℕ) (at : ℕ) (xs : List ℕ) → at + length xs ≤ length b → part b at (length xs) ≡ xs → Lies b at xs
unfolding part
lies_there b at xs l e =
    record {
      before = take at b;
      after = drop (length xs) (drop at b);
      whole = sym (
          ap (λ (k : List ℕ). take at b ++ (k ++ drop (length xs) (drop at b))) (sym e)
          ∙ ap (λ (k : List ℕ). take at b ++ k) (take-append-drop (length xs) (drop at b))
          ∙ take-append-drop at b);
      place = length-take at b ∙ omega arith;
    }

pub lies_none : (b : List ℕ) (at : ℕ) → at ≤ length b → Lies b at []
unfolding part
lies_none b at l = lies_there b at [] (omega arith) refl

pub lies_join : (b : List ℕ) (at : ℕ) (xs ys : List ℕ) → Lies b at xs → Lies b (at + length xs) ys → Lies b at (xs ++ ys)
unfolding part
lies_join b at xs ys s t =
    lies_there b at (xs ++ ys) (omega (arith, length-append xs ys, lies_end b (at + length xs) ys t))
    (ap (λ (k : ℕ). take k (drop at b)) (length-append xs ys)
    ∙ take-add (length xs) (length ys) (drop at b)
    ∙ ap (λ (k : List ℕ). k ++ take (length ys) (drop (length xs) (drop at b))) (lies_part b at xs s)
    ∙ ap (λ (k : List ℕ). xs ++ take (length ys) k) (drop-drop (length xs) at b)
    ∙ ap (λ (k : List ℕ). xs ++ k) (lies_part b (at + length xs) ys t))

pub lies_byte : (b : List ℕ) (at x : ℕ) → at < length b → get_or b at 0 ≡ x → Lies b at (x ∷ [])
unfolding part
lies_byte b at x l e = lies_there b at (x ∷ []) (omega arith) (ap (take 1) (drop-cons b at 0 l) ∙ ap {B = List ℕ} (λ (k : ℕ). k ∷ []) e)

pub lies_cons : (b : List ℕ) (at x : ℕ) (xs : List ℕ) → at < length b → get_or b at 0 ≡ x → Lies b (at + 1) xs → Lies b at (x ∷ xs)
lies_cons b at x xs l e s = lies_join b at (x ∷ []) xs (lies_byte b at x l e) s

-- what lies in some bytes from the first to the last is all of them
pub lies_all : (b xs : List ℕ) → Lies b 0 xs → length b ≡ length xs → b ≡ xs
unfolding part
lies_all b xs s e = sym (take-length b) ∙ ap (λ (k : ℕ). take k b) e ∙ lies_part b 0 xs s

-- ---- a number's low bytes
pub word_lies : (n x : ℕ) (b : List ℕ) (at : ℕ) → x < 256 ^ n → Lies b at (lows n x) → whole (part b at n) ≡ x
word_lies n x b at h s = ap (λ (k : ℕ). whole (part b at k)) (sym (lows_long n x)) ∙ ap whole (lies_part b at (lows n x) s) ∙ whole_lows n x h

pub word_there : (n : ℕ) (b : List ℕ) (at : ℕ) → Bytes b → at + n ≤ length b → (whole (part b at n) < 256 ^ n) × Lies b at (lows n (whole (part b at n)))
unfolding lows whole part
word_there zero b at h l = (omega arith, lies_none b at (omega arith))
word_there (suc n) b at h l =
    let w = word_there n b (at + 1) h (omega arith) in
    let x = h at (omega arith) in
    let e = whole_part b at n in
    let d : whole (part b at (suc n)) / 256 ≡ whole (part b (at + 1) n) = omega arith in
    let m : get_or b at 0 ≡ whole (part b at (suc n)) % 256 = omega arith in (
      rw pow-suc (omega (arith, w.0)),
      lies_cons b at _ _ (omega arith) m (rw d w.1),
    )
