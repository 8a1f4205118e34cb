-- Texts one after another in a buffer that may have no room for all of them.
use mathlib.Core.Path.{◌≡◌, refl, sym, ap, ◌∙◌}
use mathlib.Core.Logic.{⊎_elim}
use mathlib.Core.List.{List, [], ◌++◌}
use Prim.Native.Nat.{ℕ, ◌+◌, ◌-◌, ◌≤◌, ◌<◌, min}
use native.Mathlib.Omega.{arith}
use native.Mathlib.Nat.{add-zero}
use lib.ListN.{length, take, drop, length-append, length-take}
use lib.Seq.{take_all, take-nil, take-append-add, take-append-le, take-append_seam}
use Rattle.low.specs.Bytes.{patch}
use Rattle.integer.proofs.Order.{le_or_lt}
use Rattle.low.proofs.Parts.{patch_none, patch_next, length_patch}
use Rattle.text.specs.Text.{Put}
use Rattle.command.specs.declared.show.Show.{Show}
use Rattle.command.specs.Inside.{fitting, Shows, Adds}

module _ (l : List ℕ) (a : ℕ) (t : List ℕ) where
  -- all of a text that there is room for, and nothing of one behind the buffer
  pub fits_all : a + length t ≤ length l → fitting l a t ≡ t
  unfolding fitting
  fits_all h = take_all (length l - a) t (omega arith)

  fits_none : length l ≤ a → fitting l a t ≡ []
  unfolding fitting
  fits_none h = let e : length l - a ≡ 0 = omega arith in rw e

  pub none_shown : length l ≤ a → l ≡ patch l a (fitting l a t)
  none_shown h = rw (fits_none h) (patch_none l a)

  -- no more than there is room for, and the buffer is as long as it was
  fits : a < length l → a + length (fitting l a t) ≤ length l
  unfolding fitting
  fits h = simp length-take (omega arith)

  same_long : length (patch l a (fitting l a t)) ≡ length l
  same_long =
      ⊎_elim (λ (h : length l ≤ a). ap length (sym (none_shown h)))
      (λ (h : a < length l). length_patch l a (fitting l a t) (fits h)) (le_or_lt (length l) a)

-- one text after another, where the second has room or has none
module _ (l : List ℕ) (a : ℕ) (x : List ℕ) (b : ℕ) (y : List ℕ) (e : b ≡ a + length x) where
  second_room : fitting (patch l a (fitting l a x)) b y ≡ fitting l b y
  unfolding fitting
  second_room = ap (λ (k : ℕ). take (k - b) y) (same_long l a x)

  both_fit : b ≤ length l → x ++ fitting l b y ≡ fitting l a (x ++ y)
  unfolding fitting
  both_fit h =
      let n : length x + (length l - b) ≡ length l - a = omega arith in
      sym (take-append-add x y (length l - b)) ∙ ap (λ (k : ℕ). take k (x ++ y)) n

  first_fits : length l < b → fitting l a x ≡ fitting l a (x ++ y)
  unfolding fitting
  first_fits h = sym (take-append-le (length l - a) x y (omega arith))

  fits_after : b ≤ length l → b + length (fitting l b y) ≤ length l
  unfolding fitting
  fits_after h = simp length-take (omega arith)

  shown_next : patch (patch l a (fitting l a x)) b (fitting l b y) ≡ patch l a (fitting l a (x ++ y))
  shown_next =
      ⊎_elim (λ (h : b ≤ length l).
      ap (λ (k : List ℕ). patch (patch l a k) b (fitting l b y)) (fits_all l a x (omega arith))
      ∙ patch_next l a x b (fitting l b y) e (fits_after h)
      ∙ ap (patch l a) (both_fit h))
      (λ (h : length l < b).
      ap (patch (patch l a (fitting l a x)) b) (fits_none l b y (omega arith))
      ∙ sym (patch_none (patch l a (fitting l a x)) b)
      ∙ ap (patch l a) (first_fits h))
      (le_or_lt b (length l))

pub then : {l m n x y : List ℕ} {a b c : ℕ} → Shows l m a b x → Shows m n b c y → Shows l n a c (x ++ y)
then {l} {m} {n} {x} {y} {a} {b} {c} p q =
    record {
      text =
          q.text
          ∙ ap (λ (k : List ℕ). patch k b (fitting k b y)) p.text
          ∙ ap (patch (patch l a (fitting l a x)) b) (second_room l a x b y p.next)
          ∙ shown_next l a x b y p.next;
      next = omega (arith, p.next, q.next, length-append x y);
    }

-- no text
pub no_text : (l : List ℕ) (a : ℕ) → Shows l l a a []
unfolding fitting
no_text l a = record { text = rw (take-nil {A = ℕ} (length l - a)) (patch_none l a); next = sym (add-zero a) }

-- a page made at the start of a buffer
pub page_text : {l m t : List ℕ} {n : ℕ} → Put l m 0 n t → take n m ≡ t
unfolding patch
page_text {l} {m} {t} {n} p =
    let e : n ≡ length t = omega (arith, p.next) in
    ap (λ (k : List ℕ). take n k) p.text ∙ ap (λ (k : ℕ). take k (t ++ drop (0 + length t) l)) e ∙ take-append_seam t (drop (0 + length t) l)

-- the bytes of a text that have room, from a place on that is within the buffer
module _ (l s : List ℕ) (a b n : ℕ) (p : b ≡ min a (length l)) (q : n ≡ min (length s) (length l - b)) where
  with_room : a ≤ length l → take n s ≡ fitting l a s
  unfolding fitting
  with_room h =
      ⊎_elim (λ (g : length s ≤ length l - a). take_all n s (omega arith) ∙ sym (take_all (length l - a) s g))
      (λ (g : length l - a < length s). let e : n ≡ length l - a = omega arith in ap (λ (k : ℕ). take k s) e)
      (le_or_lt (length s) (length l - a))

  pub cut_shown : patch l b (take n s) ≡ patch l a (fitting l a s)
  cut_shown =
      ⊎_elim (λ (h : a ≤ length l). let e : b ≡ a = omega arith in ap (λ (k : ℕ). patch l k (take n s)) e ∙ ap (patch l a) (with_room h))
      (λ (h : length l < a).
      let e : n ≡ 0 = omega arith in
      ap (λ (k : ℕ). patch l b (take k s)) e ∙ sym (patch_none l b) ∙ none_shown l a s (omega arith))
      (le_or_lt a (length l))

-- texts added to what is shown
pub after : {p q r : Show} {x y : List ℕ} → Adds p q x → Adds q r y → Adds p r (x ++ y)
after a b = record { same = b.same ∙ a.same; shows = then a.shows b.shows }

pub nothing_added : (p : Show) → Adds p p []
nothing_added p = record { same = refl; shows = no_text p.out.now p.at }

pub added_as : {p q : Show} {t u : List ℕ} → Adds p q t → t ≡ u → Adds p q u
added_as p e = rw e at p
