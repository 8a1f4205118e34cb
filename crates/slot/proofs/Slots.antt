-- Laws of slots: what is put is read back, other slots stay, and buffers with equal slots are equal.
use mathlib.Core.Path.{◌≡◌, refl, sym, ap, ◌∙◌}
use mathlib.Core.List.{List, [], ◌∷◌, ◌++◌}
use mathlib.Core.Logic.{⊎_elim, ◌≢◌}
use Prim.Native.Nat.{ℕ, suc, ◌+◌, ◌-◌, ◌*◌, ◌/◌, ◌%◌, ◌^◌, ◌≤◌, ◌<◌}
use native.Mathlib.Omega.{arith}
use lib.ListN.{length, take, drop, get_or, set, length-append}
use lib.Seq.{take_at, ext_get_or}
use borrow.Author.Tests.{lt-ltb, le-ltb}
use Rattle.operand.specs.declared.Outcome.{Outcome}
use Rattle.operand.specs.Outcome.{refused_with}
use Rattle.low.specs.Bytes.{lows, whole, part, patch, eights, numbers}
use Rattle.slot.specs.Slot.{bytes_of, said_by, slot, put}
use Rattle.integer.proofs.Order.{le_or_lt}
use Rattle.low.proofs.Parts.{length_patch, at_part, part_patch, part_patch_before, part_patch_after, patch_next, patch_all, stores4, lent_back}
use Rattle.low.proofs.Lows.{lows_long, whole_lows}
use Rattle.low.proofs.Eights.{eights_long, numbers_eights}

-- ---- one slot's bytes
pub bytes_long : (o : Outcome) → length (bytes_of o) ≡ 136
unfolding bytes_of
bytes_long o = omega (arith, length-append (lows 4 o.detail) (eights 16 o.value.comps), lows_long 4 o.detail, eights_long 16 o.value.comps)

-- the bytes, as they are written
pub bytes_written : (l : List ℕ) (o : Outcome) → length l ≡ 136
    → patch (patch (set (set (set (set l 0 o.status) 1 o.value.ty) 2 o.value.cols) 3 o.value.rows) 4 (lows 4 o.detail)) 8 (eights 16 o.value.comps) ≡ bytes_of o
unfolding bytes_of
bytes_written l o h =
    ap (λ t. patch (patch t 4 (lows 4 o.detail)) 8 (eights 16 o.value.comps)) (stores4 l 0 o.status o.value.ty o.value.cols o.value.rows (omega arith))
    ∙ ap (λ t. patch t 8 (eights 16 o.value.comps)) (patch_next l 0 _ 4 (lows 4 o.detail) refl (omega (arith, lows_long 4 o.detail)))
    ∙ patch_next l 0 _ 8 (eights 16 o.value.comps) (omega (arith, lows_long 4 o.detail)) (omega (arith, eights_long 16 o.value.comps))
    ∙ patch_all l _ (bytes_long o ∙ sym h)

-- an outcome whose parts fit their bytes
pub record Fitting (o : Outcome) : Type 0 where
  pub detail : o.detail < 256 ^ 4
  pub long : length o.value.comps ≡ 16
  pub comps : (i : ℕ) → get_or o.value.comps i 0 < 256 ^ 8

pub said_bytes : (o : Outcome) → Fitting o → said_by (bytes_of o) ≡ o
unfolding said_by bytes_of part
said_bytes o g = rw (d, e)
  where
    d : whole (part (bytes_of o) 4 4) ≡ o.detail
    d = ap whole (take_at (lows 4 o.detail) (eights 16 o.value.comps) 4 (lows_long 4 o.detail)) ∙ whole_lows 4 o.detail g.detail

    h : List ℕ
    h = o.status ∷ o.value.ty ∷ o.value.cols ∷ o.value.rows ∷ lows 4 o.detail

    e : numbers 16 (bytes_of o) 8 ≡ o.value.comps
    e = ap (λ (n : ℕ). numbers n (h ++ eights n o.value.comps) 8) (sym g.long) ∙ numbers_eights h o.value.comps 8 (omega (arith, lows_long 4 o.detail)) g.comps

-- ---- the slots of a buffer
pub slot_in : (l : List ℕ) (k : ℕ) → k < length l / 136 → slot l k ≡ part l (136 * k) 136
unfolding slot
slot_in l k h = rw (lt-ltb k (length l / 136) h)

pub slot_out : (l : List ℕ) (k : ℕ) → length l / 136 ≤ k → slot l k ≡ []
unfolding slot
slot_out l k h = rw (le-ltb k (length l / 136) h)

pub put_in : (l : List ℕ) (k : ℕ) (b : List ℕ) → k < length l / 136 → put l k b ≡ patch l (136 * k) b
unfolding put
put_in l k b h = rw (lt-ltb k (length l / 136) h)

pub put_out : (l : List ℕ) (k : ℕ) (b : List ℕ) → length l / 136 ≤ k → put l k b ≡ l
unfolding put
put_out l k b h = rw (le-ltb k (length l / 136) h)

module _ (l : List ℕ) (k : ℕ) (b : List ℕ) (wide : length b ≡ 136) where
  pub put_long : length (put l k b) ≡ length l
  put_long =
      ⊎_elim
      (λ (h : length l / 136 ≤ k). ap length (put_out l k b h))
      (λ (h : k < length l / 136). ap length (put_in l k b h) ∙ length_patch l (136 * k) b (omega arith))
      (le_or_lt (length l / 136) k)

  -- what is put in a slot is there
  pub put_same : k < length l / 136 → slot (put l k b) k ≡ b
  put_same h =
      slot_in (put l k b) k (rw put_long h)
      ∙ ap (λ (t : List ℕ). part t (136 * k) 136) (put_in l k b h)
      ∙ ap (part (patch l (136 * k) b) (136 * k)) (sym wide) ∙ part_patch l (136 * k) b (omega arith)

  -- the other slots stay
  pub put_other : (j : ℕ) → j ≢ k → slot (put l k b) j ≡ slot l j
  put_other j ne =
      ⊎_elim
      (λ (h : length l / 136 ≤ k). ap (λ (t : List ℕ). slot t j) (put_out l k b h))
      (λ (h : k < length l / 136). ⊎_elim
      (λ (i : length l / 136 ≤ j). slot_out (put l k b) j (rw put_long i) ∙ sym (slot_out l j i))
      (λ (i : j < length l / 136). slot_in (put l k b) j (rw put_long i) ∙ ap (λ (t : List ℕ). part t (136 * j) 136) (put_in l k b h) ∙ other_part h i ∙ sym (slot_in l j i))
      (le_or_lt (length l / 136) j))
      (le_or_lt (length l / 136) k)
    where
      other_part : k < length l / 136 → j < length l / 136 → part (patch l (136 * k) b) (136 * j) 136 ≡ part l (136 * j) 136
      other_part h i =
          ⊎_elim
          (λ (m : suc j ≤ k). part_patch_before l (136 * k) b (omega arith) (136 * j) 136 (omega arith))
          (λ (m : k < suc j). part_patch_after l (136 * k) b (omega arith) (136 * j) 136 (omega arith) (omega arith))
          (le_or_lt (suc j) k)

at_slot : (n : ℕ) (l : List ℕ) → length l ≡ 136 * n → (i : ℕ) → i < length l → get_or l i 0 ≡ get_or (slot l (i / 136)) (i % 136) 0
at_slot n l long i h =
    ap (λ (j : ℕ). get_or l j 0) (omega arith) ∙ sym (at_part l (136 * (i / 136)) 136 (i % 136) (omega arith))
    ∙ ap (λ (s : List ℕ). get_or s (i % 136) 0) (sym (slot_in l (i / 136) (omega arith)))

-- two buffers whose slots are equal are equal
pub slots_ext : (n : ℕ) (l m : List ℕ) → length l ≡ 136 * n → length m ≡ 136 * n → ((k : ℕ) → k < n → slot l k ≡ slot m k) → l ≡ m
slots_ext n l m hl hm f =
    ext_get_or 0 l m (hl ∙ sym hm)
    (λ i h.
    at_slot n l hl i h ∙ ap (λ (s : List ℕ). get_or s (i % 136) 0) (f (i / 136) (omega arith)) ∙ sym (at_slot n m hm i (omega arith)))

-- an outcome that is put is what the slot says
pub put_read : (l : List ℕ) (k : ℕ) (o : Outcome) → Fitting o → k < length l / 136 → said_by (slot (put l k (bytes_of o)) k) ≡ o
put_read l k o g h = ap said_by (put_same l k (bytes_of o) (bytes_long o) h) ∙ said_bytes o g

-- past the last whole slot all is 0
pub said_none : (l : List ℕ) (k : ℕ) → length l / 136 ≤ k → refused_with 0 0 ≡ said_by (slot l k)
unfolding said_by numbers part whole
said_none l k h = rw (slot_out l k h)

-- a slot that is lent, read
pub said_lent : (l : List ℕ) (k e : ℕ) (o : Outcome) → k < length l / 136 → e ≡ 136 * k + 136 → o ≡ said_by (take (e - 136 * k) (drop (136 * k) l)) → o ≡ said_by (slot l k)
unfolding part
said_lent l k e o h q p =
    let d : e - 136 * k ≡ 136 = omega arith in
    p ∙ ap (λ (n : ℕ). said_by (take n (drop (136 * k) l))) d ∙ ap said_by (sym (slot_in l k h))

-- a slot that is lent, written
pub put_lent : (l : List ℕ) (k e : ℕ) (b : List ℕ) → k < length l / 136 → e ≡ 136 * k + 136 → length b ≡ 136
    → take (136 * k) l ++ (b ++ drop (e - 136 * k) (drop (136 * k) l)) ≡ put l k b
put_lent l k e b h q wide = lent_back l (136 * k) (e - 136 * k) b (omega arith) ∙ sym (put_in l k b h)
