-- Laws of records: what a record's head and body answer, and where they end.
use mathlib.Core.Path.{◌≡◌, refl, sym, ap, ◌∙◌}
use mathlib.Core.Bool.{Bool, true, false, ◌&&◌}
use mathlib.Core.List.{List}
use Prim.Native.Nat.{ℕ, ◌+◌, ◌<◌, ◌≤◌}
use native.Mathlib.Omega.{arith}
use lib.ListN.{length, get_or}
use lib.Dec.{leb, eqb}
use borrow.Author.Tests.{leb-true, le-leb, lt-leb, eq-eqb, ne_eqb}
use Rattle.std.specs.Prelude.{Result, Ok, Err}
use Rattle.low.specs.declared.Refused.{Refused}
use Rattle.low.specs.Bytes.{part}
use Rattle.low.specs.Read.{found, refused, must, then_read, placed_from, there, refusal, seen_of}
use Rattle.low.proofs.Parts.{length_part}
use Rattle.low.proofs.Reading.{was_read, was_refused, seen_as, never, must_found, then_found, as_found, placed_found}
use Rattle.value.specs.Refusals as No
use Rattle.sheet.specs.declared.Head.{Head}
use Rattle.sheet.specs.declared.Passed.{Passed}
use Rattle.sheet.specs.declared.Kind.{Kind}
use Rattle.sheet.specs.declared.Kind.TheVariants.{Setting, Expression}
use Rattle.sheet.specs.Tree.{Entry, setting, expression, entry_stage}
use Rattle.sheet.specs.Stage.{stage_known, kind_of, counts_as}
use Rattle.sheet.specs.Node.{read_literal, read_node}
use Rattle.sheet.specs.Record.{body_len, headed, read_head, read_setting, read_kind, read_body, on_head, read_record, passed_of}
use Rattle.sheet.proofs.Nodes.{Within, within_node, within_must, within_then, within_as, within_literal, past}
use Rattle.types.specs.Edition.{Edition}

-- ---- the five bytes before a body
module _ (s : List ℕ) (at : ℕ) where
  pub head_cut : length s < at + 5 → refusal No.CutShort (length s) ≡ read_head s at
  unfolding read_head must
  head_cut l = simp (lt-leb (at + 5) (length s) l)

  module _ (l : at + 5 ≤ length s) where
    pub head_mark : eqb (get_or s at 0) 213 && eqb (get_or s (at + 1) 0) 23 ≡ false → refusal No.BadMark at ≡ read_head s at
    unfolding read_head must
    head_mark h = simp (le-leb (at + 5) (length s) l, h)

    module _ (h : eqb (get_or s at 0) 213 && eqb (get_or s (at + 1) 0) 23 ≡ true) where
      marked : read_head s at ≡ must (stage_known (get_or s (at + 2) 0)) (refusal No.BadStage (at + 2))
          (must (there s (at + 5) (body_len s at)) (refusal No.CutShort (length s))
          (headed (get_or s (at + 2) 0) (at + 5) (body_len s at)))
      unfolding read_head must
      marked = simp (le-leb (at + 5) (length s) l, h)

      pub head_stage : stage_known (get_or s (at + 2) 0) ≡ false → refusal No.BadStage (at + 2) ≡ read_head s at
      unfolding must
      head_stage k = sym (marked ∙ simp k)

      module _ (k : stage_known (get_or s (at + 2) 0) ≡ true) (n : ℕ) (e : n ≡ body_len s at) where
        by_length : read_head s at ≡ must (there s (at + 5) n) (refusal No.CutShort (length s)) (headed (get_or s (at + 2) 0) (at + 5) n)
        unfolding must
        by_length = marked ∙ simp (k, ← e)

        pub head_short : length s < at + 5 + n → refusal No.CutShort (length s) ≡ read_head s at
        unfolding must
        head_short m = sym (by_length ∙ simp (lt-leb (at + 5 + n) (length s) m))

        pub head_record : at + 5 + n ≤ length s → headed (get_or s (at + 2) 0) (at + 5) n ≡ read_head s at
        unfolding must
        head_record m = sym (by_length ∙ simp (le-leb (at + 5 + n) (length s) m))

-- ---- a body that a head names lies in the sheet, five bytes on, and its stage byte is known
unfoldable HeadIn : List ℕ → ℕ → Result Head Refused → Type 0
HeadIn s at (Ok h) = (h.start ≡ at + 5) × (h.start + h.len ≤ length s) × (stage_known h.stage ≡ true)
HeadIn s at (Err r) = Unit

head_must : (s : List ℕ) (at : ℕ) (b : Bool) (k p : ℕ) (x : Result Head Refused) → (b ≡ true → HeadIn s at x) → HeadIn s at (must b (refusal k p) x)
unfolding HeadIn must
head_must s at true k p x h = h refl
head_must s at false k p x h = tt

head_here : (s : List ℕ) (at g len : ℕ) → stage_known g ≡ true → at + 5 + len ≤ length s → HeadIn s at (headed g (at + 5) len)
unfolding HeadIn
head_here s at g len k h = (refl, h, k)

head_in : (s : List ℕ) (at : ℕ) → HeadIn s at (read_head s at)
unfolding read_head
head_in s at = head_must s at _ _ _ _ (λ _. head_must s at _ _ _ _ (λ _. head_must s at _ _ _ _ (λ k. head_must s at _ _ _ _ (λ e. head_here s at _ _ k (leb-true _ _ e)))))

pub body_in : (s : List ℕ) (at g start len : ℕ) → read_head s at ≡ headed g start len → (start ≡ at + 5) × (start + len ≤ length s) × (stage_known g ≡ true)
unfolding HeadIn
body_in s at g start len e = rw e at (head_in s at)

-- a record that was read, as the code answers it
abbrev pub passed : ℕ → ℕ → Result Passed Refused
passed stage next = Ok (record { stage = stage; next = next })

-- ---- a record that was accepted: its head, its body and the place after it
pub record RecordThere (ed : Edition) (stages s : List ℕ) (at : ℕ) (x : Entry) (n : ℕ) : Type 0 where
  pub stage : ℕ
  pub start : ℕ
  pub len : ℕ
  pub head : read_head s at ≡ headed stage start len
  pub after : start ≡ at + 5
  pub inside : start + len ≤ length s
  pub ends : n ≡ start + len
  pub read : read_body ed stages stage (part s start len) ≡ found x len

module _ (ed : Edition) where
  -- ---- a setting's body, as the code goes
  module _ (b : List ℕ) where
    pub setting_cut : length b ≡ 0 → seen_of (read_setting ed b) ≡ refusal No.CutShort 0
    unfolding read_setting must
    setting_cut e = simp e

    module _ (l : 1 ≤ length b) where
      pub setting_tag : (get_or b 0 0 ≡ 1 → ⊥) → seen_of (read_setting ed b) ≡ refusal No.BadNode 0
      unfolding read_setting must
      setting_tag e = simp (le-leb (0 + 1) (length b) l, ne_eqb (get_or b 0 0) 1 e)

      pub setting_literal : get_or b 0 0 ≡ 1 → seen_of (read_setting ed b) ≡ seen_of (read_literal ed true b 0)
      unfolding read_setting must
      setting_literal e = simp (le-leb (0 + 1) (length b) l, eq-eqb (get_or b 0 0) 1 e) (seen_as setting (read_literal ed true b 0))

  -- ---- what stands in a body of each kind counts as that kind does
  kind_stage : (stages : List ℕ) (stage : ℕ) (b : List ℕ) (x : Entry) (n : ℕ) (k : Kind) → read_kind ed k stages stage b ≡ found x n → entry_stage x ≡ counts_as k stage
  unfolding read_kind read_setting entry_stage counts_as
  kind_stage stages stage b x n Setting h =
      let a = must_found _ _ _ _ x n h in
      let c = must_found _ _ _ _ x n a.1 in
      ap entry_stage (as_found setting (read_literal ed true b 0) x n c.1).2
  kind_stage stages stage b x n Expression h = ap entry_stage (as_found (expression stage) (read_node ed 32 stages stage b 0) x n h).2

  -- ---- a body, as the code goes: what its expression answered, then what is left over
  module _ (stages : List ℕ) (stage : ℕ) (b : List ℕ) where
    pub of_setting : seen_of (read_kind ed Setting stages stage b) ≡ seen_of (read_setting ed b)
    unfolding read_kind
    of_setting = refl

    pub of_node : seen_of (read_kind ed Expression stages stage b) ≡ seen_of (read_node ed 32 stages stage b 0)
    unfolding read_kind
    of_node = (seen_as (expression stage) (read_node ed 32 stages stage b 0))

    pub of_kind_lem : (k : Kind) → k ≡ kind_of stage → seen_of (read_kind ed k stages stage b) ≡ seen_of (read_kind ed (kind_of stage) stages stage b)
    of_kind_lem k e = ap (λ (j : Kind). seen_of (read_kind ed j stages stage b)) e

    module _ (r : Result ℕ Refused) (e : r ≡ seen_of (read_kind ed (kind_of stage) stages stage b)) where
      pub body_refused : (z : Refused) → r ≡ Err z → Err z ≡ seen_of (read_body ed stages stage b)
      unfolding read_body then_read
      body_refused z q = sym (rw (was_refused (read_kind ed (kind_of stage) stages stage b) z (sym q ∙ e)))

      module _ (n : ℕ) (q : r ≡ Ok n) where
        pub body_leftover : n < length b → refusal No.Leftover n ≡ seen_of (read_body ed stages stage b)
        unfolding read_body then_read must
        body_leftover l = sym (rw (was_read (read_kind ed (kind_of stage) stages stage b) n (sym q ∙ e)).1 (simp (lt-leb (length b) n l)))

        pub body_whole : length b ≤ n → Ok n ≡ seen_of (read_body ed stages stage b)
        unfolding read_body then_read must
        body_whole l = sym (rw (was_read (read_kind ed (kind_of stage) stages stage b) n (sym q ∙ e)).1 (simp (le-leb (length b) n l)))

    within_setting : Within b 0 (read_setting ed b)
    unfolding read_setting
    within_setting = within_must b 0 _ _ _ _ (omega arith) (λ _. within_must b 0 _ _ _ _ (omega arith) (λ _. within_as b 0 0 _ _ (omega arith) (within_literal ed true b 0 (omega arith))))

    within_kind : (k : Kind) → Within b 0 (read_kind ed k stages stage b)
    unfolding read_kind
    within_kind Setting = within_setting
    within_kind Expression = within_as b 0 0 _ _ (omega arith) (within_node ed 32 stages stage b 0 (omega arith))

    within_body : Within b 0 (read_body ed stages stage b)
    unfolding read_body
    within_body = within_then b 0 0 _ _ (within_kind (kind_of stage)) (λ x n l u. within_must b 0 _ _ _ _ u (λ _. past b 0 x n l u))

    pub body_place : (k p : ℕ) → read_body ed stages stage b ≡ refused k p → p ≤ length b
    unfolding Within
    body_place k p e = rw e at within_body

    pub body_end : (x : Entry) (n : ℕ) → read_body ed stages stage b ≡ found x n → (0 < n) × (n ≤ length b)
    unfolding Within
    body_end x n e = rw e at within_body

    -- a body that was accepted is one expression, up to its end
    pub body_read_lem : (x : Entry) (n : ℕ) → read_body ed stages stage b ≡ found x n → (read_kind ed (kind_of stage) stages stage b ≡ found x n) × (length b ≤ n)
    unfolding read_body
    body_read_lem x n e =
        let w = then_found _ _ x n e in
        let c = must_found (leb (length b) w.1) 29 w.1 (found w.0 w.1) x n w.3 in
        let h : w.1 ≡ n = cc in
        (w.2 ∙ c.1, omega (arith, leb-true (length b) w.1 c.0))

    -- the stage that an entry counts as, by its stage byte
    pub body_stage : (x : Entry) (n : ℕ) → read_body ed stages stage b ≡ found x n → entry_stage x ≡ counts_as (kind_of stage) stage
    body_stage x n e = kind_stage stages stage b x n (kind_of stage) (body_read_lem x n e).0

  -- ---- a record, as the code goes: r is what its head answered, b its body, x what its body answered
  pub record_head : (stages s : List ℕ) (at : ℕ) (r : Result Head Refused) → r ≡ read_head s at → (z : Refused) → r ≡ Err z → Err z ≡ passed_of (read_record ed stages s at)
  unfolding read_record
  record_head stages s at r e z q = sym (rw (sym e ∙ q))

  module _ (stages s : List ℕ) (at : ℕ) (r : Result Head Refused) (e : r ≡ read_head s at) (o : Head) (q : r ≡ Ok o) where
    abbrev g : ℕ
    g = o.stage

    abbrev start : ℕ
    start = o.start

    abbrev len : ℕ
    len = o.len

    lies : (start ≡ at + 5) × (start + len ≤ length s) × (stage_known g ≡ true)
    lies = body_in s at g start len (sym e ∙ q)

    module _ (b : List ℕ) (w : b ≡ part s start len) (x : Result ℕ Refused) (f : x ≡ seen_of (read_body ed stages g b)) where
      long : length b ≡ len
      long = ap length w ∙ length_part s start len lies.1

      of_body : read_record ed stages s at ≡ placed_from start (read_body ed stages g b)
      unfolding read_record
      of_body = ap (λ (h : Result Head Refused). on_head ed h stages s) (sym e ∙ q) ∙ ap (λ (l : List ℕ). placed_from start (read_body ed stages g l)) (sym w)

      module _ (z : Refused) (h : x ≡ Err z) where
        was : read_body ed stages g b ≡ refused z.number z.place
        was = was_refused (read_body ed stages g b) z (sym h ∙ f)

        pub bad_place : start + z.place ≤ length s
        bad_place = omega (arith, body_place stages g b z.number z.place was, long, lies.1)

        pub record_bad : refusal z.number (start + z.place) ≡ passed_of (read_record ed stages s at)
        unfolding placed_from
        record_bad = sym (ap passed_of (of_body ∙ ap (placed_from start) was))

      module _ (n : ℕ) (h : x ≡ Ok n) where
        got : (y : Entry) × (read_body ed stages g b ≡ found y n)
        got = was_read (read_body ed stages g b) n (sym h ∙ f)

        pub good_place : start + n ≤ length s
        good_place = omega (arith, body_end stages g b got.0 n got.1, long, lies.1)

        pub record_good : (stage : ℕ) → stage ≡ counts_as (kind_of g) g → passed stage (start + n) ≡ passed_of (read_record ed stages s at)
        unfolding placed_from
        record_good stage i = ap (λ (k : ℕ). passed k (start + n)) (i ∙ sym (body_stage stages g b got.0 n got.1)) ∙ sym (ap passed_of (of_body ∙ ap (placed_from start) got.1))

  pub record_there : (stages s : List ℕ) (at : ℕ) (x : Entry) (n : ℕ) → read_record ed stages s at ≡ found x n → RecordThere ed stages s at x n
  unfolding read_record
  record_there stages s at x n e = go (read_head s at) refl e
    where
      go : (h : Result Head Refused) → read_head s at ≡ h → on_head ed h stages s ≡ found x n → RecordThere ed stages s at x n
      go (Ok o) q f =
          let g = o.stage in
          let start = o.start in
          let len = o.len in
          let w = body_in s at g start len q in
          let m = placed_found start (read_body ed stages g (part s start len)) x n f in
          let b = part s start len in
          let l : m.0 ≡ len = omega (arith, (body_read_lem stages g b x m.0 m.1).1, (body_end stages g b x m.0 m.1).1, length_part s start len w.1) in
          record {
            stage = g;
            start = start;
            len = len;
            head = q;
            after = w.0;
            inside = w.1;
            ends = m.2 ∙ ap (λ (k : ℕ). start + k) l;
            read = m.1 ∙ ap (found x) l;
          }
      go (Err r) q f = absurd (never r.number r.place x n f)
