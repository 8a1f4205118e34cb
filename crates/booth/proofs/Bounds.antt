-- How large the numbers and details of answers are: a sheet's refusal has a number up to 32 and a place in the sheet or at its end.
use Prim.Native.Nat.{ℕ, zero, suc, ◌+◌, ◌*◌, ◌≤◌, ◌<◌}
use mathlib.Core.Path.{◌≡◌, refl, sym, subst}
use mathlib.Core.Bool.{Bool, true, false}
use mathlib.Core.List.{List, [], ◌∷◌, ◌++◌, map}
use mathlib.Core.Logic.{⊎_elim}
use native.Mathlib.Omega.{arith}
use lib.Dec.{eqb, ltb, leb}
use lib.ListN.{length, get_or, length-take}
use borrow.Author.Tests.{leb-true}
use Rattle.low.specs.Bytes.{part}
use Rattle.low.specs.Read.{Read, found, refused, must, then_read, read_as, placed_from, there}
use Rattle.types.specs.Edition.{Edition, plain}
use Rattle.value.specs.Pattern.{pick}
use Rattle.operand.specs.declared.Outcome.{Outcome}
use Rattle.operand.specs.Outcome.{refused_with}
use Rattle.operand.proofs.Answers.{Answers, Value, Refusing}
use Rattle.dispatch.specs.Meaning.{refuse_unless}
use Rattle.dispatch.proofs.Outcomes.{Outcomes}
use Rattle.std.specs.Prelude.{Result, Ok, Err}
use Rattle.low.specs.declared.Refused.{Refused}
use Rattle.sheet.specs.declared.Head.{Head}
use Rattle.sheet.specs.declared.Kind.{Kind}
use Rattle.sheet.specs.declared.Kind.TheVariants as kind
use Rattle.sheet.specs.Tree.{Expr, literal, unary, binary, Entry, setting, expression, entry_stage}
use Rattle.sheet.specs.Node.{Tag, is_literal, is_reference, is_operator, unknown, tag_of, on_tag, all_proper, literal_head, literal_count, literal_ok, read_components, read_literal}
use Rattle.sheet.specs.Node.{read_reference, operator_known, operands, read_operator, read_node}
use Rattle.sheet.specs.Stage.{stage_known, kind_of}
use Rattle.sheet.specs.Record.{body_len, read_head, read_setting, read_kind, read_body, on_head, read_record}
use Rattle.sheet.specs.Sheet.{Sheet, sheet_of, read_records, read_from, read_sheet}
use Rattle.entries.specs.Entries.{entry_at, is_setting, setting_type}
use Rattle.entries.proofs.Places.{few}
use Rattle.fold.specs.Fresh.{sized}
use Rattle.fold.specs.Change.{proper_in, fault_of}
use Rattle.booth.specs.Operand.{call_refused, into_slot}

-- ---- reading a body
-- what was read ends, and what was refused stands, at a place up to m
abbrev Within : {A : Type 0} → ℕ → Read A → Type 0
Within m (found a n) = n ≤ m
Within m (refused k p) = (k ≤ 32) × (p ≤ m)

must_within : {A : Type 0} (m : ℕ) (t : Bool) (r x : Read A) → Within m r → (t ≡ true → Within m x) → Within m (must t r x)
unfolding must
must_within m true r x h f = f refl
must_within m false r x h f = h

then_within : {A B : Type 0} (m : ℕ) (q : Read A) (k : A → ℕ → Read B) → Within m q → ((a : A) (n : ℕ) → n ≤ m → Within m (k a n)) → Within m (then_read q k)
unfolding then_read
then_within m (found a n) k h f = f a n h
then_within m (refused n p) k h f = h

as_within : {A B : Type 0} (m : ℕ) (f : A → B) (q : Read A) → Within m q → Within m (read_as f q)
unfolding read_as
as_within m f (found a n) h = h
as_within m f (refused k p) h = h

module _ (e : Edition) (b : List ℕ) where
  components_within : (at : ℕ) → at ≤ length b → Within (length b) (read_components (literal_head b at) (literal_count b at) b at)
  components_within at l =
      must_within (length b) (there b (at + 4) (8 * literal_count b at)) _ _ (omega arith, omega arith) (λ t.
      must_within (length b) (all_proper (get_or b (at + 1) 0) (literal_count b at) b (at + 4)) _ _ (omega arith, l) (λ p.
      leb-true (at + 4 + 8 * literal_count b at) (length b) t))

  literal_within : (single : Bool) (at : ℕ) → at ≤ length b → Within (length b) (read_literal e single b at)
  unfolding read_literal
  literal_within single at l =
      must_within (length b) (there b at 4) _ _ (omega arith, omega arith) (λ t.
      must_within (length b) (literal_ok e single (literal_head b at)) _ _ (omega arith, l) (λ p. components_within at l))

  reference_within : (stages : List ℕ) (own at : ℕ) → at ≤ length b → Within (length b) (read_reference stages own b at)
  unfolding read_reference
  reference_within stages own at l =
      must_within (length b) (there b at 2) _ _ (omega arith, omega arith) (λ t.
      must_within (length b) (ltb (get_or b (at + 1) 0) (length stages)) _ _ (omega arith, l) (λ p.
      must_within (length b) (leb (get_or stages (get_or b (at + 1) 0) 0) own) _ _ (omega arith, l) (λ q. leb-true (at + 2) (length b) t)))

  module _ (below : ℕ → Read Expr) (f : (n : ℕ) → n ≤ length b → Within (length b) (below n)) where
    operands_within : (two : Bool) (place op at : ℕ) → at ≤ length b → Within (length b) (operands two place op below at)
    unfolding operands
    operands_within false place op at l = as_within (length b) (unary place op) (below at) (f at l)
    operands_within true place op at l =
        then_within (length b) (below at) _ (f at l) (λ x n h. as_within (length b) (binary place op x) (below n) (f n h))

    operator_within : (two : Bool) (at : ℕ) → at ≤ length b → Within (length b) (read_operator two below b at)
    unfolding read_operator
    operator_within two at l =
        must_within (length b) (there b at 2) _ _ (omega arith, omega arith) (λ t.
        must_within (length b) (operator_known two (get_or b (at + 1) 0)) _ _ (omega arith, l) (λ p.
        operands_within two at (get_or b (at + 1) 0) (at + 2) (leb-true (at + 2) (length b) t)))

    tag_within : (t : Tag) (stages : List ℕ) (own at : ℕ) → at ≤ length b → Within (length b) (on_tag e t below stages own b at)
    unfolding on_tag
    tag_within is_literal stages own at l = as_within (length b) literal (read_literal e false b at) (literal_within false at l)
    tag_within is_reference stages own at l = reference_within stages own at l
    tag_within (is_operator two) stages own at l = operator_within two at l
    tag_within unknown stages own at l = (omega arith, l)

  node_within : (levels : ℕ) (stages : List ℕ) (own at : ℕ) → at ≤ length b → Within (length b) (read_node e levels stages own b at)
  unfolding read_node
  node_within zero stages own at l = (omega arith, l)
  node_within (suc levels) stages own at l =
      must_within (length b) (there b at 1) _ _ (omega arith, omega arith) (λ t.
      tag_within (read_node e levels stages own b) (node_within levels stages own) (tag_of (get_or b at 0)) stages own at l)

  setting_within : Within (length b) (read_setting e b)
  unfolding read_setting
  setting_within =
      must_within (length b) (there b 0 1) _ _ (omega arith, omega arith) (λ t.
      must_within (length b) (eqb (get_or b 0 0) 1) _ _ (omega arith, omega arith) (λ p.
      as_within (length b) setting (read_literal e true b 0) (literal_within true 0 (omega arith))))

  kind_within : (k : Kind) (stages : List ℕ) (stage : ℕ) → Within (length b) (read_kind e k stages stage b)
  unfolding read_kind
  kind_within kind.Setting stages stage = setting_within
  kind_within kind.Expression stages stage = as_within (length b) (expression stage) (read_node e 32 stages stage b 0) (node_within 32 stages stage 0 (omega arith))

  body_within : (stages : List ℕ) (stage : ℕ) → Within (length b) (read_body e stages stage b)
  unfolding read_body
  body_within stages stage =
      then_within (length b) (read_kind e (kind_of stage) stages stage b) _ (kind_within (kind_of stage) stages stage) (λ x n h.
      must_within (length b) (leb (length b) n) _ _ (omega arith, h) (λ t. h))

-- ---- a record
placed_within : {A : Type 0} (m n start : ℕ) (q : Read A) → Within n q → start + n ≤ m → Within m (placed_from start q)
unfolding placed_from
placed_within m n start (found a e) h l = omega (arith, h, l)
placed_within m n start (refused k p) h l = (h.0, omega (arith, h.1, l))

abbrev HeadWithin : ℕ → Result Head Refused → Type 0
HeadWithin m (Ok h) = h.start + h.len ≤ m
HeadWithin m (Err r) = (r.number ≤ 32) × (r.place ≤ m)

must_head : (m : ℕ) (t : Bool) (r x : Result Head Refused) → HeadWithin m r → (t ≡ true → HeadWithin m x) → HeadWithin m (must t r x)
unfolding must
must_head m true r x h f = f refl
must_head m false r x h f = h

head_within : (s : List ℕ) (at : ℕ) → at ≤ length s → HeadWithin (length s) (read_head s at)
unfolding read_head
head_within s at l =
    must_head (length s) (there s at 5) _ _ (omega arith, omega arith) (λ t.
    must_head (length s) _ _ _ (omega arith, l) (λ p.
    must_head (length s) (stage_known (get_or s (at + 2) 0)) _ _ (omega arith, omega (arith, leb-true (at + 5) (length s) t)) (λ q.
    must_head (length s) (there s (at + 5) (body_len s at)) _ _ (omega arith, omega arith) (λ r. leb-true (at + 5 + body_len s at) (length s) r))))

body_long : (s : List ℕ) (start len : ℕ) → length (part s start len) ≤ len
unfolding part
body_long s start len = simp length-take (omega arith)

record_within : (e : Edition) (stages s : List ℕ) (at : ℕ) → at ≤ length s → Within (length s) (read_record e stages s at)
unfolding read_record
record_within e stages s at l = go (read_head s at) (head_within s at l)
  where
    go : (h : Result Head Refused) → HeadWithin (length s) h → Within (length s) (on_head e h stages s)
    go (Ok r) h =
        placed_within (length s) (length (part s r.start r.len)) r.start (read_body e stages r.stage (part s r.start r.len)) (body_within e (part s r.start r.len) stages r.stage)
        (omega (arith, h, body_long s r.start r.len))
    go (Err r) h = h

-- ---- a sheet
records_within : (e : Edition) (room : ℕ) (s : List ℕ) (done : List Entry) (at : ℕ) → at ≤ length s → Within (length s) (read_records e room s done at)
unfolding read_records
records_within e zero s done at l = go (ltb at (length s))
  where
    go : (t : Bool) → Within (length s) (pick t (refused 24 at) (found done at))
    go true = (omega arith, l)
    go false = l
records_within e (suc room) s done at l = go (ltb at (length s)) (λ x n k. records_within e room s (done ++ x ∷ []) n k)
  where
    go : (t : Bool) → ((x : Entry) (n : ℕ) → n ≤ length s → Within (length s) (read_records e room s (done ++ x ∷ []) n))
        → Within (length s) (pick t (then_read (read_record e (map entry_stage done) s at) (λ x n. read_records e room s (done ++ x ∷ []) n)) (found done at))
    go true f = then_within (length s) (read_record e (map entry_stage done) s at) _ (record_within e (map entry_stage done) s at l) f
    go false f = l

wider : {A : Type 0} (m n : ℕ) (q : Read A) → m ≤ n → Within m q → Within n q
wider m n (found a e) l h = omega (arith, l, h)
wider m n (refused k p) l h = (h.0, omega (arith, l, h.1))

places_within : (s : List ℕ) → Within 16384 (read_sheet s)
unfolding read_sheet read_from
places_within s =
    must_within 16384 (leb (length s) 16384) _ _ (omega arith, omega arith) (λ t.
    wider (length s) 16384 (read_from plain 0 s) (leb-true (length s) 16384 t)
    (as_within (length s) (sheet_of plain 0) (read_records plain 128 s [] 0) (records_within plain 128 s [] 0 (omega arith))))

-- at most 128 entries, or a refusal at a place up to m
abbrev pub SheetWithin : ℕ → Read Sheet → Type 0
SheetWithin m (found sh n) = length sh.entries ≤ 128
SheetWithin m (refused k p) = (k ≤ 32) × (p ≤ m)

pub sheet_within : (s : List ℕ) → SheetWithin 16384 (read_sheet s)
sheet_within s = go (read_sheet s) refl (places_within s)
  where
    go : (q : Read Sheet) → read_sheet s ≡ q → Within 16384 q → SheetWithin 16384 q
    go (found sh n) e h = few s sh n e
    go (refused k p) e h = h

-- ---- a change
pub fault_small : (sh : Sheet) (size i ty bits : ℕ) → fault_of sh size i ty bits ≤ 32
unfolding fault_of must
fault_small sh size i ty bits = go (sized sh size) (is_setting (entry_at sh i)) (proper_in sh.edition ty bits) (eqb ty (setting_type (entry_at sh i)))
  where
    go : (a b c d : Bool) → must a 30 (must b 31 (must c 26 (must d 32 0))) ≤ 32
    go true true true true = omega arith
    go true true true false = omega arith
    go true true false d = omega arith
    go true false c d = omega arith
    go false b c d = omega arith

-- ---- a direct call
-- a number of 8 bits and a detail of 32
abbrev pub Small : Outcome → Type 0
Small o = (o.status < 256) × (o.detail < 4294967296)

small_of : (o : Outcome) (n : ℕ) → n < 256 → o ≡ refused_with n 0 → Small o
small_of o n h e = subst Small (sym e) (h, omega arith)

pub outcome_small : (o : Outcome) → Outcomes o → Small o
outcome_small o w =
    ⊎_elim (small_of o 25 (omega arith)) (λ w.
    ⊎_elim (small_of o 23 (omega arith)) (λ w.
    ⊎_elim (small_of o 26 (omega arith)) (λ (w : Answers o).
    ⊎_elim (λ (v : Value o). (omega (arith, v.status), omega (arith, v.detail))) (λ (v : Refusing o). (omega (arith, v.high), v.small)) w) w) w) w

pub into_small : (slot : List ℕ) (o : Outcome) → Small o → Small (into_slot slot o)
unfolding into_slot
into_small slot o h = go (call_refused o.status) (eqb (length slot) 136)
  where
    go : (c t : Bool) → Small (pick c o (refuse_unless t 30 o))
    go true t = h
    go false true = h
    go false false = (omega arith, omega arith)
