-- A sheet that was accepted was written: its bytes are those of entries that can be written, and what was found is those entries, settled.
use mathlib.Core.Path.{◌≡◌, refl, sym, ap, subst, ◌∙◌}
use mathlib.Core.Bool.{Bool, true, false, ◌&&◌}
use mathlib.Core.List.{List, [], ◌∷◌, ◌++◌, map, append_assoc, append-nil}
use Prim.Native.Nat.{ℕ, zero, suc, ◌+◌, ◌<◌, ◌≤◌}
use native.Mathlib.Omega.{arith}
use lib.Dec.{ltb, eqb}
use lib.ListN.{length, get_or, length-append}
use borrow.Author.Tests.{leb-true, ltb-false, eqb-true, eqb-false}
use Rattle.types.specs.Types.{concrete_of}
use Rattle.types.specs.Edition.{plain}
use Rattle.value.specs.Pattern.{pick}
use Rattle.value.specs.Refusals as No
use Rattle.operand.specs.declared.Instance.{Instance}
use Rattle.operand.specs.Operand.{shape_in}
use Rattle.low.proofs.Tests.{both}
use Rattle.low.specs.Bytes.{lows, part}
use Rattle.low.proofs.Parts.{length_part, at_part}
use Rattle.low.proofs.Lows.{lows_long}
use Rattle.std.specs.Prelude.{Result}
use Rattle.low.specs.declared.Refused.{Refused}
use Rattle.low.specs.Read.{refusal}
use Rattle.sheet.specs.Record.{headed}
use Rattle.sheet.specs.declared.Head.{Head}
use Rattle.low.specs.Read.{Read, found, refused, must, then_read}
use Rattle.sheet.specs.Tree.{Entry, setting, expression, entry_stage}
use Rattle.sheet.specs.Node.{literal_ok}
use Rattle.sheet.specs.declared.Kind.{Kind}
use Rattle.sheet.specs.declared.Kind.TheVariants.{Setting, Expression}
use Rattle.sheet.specs.Stage.{kind_of}
use Rattle.sheet.specs.Record.{body_len, read_head, read_setting, read_kind, read_body, read_record}
use Rattle.sheet.specs.Sheet.{Sheet, sheet_of, read_records, read_from, read_sheet}
use Rattle.low.proofs.Reading.{never, must_found, as_found}
use Rattle.sheet.proofs.Records.{body_read_lem, record_there}
use Rattle.sheet.proofs.Accepted.{BodyHolds, a_setting, an_expression, unlike, body_holds}
use Rattle.writer.specs.Write.{write_literal, write_node, write_body, stage_byte, write_record, write_sheet}
use Rattle.writer.specs.Write.{WritableValue, WritableSetting, WritableEntry, WritableEntries, settled_entry, settled, Written, Bytes}
use Rattle.writer.proofs.Lying.{Lies, lies_end, lies_at, lies_there, lies_none, lies_join, lies_cons, lies_all, word_there}
use Rattle.writer.proofs.ReadBack.{length_record, stage_kept, stages_more}
use Rattle.writer.proofs.Nodes.{literal_from, node_from}

-- ---- a body
record EntryFrom (stages : List ℕ) (stage : ℕ) (b : List ℕ) (e : Entry) : Type 0 where
  raw : Entry
  good : WritableEntry stages raw
  byte : stage_byte raw ≡ stage
  same : settled_entry raw ≡ e
  body : write_body raw ≡ b

fits_setting : (v : Instance) → WritableValue v → literal_ok plain true (record { ty = v.ty; cols = v.cols; rows = v.rows }) ≡ true → WritableSetting v
fits_setting v g ok =
    let q = (both (shape_in plain v.ty v.cols v.rows) (concrete_of v.ty && eqb v.cols 1 && eqb v.rows 1) ok).1 in
    let r = both (concrete_of v.ty && eqb v.cols 1) (eqb v.rows 1) q in
    let c = both (concrete_of v.ty) (eqb v.cols 1) r.0 in
    record { value = g; concrete = c.0; column = eqb-true v.cols 1 c.1; row = eqb-true v.rows 1 r.1 }

-- the stage byte of each kind
setting_byte : (stage : ℕ) → kind_of stage ≡ Setting → stage ≡ 3
unfolding kind_of
setting_byte stage = go (eqb stage 3) refl
  where
    go : (g : Bool) → eqb stage 3 ≡ g → pick g Setting Expression ≡ Setting → stage ≡ 3
    go true q h = eqb-true stage 3 q
    go false q h = absurd (unlike Expression h refl)

expression_byte : (stage : ℕ) → stage ≤ 3 → kind_of stage ≡ Expression → stage ≤ 2
unfolding kind_of
expression_byte stage l = go (eqb stage 3) refl
  where
    go : (g : Bool) → eqb stage 3 ≡ g → pick g Setting Expression ≡ Expression → stage ≤ 2
    go true q h = absurd (unlike Setting refl h)
    go false q h = let z = eqb-false stage 3 q in omega arith

module _ (stages : List ℕ) (stage : ℕ) (b : List ℕ) (e : Entry) (n : ℕ) (read : read_body plain stages stage b ≡ found e n) where
  -- a setting's body begins with a literal's tag
  setting_tag : kind_of stage ≡ Setting → get_or b 0 0 ≡ 1
  unfolding read_kind read_setting
  setting_tag s =
      let w : read_kind plain Setting stages stage b ≡ found e n = ap (λ (k : Kind). read_kind plain k stages stage b) (sym s) ∙ (body_read_lem plain stages stage b e n read).0 in
      let a = must_found _ _ _ _ e n w in
      let c = must_found _ _ _ _ e n a.1 in
      eqb-true _ _ c.0

  body_from : Bytes b → stage ≤ 3 → EntryFrom stages stage b e
  unfolding WritableEntry stage_byte settled_entry write_body
  body_from bytes small = go (body_holds plain stages stage b e n read)
    where
      go : BodyHolds plain stages stage b e → EntryFrom stages stage b e
      go (a_setting s v q f g) =
          let w = literal_from true b 0 v (length b) bytes (setting_tag s) f in
          record {
            raw = setting w.raw;
            good = fits_setting w.raw w.value w.fits;
            byte = sym (setting_byte stage s);
            same = ap setting w.same ∙ sym q;
            body = sym (lies_all b (write_literal w.raw) w.lies (omega (arith, w.next)));
          }
      go (an_expression s t q f) =
          let w = node_from 32 stages stage b bytes 0 t (length b) f in
          record {
            raw = expression stage w.raw;
            good = (expression_byte stage small s, omega (arith, w.deep), w.node);
            byte = refl;
            same = ap (expression stage) w.same ∙ sym q;
            body = sym (lies_all b (write_node w.raw) w.lies (omega (arith, w.next)));
          }

-- ---- a record
must_head : (x : Bool) (k p : ℕ) (h : Result Head Refused) (g start len : ℕ) → must x (refusal k p) h ≡ headed g start len → (x ≡ true) × (h ≡ headed g start len)
unfolding must
must_head true k p h g start len e = (refl, e)
must_head false k p h g start len e = absurd (let z : ◌≡◌ {A = ℕ} 0 1 = cc in omega arith)

-- the five bytes before a body
record HeadFrom (s : List ℕ) (at g len : ℕ) : Type 0 where
  there : at + 5 ≤ length s
  mark : get_or s at 0 ≡ 213
  mark2 : get_or s (at + 1) 0 ≡ 23
  stage : get_or s (at + 2) 0 ≡ g
  small : g ≤ 3
  long : body_len s at ≡ len

head_from : (s : List ℕ) (at g start len : ℕ) → read_head s at ≡ headed g start len → HeadFrom s at g len
unfolding read_head
head_from s at g start len e =
    let a = must_head _ _ _ _ g start len e in
    let c = must_head _ _ _ _ g start len a.1 in
    let d = must_head _ _ _ _ g start len c.1 in
    let f = must_head _ _ _ _ g start len d.1 in
    let h : headed (get_or s (at + 2) 0) (at + 5) (body_len s at) ≡ headed g start len = f.1 in
    let o : ◌≡◌ {A = Head} record { stage = get_or s (at + 2) 0; start = at + 5; len = body_len s at } record { stage = g; start = start; len = len } = cc in
    let i : get_or s (at + 2) 0 ≡ g = ap (λ (x : Head). x.stage) o in
    let j : body_len s at ≡ len = ap (λ (x : Head). x.len) o in
    record {
      there = leb-true _ _ a.0;
      mark = eqb-true _ _ (both (eqb (get_or s at 0) 213) (eqb (get_or s (at + 1) 0) 23) c.0).0;
      mark2 = eqb-true _ _ (both (eqb (get_or s at 0) 213) (eqb (get_or s (at + 1) 0) 23) c.0).1;
      stage = i;
      small = omega (arith, leb-true (get_or s (at + 2) 0) 3 d.0);
      long = j;
    }

record RecordFrom (stages s : List ℕ) (at : ℕ) (e : Entry) (n : ℕ) : Type 0 where
  raw : Entry
  good : WritableEntry stages raw
  same : settled_entry raw ≡ e
  lies : Lies s at (write_record raw)
  next : n ≡ at + length (write_record raw)

-- the bytes of a part are bytes
part_bytes : (s : List ℕ) (start len : ℕ) → Bytes s → start + len ≤ length s → Bytes (part s start len)
part_bytes s start len bytes l i h =
    let m : i < len = omega (arith, length_part s start len l) in
    omega (arith, at_part s start len i m, bytes (start + i) (omega arith))

record_lies : (s : List ℕ) (at g len : ℕ) (raw : Entry) → Bytes s → HeadFrom s at g len → stage_byte raw ≡ g → length (write_body raw) ≡ len
    → Lies s (at + 5) (write_body raw) → Lies s at (write_record raw)
unfolding write_record
record_lies s at g len raw bytes f sb lb w =
    let l = f.there in
    let b = write_body raw in
    let two = lows 2 (length b) in
    let h : Lies s (at + 3) two = subst (λ (k : ℕ). Lies s (at + 3) (lows 2 k)) (f.long ∙ sym lb) (word_there 2 s (at + 3) bytes (omega arith)).1 in
    let w₅ : Lies s (at + 3 + length two) b = lies_at s (at + 5) (at + 3 + length two) b (omega (arith, lows_long 2 (length b))) w in
    let w₃ : Lies s (at + 2 + 1) (two ++ b) = lies_at s (at + 3) (at + 2 + 1) _ (omega arith) (lies_join s (at + 3) two b h w₅) in
    let w₂ : Lies s (at + 1 + 1) (stage_byte raw ∷ (two ++ b)) =
    lies_at s (at + 2) (at + 1 + 1) _ (omega arith) (lies_cons s (at + 2) _ _ (omega arith) (f.stage ∙ sym sb) w₃) in
    lies_cons s at 213 _ (omega arith) f.mark (lies_cons s (at + 1) 23 _ (omega arith) f.mark2 w₂)

record_from : (stages s : List ℕ) (at : ℕ) (e : Entry) (n : ℕ) → Bytes s → read_record plain stages s at ≡ found e n → RecordFrom stages s at e n
record_from stages s at e n bytes q =
    let k = record_there plain stages s at e n q in
    let b = part s k.start k.len in
    let f = head_from s at k.stage k.start k.len k.head in
    let small = part_bytes s k.start k.len bytes k.inside in
    let w = body_from stages k.stage b e k.len k.read small f.small in
    let l : length b ≡ k.len = length_part s k.start k.len k.inside in
    let m : length (write_body w.raw) ≡ k.len = ap length w.body ∙ l in
    let y : Lies s k.start b = lies_there s k.start b (omega (arith, k.inside)) (ap (part s k.start) l) in
    record {
      raw = w.raw;
      good = w.good;
      same = w.same;
      lies =
          record_lies s at k.stage k.len w.raw bytes f w.byte m
          (lies_at s k.start (at + 5) _ k.after (subst (Lies s k.start) (sym w.body) y));
      next = omega (arith, k.ends, k.after, length_record w.raw);
    }

-- ---- a sheet
record RecordsFrom (room : ℕ) (s : List ℕ) (done : List Entry) (at : ℕ) (es : List Entry) (z : ℕ) : Type 0 where
  raw : List Entry
  good : WritableEntries (map entry_stage done) raw
  few : length raw ≤ room
  same : done ++ settled raw ≡ es
  lies : Lies s at (write_sheet raw)
  whole : at + length (write_sheet raw) ≡ length s
  ends : z ≡ length s

module _ (s : List ℕ) (bytes : Bytes s) where
  -- no record is left
  none_left : (room : ℕ) (done : List Entry) (at : ℕ) (es : List Entry) (z : ℕ) → at ≤ length s → ltb at (length s) ≡ false → found done at ≡ found es z
      → RecordsFrom room s done at es z
  unfolding WritableEntries write_sheet
  none_left room done at es z l f q =
      let h = ltb-false at (length s) f in
      let d : done ≡ es = cc in
      let e : at ≡ z = cc in
      record { raw = []; good = tt; few = omega arith; same = append-nil done ∙ d; lies = lies_none s at l; whole = omega arith; ends = omega arith }

  -- one record, and those after it
  one_left : (room : ℕ) (done : List Entry) (at : ℕ) (e : Entry) (n : ℕ) (es : List Entry) (z : ℕ) → RecordFrom (map entry_stage done) s at e n
      → RecordsFrom room s (done ++ e ∷ []) n es z → RecordsFrom (suc room) s done at es z
  unfolding WritableEntries write_sheet
  one_left room done at e n es z w y =
      let d : map entry_stage (done ++ e ∷ []) ≡ map entry_stage done ++ entry_stage w.raw ∷ [] =
      sym (stages_more done w.raw e (ap entry_stage (sym w.same) ∙ stage_kept w.raw)) in
      record {
        raw = w.raw ∷ y.raw;
        good = (w.good, subst (λ (k : List ℕ). WritableEntries k y.raw) d y.good);
        few = omega (arith, y.few);
        same = ap (λ (k : Entry). done ++ k ∷ settled y.raw) w.same ∙ sym (append_assoc done (e ∷ []) (settled y.raw)) ∙ y.same;
        lies = lies_join s at (write_record w.raw) (write_sheet y.raw) w.lies (lies_at s n _ _ w.next y.lies);
        whole = omega (arith, length-append (write_record w.raw) (write_sheet y.raw), y.whole, w.next);
        ends = y.ends;
      }

  records_from : (room : ℕ) (done : List Entry) (at : ℕ) (es : List Entry) (z : ℕ) → at ≤ length s → read_records plain room s done at ≡ found es z
      → RecordsFrom room s done at es z
  unfolding read_records then_read
  records_from zero done at es z l q = go (ltb at (length s)) refl q
    where
      go : (b : Bool) → ltb at (length s) ≡ b → pick b (refused No.TooManyEntries at) (found done at) ≡ found es z → RecordsFrom 0 s done at es z
      go true f h = absurd (never 24 at es z h)
      go false f h = none_left 0 done at es z l f h
  records_from (suc room) done at es z l q = go (records_from room) (ltb at (length s)) (read_record plain (map entry_stage done) s at) refl refl q
    where
      go : ((d : List Entry) (a : ℕ) (es : List Entry) (z : ℕ) → a ≤ length s → read_records plain room s d a ≡ found es z → RecordsFrom room s d a es z)
          → (b : Bool) (x : Read Entry) → ltb at (length s) ≡ b → read_record plain (map entry_stage done) s at ≡ x
          → pick b (then_read x (λ e n. read_records plain room s (done ++ e ∷ []) n)) (found done at) ≡ found es z → RecordsFrom (suc room) s done at es z
      go ih true (found e n) f r h =
          let w = record_from (map entry_stage done) s at e n bytes r in
          one_left room done at e n es z w (ih (done ++ e ∷ []) n es z (omega (arith, w.next, lies_end s at (write_record w.raw) w.lies)) h)
      go ih true (refused k p) f r h = absurd (never k p es z h)
      go ih false x f r h = none_left (suc room) done at es z l f h

-- what was accepted is a plain sheet, whose records begin at its first byte
pub plain_sheet : (s : List ℕ) (sh : Sheet) (n : ℕ) → read_sheet s ≡ found sh n → sheet_of plain 0 sh.entries ≡ sh
unfolding read_sheet read_from
plain_sheet s sh n e =
    let a = must_found _ _ _ _ sh n e in
    let q = as_found (sheet_of plain 0) (read_records plain 128 s [] 0) sh n a.1 in
    ap (λ (x : Sheet). sheet_of plain 0 x.entries) q.2 ∙ sym q.2

-- what was accepted was written
pub accepted : (s : List ℕ) (sh : Sheet) (n : ℕ) → Bytes s → read_sheet s ≡ found sh n → Written s sh.entries n
unfolding read_sheet read_from
accepted s sh n bytes e =
    let a = must_found _ _ _ _ sh n e in
    let q = as_found (sheet_of plain 0) (read_records plain 128 s [] 0) sh n a.1 in
    let w = records_from s bytes 128 [] 0 q.0 n (omega arith) q.1 in
    let k : s ≡ write_sheet w.raw = lies_all s (write_sheet w.raw) w.lies (omega (arith, w.whole)) in
    record {
      raw = w.raw;
      writable = record { few = omega (arith, w.few); short = omega (arith, leb-true (length s) 16384 a.0, ap length k); each = w.good };
      bytes = sym k;
      same = w.same ∙ ap (λ (x : Sheet). x.entries) (sym q.2);
      ends = w.ends;
    }
