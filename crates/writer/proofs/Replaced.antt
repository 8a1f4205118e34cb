-- New content in the bytes of a setting: the sheet so patched was written too, and its entries are the same but for that setting.
use mathlib.Core.Path.{◌≡◌, refl, sym, ap, subst, ◌∙◌}
use mathlib.Core.Bool.{true}
use mathlib.Core.List.{List, [], ◌∷◌, ◌++◌, map-append, append_assoc}
use Prim.Native.Nat.{ℕ, suc, ◌+◌, ◌<◌}
use native.Mathlib.Omega.{arith}
use lib.ListN.{length, get_or, take, drop, set, length-append}
use lib.Seq.{take_at, drop-append-add, drop-append_seam, split_at, set_split}
use Rattle.value.specs.Pattern.{proper_of, kept_of}
use Rattle.operand.specs.declared.Instance.{Instance}
use Rattle.operand.specs.Operand.{shape_ok, a_scalar}
use Rattle.low.specs.Bytes.{lows, patch, eights}
use Rattle.low.proofs.Lows.{lows_long}
use Rattle.sheet.specs.Tree.{Entry, setting, expression, entry_stage}
use Rattle.writer.specs.Write.{write_literal, write_body, stage_byte, write_record, write_sheet, WritableSetting, WritableEntry, WritableEntries, Writable}
use Rattle.writer.specs.Write.{settled_value, settled_entry, settled, Written, content_place}
use Rattle.writer.proofs.Settled.{sheet_long}

-- ---- the bytes of a setting: 9 before its content, and its content
abbrev nine : ℕ → List ℕ
nine ty = 213 ∷ 23 ∷ 3 ∷ 12 ∷ 0 ∷ 1 ∷ ty ∷ 1 ∷ 1 ∷ []

setting_bytes : (v : Instance) → WritableSetting v → write_record (setting v) ≡ nine v.ty ++ lows 8 (get_or v.comps 0 0)
unfolding write_record write_body stage_byte write_literal eights lows
setting_bytes v g = let c = g.column in let r = g.row in rw (c, r)

scalar_fits : (v : Instance) (bits : ℕ) → WritableSetting v → proper_of v.ty bits ≡ true → WritableSetting (a_scalar v.ty bits)
scalar_fits v bits g p =
    record {
      value = record {
        shape = ap (λ (c : ℕ). shape_ok v.ty c 1) (sym g.column) ∙ ap (λ (r : ℕ). shape_ok v.ty v.cols r) (sym g.row) ∙ g.value.shape;
        proper = λ i h. let e : i ≡ 0 = omega arith in rw e p;
        sixteen = refl;
      };
      concrete = g.concrete;
      column = refl;
      row = refl;
    }

scalar_settled : (ty bits : ℕ) → settled_value (a_scalar ty bits) ≡ a_scalar ty (kept_of ty bits)
unfolding settled_value
scalar_settled ty bits = refl

-- ---- the records around it
pub write_append : (xs ys : List Entry) → write_sheet (xs ++ ys) ≡ write_sheet xs ++ write_sheet ys
unfolding write_sheet
write_append [] ys = refl
write_append (x ∷ xs) ys = ap (λ (k : List ℕ). write_record x ++ k) (write_append xs ys) ∙ sym (append_assoc (write_record x) (write_sheet xs) (write_sheet ys))

-- the bytes of a sheet, parted before the content of a setting
parted : (before after : List Entry) (v : Instance) → WritableSetting v
    → write_sheet (before ++ setting v ∷ after) ≡ (write_sheet before ++ nine v.ty) ++ (lows 8 (get_or v.comps 0 0) ++ write_sheet after)
unfolding write_sheet
parted before after v g =
    write_append before (setting v ∷ after)
    ∙ ap (λ (k : List ℕ). write_sheet before ++ (k ++ write_sheet after)) (setting_bytes v g)
    ∙ ap (λ (k : List ℕ). write_sheet before ++ k) (append_assoc (nine v.ty) (lows 8 (get_or v.comps 0 0)) (write_sheet after))
    ∙ sym (append_assoc (write_sheet before) (nine v.ty) (lows 8 (get_or v.comps 0 0) ++ write_sheet after))

patch_at : (p x y q : List ℕ) (a : ℕ) → length p ≡ a → length x ≡ length y → patch (p ++ (x ++ q)) a y ≡ p ++ (y ++ q)
unfolding patch
patch_at p x y q a e h =
    ap (λ (k : List ℕ). k ++ y ++ drop (a + length y) (p ++ (x ++ q))) (take_at p (x ++ q) a e)
    ∙ ap (λ (k : ℕ). p ++ y ++ drop (k + length y) (p ++ (x ++ q))) (sym e)
    ∙ ap (λ (k : List ℕ). p ++ y ++ k) (drop-append-add p (x ++ q) (length y) ∙ ap (λ (k : ℕ). drop k (x ++ q)) (sym h) ∙ drop-append_seam x q)
    ∙ append_assoc p y q

-- the written sheet, patched, is the sheet with the new content, written
patched : (before after : List Entry) (v : Instance) (bits : ℕ) → WritableSetting v → WritableSetting (a_scalar v.ty bits)
    → patch (write_sheet (before ++ setting v ∷ after)) (content_place before) (lows 8 bits) ≡ write_sheet (before ++ setting (a_scalar v.ty bits) ∷ after)
unfolding content_place
patched before after v bits g f =
    ap (λ (k : List ℕ). patch k (length (write_sheet before) + 9) (lows 8 bits)) (parted before after v g)
    ∙ patch_at (write_sheet before ++ nine v.ty) (lows 8 (get_or v.comps 0 0)) (lows 8 bits) (write_sheet after) (length (write_sheet before) + 9)
    (length-append (write_sheet before) (nine v.ty)) (lows_long 8 (get_or v.comps 0 0) ∙ sym (lows_long 8 bits))
    ∙ sym (parted before after (a_scalar v.ty bits) f)

-- a setting among entries that can be written can be replaced
records_setting : (stages : List ℕ) (before after : List Entry) (v : Instance) → WritableEntries stages (before ++ setting v ∷ after) → WritableSetting v
unfolding WritableEntries WritableEntry
records_setting stages [] after v g = g.0
records_setting stages (e ∷ before) after v g = records_setting (stages ++ entry_stage e ∷ []) before after v g.1

records_replaced : (stages : List ℕ) (before after : List Entry) (v w : Instance) → WritableSetting w
    → WritableEntries stages (before ++ setting v ∷ after) → WritableEntries stages (before ++ setting w ∷ after)
unfolding WritableEntries WritableEntry entry_stage
records_replaced stages [] after v w f g = (f, g.1)
records_replaced stages (e ∷ before) after v w f g = (g.0, records_replaced (stages ++ entry_stage e ∷ []) before after v w f g.1)

module _ (before after : List Entry) (v : Instance) (bits : ℕ) (g : Writable (before ++ setting v ∷ after)) (p : proper_of v.ty bits ≡ true) where
  was : WritableSetting v
  was = records_setting [] before after v g.each

  fits : WritableSetting (a_scalar v.ty bits)
  fits = scalar_fits v bits was p

  same_long : length (write_sheet (before ++ setting (a_scalar v.ty bits) ∷ after)) ≡ length (write_sheet (before ++ setting v ∷ after))
  same_long =
      omega (
        arith,
        ap length (parted before after v was),
        ap length (parted before after (a_scalar v.ty bits) fits),
        length-append (write_sheet before ++ nine v.ty) (lows 8 (get_or v.comps 0 0) ++ write_sheet after),
        length-append (write_sheet before ++ nine v.ty) (lows 8 bits ++ write_sheet after),
        length-append (lows 8 (get_or v.comps 0 0)) (write_sheet after),
        length-append (lows 8 bits) (write_sheet after),
        lows_long 8 (get_or v.comps 0 0),
        lows_long 8 bits,
      )

  writable_still : Writable (before ++ setting (a_scalar v.ty bits) ∷ after)
  writable_still =
      record {
        few = omega (arith, g.few, length-append before (setting v ∷ after), length-append before (setting (a_scalar v.ty bits) ∷ after));
        short = omega (arith, g.short, same_long);
        each = records_replaced [] before after v (a_scalar v.ty bits) fits g.each;
      }

-- ---- in a sheet that was written
-- a list whose images are parted at a setting is parted at a setting
record Parted (raw before after : List Entry) (v : Instance) : Type 0 where
  left : List Entry
  right : List Entry
  value : Instance
  whole : raw ≡ left ++ setting value ∷ right
  before_is : settled left ≡ before
  value_is : settled_value value ≡ v
  after_is : settled right ≡ after

was_setting : (e : Entry) (v : Instance) → settled_entry e ≡ setting v → (w : Instance) × (e ≡ setting w) × (settled_value w ≡ v)
unfolding settled_entry
was_setting (setting w) v q = (w, refl, cc)
was_setting (expression stage t) v q = absurd (let z : ◌≡◌ {A = ℕ} 0 1 = cc in omega arith)

part_more : (e x : Entry) (raw before after : List Entry) (v : Instance) → settled_entry e ≡ x → Parted raw before after v → Parted (e ∷ raw) (x ∷ before) after v
part_more e x raw before after v h w =
    record {
      left = e ∷ w.left;
      right = w.right;
      value = w.value;
      whole = ap {B = List Entry} (λ (k : List Entry). e ∷ k) w.whole;
      before_is = ap {B = List Entry} (λ (k : List Entry). settled_entry e ∷ k) w.before_is ∙ ap (λ (k : Entry). k ∷ before) h;
      value_is = w.value_is;
      after_is = w.after_is;
    }

part_raw : (raw before after : List Entry) (v : Instance) → settled raw ≡ before ++ setting v ∷ after → Parted raw before after v
part_raw [] [] after v q = absurd (let z : ◌≡◌ {A = ℕ} 0 1 = cc in omega arith)
part_raw [] (x ∷ before) after v q = absurd (let z : ◌≡◌ {A = ℕ} 0 1 = cc in omega arith)
part_raw (e ∷ raw) [] after v q =
    let w = was_setting e v cc in
    record { left = []; right = raw; value = w.0; whole = ap (λ (k : Entry). k ∷ raw) w.1; before_is = refl; value_is = w.2; after_is = cc }
part_raw (e ∷ raw) (x ∷ before) after v q = part_more e x raw before after v (cc) (part_raw raw before after v (cc))

-- what the new entries are, settled
settled_parts : (l r before after : List Entry) (u v : Instance) (bits : ℕ) → settled l ≡ before → settled r ≡ after → u.ty ≡ v.ty
    → settled (l ++ setting (a_scalar u.ty bits) ∷ r) ≡ before ++ setting (a_scalar v.ty (kept_of v.ty bits)) ∷ after
unfolding settled_entry
settled_parts l r before after u v bits e f ty =
    map-append settled_entry l (setting (a_scalar u.ty bits) ∷ r)
    ∙ ap (λ (k : Instance). settled l ++ setting k ∷ settled r) (scalar_settled u.ty bits)
    ∙ ap (λ (k : List Entry). k ++ setting (a_scalar u.ty (kept_of u.ty bits)) ∷ settled r) e
    ∙ ap (λ (k : List Entry). before ++ setting (a_scalar u.ty (kept_of u.ty bits)) ∷ k) f
    ∙ ap (λ (k : ℕ). before ++ setting (a_scalar k (kept_of k bits)) ∷ after) ty

-- 8 bytes of new content in the bytes of a setting: the sheet was written so
pub replaced : (s : List ℕ) (before after : List Entry) (v : Instance) (n bits : ℕ) → Written s (before ++ setting v ∷ after) n → proper_of v.ty bits ≡ true
    → Written (patch s (content_place before) (lows 8 bits)) (before ++ setting (a_scalar v.ty (kept_of v.ty bits)) ∷ after) n
unfolding content_place settled_value
replaced s before after v n bits w p =
    let c = part_raw w.raw before after v w.same in
    let l = c.left in
    let r = c.right in
    let u = c.value in
    let ty : u.ty ≡ v.ty = ap (λ (k : Instance). k.ty) c.value_is in
    let q : proper_of u.ty bits ≡ true = ap (λ (k : ℕ). proper_of k bits) ty ∙ p in
    let g : Writable (l ++ setting u ∷ r) = subst Writable c.whole w.writable in
    let b : write_sheet (l ++ setting u ∷ r) ≡ s = ap write_sheet (sym c.whole) ∙ w.bytes in
    let d : content_place l ≡ content_place before = ap (λ (k : ℕ). k + 9) (sym (sheet_long l)) ∙ ap (λ (k : List Entry). length (write_sheet k) + 9) c.before_is in
    let e : write_sheet (l ++ setting (a_scalar u.ty bits) ∷ r) ≡ patch s (content_place before) (lows 8 bits) =
    sym (patched l r u bits (was l r u bits g q) (fits l r u bits g q))
    ∙ ap (λ (k : ℕ). patch (write_sheet (l ++ setting u ∷ r)) k (lows 8 bits)) d ∙ ap (λ (k : List ℕ). patch k (content_place before) (lows 8 bits)) b in
    record {
      raw = l ++ setting (a_scalar u.ty bits) ∷ r;
      writable = writable_still l r u bits g q;
      bytes = e;
      same = settled_parts l r before after u v bits c.before_is c.after_is ty;
      ends = w.ends ∙ ap length (sym b) ∙ sym (same_long l r u bits g q) ∙ ap length e;
    }

-- the same by the setting's number; past the last entry stands d
pub replaced_at : (s : List ℕ) (es : List Entry) (d : Entry) (i : ℕ) (v : Instance) (n bits : ℕ) → Written s es n → i < length es → get_or es i d ≡ setting v
    → proper_of v.ty bits ≡ true → Written (patch s (content_place (take i es)) (lows 8 bits)) (set es i (setting (a_scalar v.ty (kept_of v.ty bits)))) n
replaced_at s es d i v n bits w l q p =
    let parts : es ≡ take i es ++ setting v ∷ drop (suc i) es = split_at es i d l ∙ ap (λ (x : Entry). take i es ++ x ∷ drop (suc i) es) q in
    let there = set_split es i (setting (a_scalar v.ty (kept_of v.ty bits))) l in
    subst (λ (k : List Entry). Written (patch s (content_place (take i es)) (lows 8 bits)) k n) (sym there)
    (replaced s (take i es) (drop (suc i) es) v n bits (subst (λ (k : List Entry). Written s k n) parts w) p)
