-- What was found can be written again, and is read as it was: settled entries can be written, as long as before, and are settled.
use mathlib.Core.Path.{◌≡◌, refl, sym, ap, subst, ◌∙◌}
use mathlib.Core.List.{List, [], ◌∷◌, ◌++◌, map}
use Prim.Native.Nat.{ℕ, zero, suc, ◌+◌, ◌*◌, ◌-◌, ◌<◌}
use native.Mathlib.Omega.{arith}
use lib.ListN.{length, get_or, take, replicate, length-append, length-replicate, length-map, get_or-append}
use lib.Seq.{take_at, get_or-take, length-take-le}
use Rattle.value.specs.Pattern.{proper_of, kept_of}
use Rattle.value.proofs.Sound.{kept_once, kept_proper}
use Rattle.operand.specs.declared.Instance.{Instance}
use Rattle.operand.specs.Operand.{shape_of, in_shape}
use Rattle.low.proofs.Eights.{eights_long}
use Rattle.low.specs.Read.{found}
use Rattle.sheet.specs.Tree.{Expr, literal, reference, unary, binary, Entry, setting, expression, entry_stage}
use Rattle.sheet.specs.Sheet.{Sheet, read_sheet}
use Rattle.writer.specs.Write.{write_literal, write_node, write_body, write_record, write_sheet, WritableValue, depth, WritableNode, WritableEntry, WritableEntries, Writable}
use Rattle.writer.specs.Write.{settled_value, settled_node, settled_entry, settled, Bytes}
use Rattle.writer.proofs.ReadBack.{count_few, length_record, stage_kept, read_same}
use Rattle.writer.proofs.Accepted.{plain_sheet, accepted}

-- ---- settled entries are written as long
literal_long : (v : Instance) → length (write_literal (settled_value v)) ≡ length (write_literal v)
unfolding write_literal settled_value
literal_long v = omega (arith, eights_long (v.cols * v.rows) (settled_value v).comps, eights_long (v.cols * v.rows) v.comps)

node_long : (t : Expr) (at : ℕ) → length (write_node (settled_node at t)) ≡ length (write_node t)
unfolding write_node settled_node
node_long (literal v) at = literal_long v
node_long (reference k) at = refl
node_long (unary place op t) at = ap (λ (k : ℕ). suc (suc k)) (node_long t (at + 2))
node_long (binary place op l r) at =
    omega (
      arith,
      node_long l (at + 2),
      node_long r (at + 2 + length (write_node l)),
      length-append (write_node l) (write_node r),
      length-append (write_node (settled_node (at + 2) l)) (write_node (settled_node (at + 2 + length (write_node l)) r)),
    )

body_long : (e : Entry) → length (write_body (settled_entry e)) ≡ length (write_body e)
unfolding write_body settled_entry
body_long (setting v) = literal_long v
body_long (expression stage t) = node_long t 0

pub sheet_long : (es : List Entry) → length (write_sheet (settled es)) ≡ length (write_sheet es)
unfolding write_sheet
sheet_long [] = refl
sheet_long (e ∷ es) =
    omega (
      arith,
      length-append (write_record e) (write_sheet es),
      length-append (write_record (settled_entry e)) (write_sheet (settled es)),
      length_record e,
      length_record (settled_entry e),
      body_long e,
      sheet_long es,
    )

-- ---- settled entries can be written
map_at : (f : ℕ → ℕ) (xs : List ℕ) (i : ℕ) → i < length xs → get_or (map f xs) i 0 ≡ f (get_or xs i 0)
map_at f [] i h = absurd (omega arith)
map_at f (x ∷ xs) zero h = refl
map_at f (x ∷ xs) (suc i) h = map_at f xs i (omega arith)

kept_twice : (ty : ℕ) (xs : List ℕ) → map (kept_of ty) (map (kept_of ty) xs) ≡ map (kept_of ty) xs
kept_twice ty [] = refl
kept_twice ty (x ∷ xs) =
    ap (λ (k : ℕ). k ∷ map (kept_of ty) (map (kept_of ty) xs)) (kept_once ty x) ∙ ap {B = List ℕ} (λ (k : List ℕ). kept_of ty x ∷ k) (kept_twice ty xs)

module _ (v : Instance) (g : WritableValue v) where
  abbrev count : ℕ
  count = v.cols * v.rows

  abbrev used : List ℕ
  used = map (kept_of v.ty) (take count v.comps)

  abbrev zeros : List ℕ
  zeros = replicate (16 - count) 0

  taken : length (take count v.comps) ≡ count
  taken = length-take-le count v.comps (count_few v g)

  used_long : length used ≡ count
  used_long = length-map (take count v.comps) (kept_of v.ty) ∙ taken

  used_at : (i : ℕ) → i < count → get_or (used ++ zeros) i 0 ≡ kept_of v.ty (get_or v.comps i 0)
  used_at i h =
      get_or-append used zeros 0 i (omega (arith, used_long)) ∙ map_at (kept_of v.ty) (take count v.comps) i (omega (arith, taken))
      ∙ ap (kept_of v.ty) (get_or-take count v.comps i 0 h)

  value_good : WritableValue (settled_value v)
  unfolding settled_value
  value_good =
      record {
        shape = g.shape;
        proper = λ i h. ap (proper_of v.ty) (used_at i h) ∙ kept_proper v.ty (get_or v.comps i 0) (g.proper i h);
        sixteen = length-append used zeros ∙ omega (arith, used_long, length-replicate {A = ℕ} (16 - count) 0, count_few v g, g.sixteen);
      }

  value_twice : settled_value (settled_value v) ≡ settled_value v
  unfolding settled_value
  value_twice =
      ap (λ (k : List ℕ). in_shape v.ty (shape_of v) (map (kept_of v.ty) k ++ zeros)) (take_at used zeros count used_long)
      ∙ ap (λ (k : List ℕ). in_shape v.ty (shape_of v) (k ++ zeros)) (kept_twice v.ty (take count v.comps))

depth_kept : (t : Expr) (at : ℕ) → depth (settled_node at t) ≡ depth t
unfolding depth settled_node
depth_kept (literal v) at = refl
depth_kept (reference k) at = refl
depth_kept (unary place op t) at = omega (arith, depth_kept t (at + 2))
depth_kept (binary place op l r) at = omega (arith, depth_kept l (at + 2), depth_kept r (at + 2 + length (write_node l)))

node_good : (stages : List ℕ) (own : ℕ) (t : Expr) (at : ℕ) → WritableNode stages own t → WritableNode stages own (settled_node at t)
unfolding WritableNode settled_node
node_good stages own (literal v) at g = value_good v g
node_good stages own (reference k) at g = g
node_good stages own (unary place op t) at g = (g.0, g.1, node_good stages own t (at + 2) g.2)
node_good stages own (binary place op l r) at g = (g.0, g.1, node_good stages own l (at + 2) g.2, node_good stages own r (at + 2 + length (write_node l)) g.3)

node_twice : (stages : List ℕ) (own : ℕ) (t : Expr) (at : ℕ) → WritableNode stages own t → settled_node at (settled_node at t) ≡ settled_node at t
unfolding WritableNode settled_node
node_twice stages own (literal v) at g = ap literal (value_twice v g)
node_twice stages own (reference k) at g = refl
node_twice stages own (unary place op t) at g = ap (unary at op) (node_twice stages own t (at + 2) g.2)
node_twice stages own (binary place op l r) at g =
    ap (λ (k : Expr). binary at op k (settled_node (at + 2 + length (write_node (settled_node (at + 2) l))) (settled_node (at + 2 + length (write_node l)) r)))
    (node_twice stages own l (at + 2) g.2)
    ∙ ap (λ (k : ℕ). binary at op (settled_node (at + 2) l) (settled_node (at + 2 + k) (settled_node (at + 2 + length (write_node l)) r))) (node_long l (at + 2))
    ∙ ap (binary at op (settled_node (at + 2) l)) (node_twice stages own r (at + 2 + length (write_node l)) g.3)

entry_good : (stages : List ℕ) (e : Entry) → WritableEntry stages e → WritableEntry stages (settled_entry e)
unfolding WritableEntry settled_entry settled_value
entry_good stages (setting v) g = record { value = value_good v g.value; concrete = g.concrete; column = g.column; row = g.row }
entry_good stages (expression stage t) g = (g.0, omega (arith, g.1, depth_kept t 0), node_good stages stage t 0 g.2)

entry_twice : (stages : List ℕ) (e : Entry) → WritableEntry stages e → settled_entry (settled_entry e) ≡ settled_entry e
unfolding WritableEntry settled_entry
entry_twice stages (setting v) g = ap setting (value_twice v g.value)
entry_twice stages (expression stage t) g = ap (expression stage) (node_twice stages stage t 0 g.2)

records_good : (stages : List ℕ) (es : List Entry) → WritableEntries stages es → WritableEntries stages (settled es)
unfolding WritableEntries
records_good stages [] g = tt
records_good stages (e ∷ es) g =
    let more = records_good (stages ++ entry_stage e ∷ []) es g.1 in
    (entry_good stages e g.0, subst (λ (k : ℕ). WritableEntries (stages ++ k ∷ []) (settled es)) (sym (stage_kept e)) more)

records_twice : (stages : List ℕ) (es : List Entry) → WritableEntries stages es → settled (settled es) ≡ settled es
unfolding WritableEntries
records_twice stages [] g = refl
records_twice stages (e ∷ es) g =
    ap (λ (k : Entry). k ∷ settled (settled es)) (entry_twice stages e g.0)
    ∙ ap {B = List Entry} (λ (k : List Entry). settled_entry e ∷ k) (records_twice (stages ++ entry_stage e ∷ []) es g.1)

pub settled_writable : (es : List Entry) → Writable es → Writable (settled es)
settled_writable es g =
    record {
      few = omega (arith, g.few, length-map es settled_entry);
      short = omega (arith, g.short, sheet_long es);
      each = records_good [] es g.each;
    }

-- ---- what was found is itself entries that can be written, settled
pub found_writable : (s : List ℕ) (sh : Sheet) (n : ℕ) → Bytes s → read_sheet s ≡ found sh n → Writable sh.entries × (settled sh.entries ≡ sh.entries)
found_writable s sh n bytes e =
    let w = accepted s sh n bytes e in
    (subst Writable w.same (settled_writable w.raw w.writable), ap settled (sym w.same) ∙ records_twice [] w.raw w.writable.each ∙ w.same)

-- so it can be written again, and is read as it was
pub found_again : (s : List ℕ) (sh : Sheet) (n : ℕ) → Bytes s → read_sheet s ≡ found sh n → read_sheet (write_sheet sh.entries) ≡ found sh n
found_again s sh n bytes e =
    let w = accepted s sh n bytes e in
    let g = found_writable s sh n bytes e in
    let l : length (write_sheet sh.entries) ≡ n =
    ap (λ (k : List Entry). length (write_sheet k)) (sym w.same) ∙ sheet_long w.raw ∙ ap length w.bytes ∙ sym w.ends in
    read_same sh.entries g.0 g.1 ∙ ap (λ (x : Sheet). found x (length (write_sheet sh.entries))) (plain_sheet s sh n e) ∙ ap (found sh) l
