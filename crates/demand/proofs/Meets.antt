-- The demand holds: of every change, and of fresh results after one change or many.
use mathlib.Core.Path.{◌≡◌, sym, ap, ◌∙◌}
use mathlib.Core.Bool.{true}
use mathlib.Core.List.{List, [], ◌∷◌, Memᴰ}
use Prim.Native.Nat.{ℕ, ◌*◌}
use native.Mathlib.Omega.{arith}
use lib.ListN.{length, length-set}
use borrow.Author.Tests.{eq-eqb}
use Rattle.low.specs.Read.{Read, found, must}
use Rattle.sheet.specs.Tree.{setting}
use Rattle.sheet.specs.Sheet.{Sheet, read_sheet}
use Rattle.entries.specs.Entries.{refs_of, with_setting}
use Rattle.fold.specs.Fresh.{means_of, fresh, fresh_bytes}
use Rattle.fold.specs.Change.{content}
use Rattle.fold.proofs.Evaluated.{is_filled}
use Rattle.fold.proofs.Theorems.{ord, fresh_any, fresh_again_lem}
use Rattle.demand.specs.Demand.{after, amended, FreshChanged, FreshAgain, after_all, amended_all, Contents, FreshAfterAll, Demand3}
use Rattle.demand.proofs.Asked.{passes, change_meets}
use Rattle.demand.proofs.Amends.{amends, amend_meets, itself, content_there, amended_version}

-- fresh results over a buffer of the right length
fresh_of : (x : Read Sheet) (es : Sheet) (n : ℕ) (l : List ℕ) → x ≡ found es n → length l ≡ 136 * length es.entries → fresh_bytes x l ≡ fresh es l
unfolding fresh_bytes must
fresh_of x es n l e h = rw (e, eq-eqb (length l) (136 * length es.entries) h)

fresh_long : (s : List ℕ) (es : Sheet) (n : ℕ) (l : List ℕ) → read_sheet s ≡ found es n → length l ≡ 136 * length es.entries → length (fresh es l) ≡ 136 * length es.entries
unfolding fresh
fresh_long s es n l good h =
    (is_filled (λ k j. Memᴰ j (refs_of es k)) (ord s es n good).earlier (means_of es) (ord s es n good).local (λ k. true) (length es.entries) l h).long

pub fresh_meets : FreshAgain
fresh_meets s t es v l r hl hr i ty bits c =
    let fs = v.others in
    let gs = with_setting fs i (content ty bits) in
    let sized : length l ≡ 136 * length fs.entries = omega (arith, v.version.long) in
    let m = amend_meets t fs v.ends i ty bits v.bytes v.accepts (content_there es fs i ty bits v.version c) in
    let long : length (fresh fs l) ≡ 136 * length es.entries = omega (arith, fresh_long t fs v.ends l v.accepts sized, v.version.long) in
    let wide = length-set fs.entries i (setting (content ty bits)) in
    let left : length l ≡ 136 * length gs.entries = omega (arith, wide) in
    let right : length r ≡ 136 * length gs.entries = omega (arith, wide) in
    ap (λ (k : List ℕ). after s k i ty bits) (fresh_of (read_sheet t) fs v.ends l v.accepts sized)
    ∙ fresh_again_lem s t es fs v.end v.ends v.accepted v.accepts v.version l i ty bits hl (passes es i ty bits c (length (fresh fs l)) long)
    ∙ sym (fresh_of (read_sheet (amended t i bits)) gs v.ends l m.reads left)
    ∙ fresh_any (amended t i bits) gs v.ends m.reads l r left right

pub fresh_changed_lem : FreshChanged
fresh_changed_lem s es n bytes good l r hl hr i ty bits c = fresh_meets s s es (itself s es n bytes good) l r hl hr i ty bits c

pub fresh_after_all_lem : FreshAfterAll
unfolding after_all amended_all Contents
fresh_after_all_lem s t es v l r hl hr [] c =
    fresh_any t v.others v.ends v.accepts l r (omega (arith, v.version.long)) (omega (arith, v.version.long))
fresh_after_all_lem s t es v l r hl hr (e ∷ edits) c =
    ap (λ (k : List ℕ). after_all s k edits) (fresh_meets s t es v l l hl hl e.entry e.ty e.bits c.0)
    ∙ fresh_after_all_lem s (amended t e.entry e.bits) es (amended_version s t es e.entry e.ty e.bits v c.0) l r hl hr edits c.1

pub demand_3 : Demand3
demand_3 =
    record {
      change = λ s l i ty bits. change_meets s l i ty bits;
      amends = amends;
      fresh_changed = fresh_changed_lem;
      fresh_again = fresh_meets;
      fresh_after_all = fresh_after_all_lem;
    }
