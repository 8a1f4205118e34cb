-- A sheet with 8 bytes of new content in the place of a setting's own: what it reads as, and that it is a version of the sheet.
use mathlib.Core.Path.{◌≡◌, refl, sym, ap, subst, ◌∙◌}
use mathlib.Core.Bool.{Bool, true, false}
use mathlib.Core.List.{List}
use Prim.Native.Nat.{ℕ}
use native.Mathlib.Omega.{arith}
use lib.Dec.{eqb}
use lib.ListN.{take, set, length-set}
use lib.Seq.{get_or-set_same, get_or-set_other}
use borrow.Author.Tests.{eqb-true, eqb-false}
use Rattle.value.specs.Pattern.{proper_of, kept_of}
use Rattle.operand.specs.Operand.{a_scalar}
use Rattle.low.specs.Bytes.{lows, patch}
use Rattle.low.specs.Read.{Read, found}
use Rattle.sheet.specs.Tree.{Entry, setting}
use Rattle.sheet.specs.Sheet.{Sheet, sheet_of, read_sheet}
use Rattle.entries.specs.Entries.{entry_at, setting_type, with_setting}
use Rattle.types.specs.Edition.{plain}
use Rattle.writer.proofs.Accepted.{plain_sheet}
use Rattle.writer.specs.Write.{content_place, Written, Bytes}
use Rattle.writer.proofs.Inverse.{accepted, reads}
use Rattle.writer.proofs.Bytes.{written_bytes}
use Rattle.writer.proofs.Replaced.{replaced_at}
use Rattle.fold.specs.Change.{content}
use Rattle.fold.specs.Demand.{SameButContent, same, contents, Version}
use Rattle.demand.specs.Demand.{Content, amended_as, amended, AmendMeets, Amends, Versions}
use Rattle.demand.proofs.Asked.{setting_typed, content_among}

-- ---- what the amended sheet reads as
module _ (s : List ℕ) (es : Sheet) (n i ty bits : ℕ) (bytes : Bytes s) (good : read_sheet s ≡ found es n) (c : Content es i ty bits) where
  place : amended s i bits ≡ patch s (content_place (take i es.entries)) (lows 8 bits)
  unfolding amended_as
  place = ap (λ (x : Read Sheet). amended_as x s i bits) good

  proper : proper_of c.value.ty bits ≡ true
  proper = ap (λ (k : ℕ). proper_of k bits) (sym c.type) ∙ c.proper

  kept : setting (a_scalar c.value.ty (kept_of c.value.ty bits)) ≡ setting (content ty bits)
  unfolding content
  kept = ap (λ (k : ℕ). setting (a_scalar k (kept_of k bits))) (sym c.type)

  abbrev replaced : List Entry
  replaced = set es.entries i (setting (content ty bits))

  written : Written (amended s i bits) replaced n
  unfolding entry_at
  written =
      subst (λ (x : List ℕ). Written x replaced n) (sym place)
      (subst (λ (x : Entry). Written (patch s (content_place (take i es.entries)) (lows 8 bits)) (set es.entries i x) n) kept
      (replaced_at s es.entries _ i c.value n bits (accepted s es n bytes good).0 (content_among es i ty bits c) c.setting proper))

  -- its edition and where its records begin are those of s
  the_same : sheet_of plain 0 replaced ≡ with_setting es i (content ty bits)
  the_same = ap (λ (x : Sheet). record { edition = x.edition; entries = replaced; begins = x.begins }) (plain_sheet s es n good)

  pub amend_meets : AmendMeets s es n i ty bits
  amend_meets =
      record {
        bytes = subst Bytes written.bytes (written_bytes written.raw written.writable);
        long = sym written.ends ∙ (accepted s es n bytes good).0.ends;
        reads = reads (amended s i bits) replaced n written ∙ ap (λ (x : Sheet). found x n) the_same;
      }

pub amends : Amends
amends s es n i ty bits bytes good c = amend_meets s es n i ty bits bytes good c

-- ---- versions
pub itself : (s : List ℕ) (es : Sheet) (n : ℕ) → Bytes s → read_sheet s ≡ found es n → Versions s s es
itself s es n bytes good =
    record { end = n; accepted = good; bytes = bytes; others = es; ends = n; accepts = good; version = record { edition = refl; long = refl; each = λ k. same refl } }

-- a setting's content is content of that setting in every version
pub content_there : (es fs : Sheet) (i ty bits : ℕ) → Version es fs → Content es i ty bits → Content fs i ty bits
unfolding setting_type
content_there es fs i ty bits alike c = by (alike.each i)
  where
    by : SameButContent (entry_at es i) (entry_at fs i) → Content fs i ty bits
    by (same e) = record { value = c.value; setting = e ∙ c.setting; type = c.type; proper = c.proper }
    by (contents v w e f q) = record { value = w; setting = f; type = setting_typed es i ty bits c ∙ ap setting_type e ∙ sym q; proper = c.proper }

-- a version with a setting replaced is a version
replaced_version : (es fs : Sheet) (i ty bits : ℕ) → Version es fs → Content es i ty bits → Version es (with_setting fs i (content ty bits))
unfolding entry_at content
replaced_version es fs i ty bits alike c = record { edition = alike.edition; long = length-set fs.entries i new ∙ alike.long; each = λ k. by k (eqb k i) refl }
  where
    new : Entry
    new = setting (content ty bits)

    here : entry_at (with_setting fs i (content ty bits)) i ≡ new
    here = get_or-set_same fs.entries i new _ (omega (arith, content_among es i ty bits c, alike.long))

    by : (k : ℕ) (b : Bool) → eqb k i ≡ b → SameButContent (entry_at es k) (entry_at (with_setting fs i (content ty bits)) k)
    by k true e =
        subst (λ (j : ℕ). SameButContent (entry_at es j) (entry_at (with_setting fs i (content ty bits)) j)) (sym (eqb-true k i e))
        (contents c.value (content ty bits) c.setting here c.type)
    by k false e = subst (SameButContent (entry_at es k)) (sym (get_or-set_other fs.entries i k new _ (eqb-false k i e))) (alike.each k)

pub amended_version : (s t : List ℕ) (es : Sheet) (i ty bits : ℕ) → Versions s t es → Content es i ty bits → Versions s (amended t i bits) es
amended_version s t es i ty bits v c =
    let m = amend_meets t v.others v.ends i ty bits v.bytes v.accepts (content_there es v.others i ty bits v.version c) in
    record {
      end = v.end;
      accepted = v.accepted;
      bytes = m.bytes;
      others = with_setting v.others i (content ty bits);
      ends = v.ends;
      accepts = m.reads;
      version = replaced_version es v.others i ty bits v.version c;
    }
