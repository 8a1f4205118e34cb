-- Each public contract permits one outcome for each call: any two results that it allows coincide.
use mathlib.Core.Path.{◌≡◌, sym, ◌∙◌}
use contract.Lifetimes.{Lfts}
use denote.Triple.Clauses.{AtExit}
use borrow.Fn.Kinds.{Dens, res_t, ended_of}
use Rattle.integer.proofs.Single.{OneResult}
use Rattle.low.proofs.Single.{part_same}
use Rattle.sheet.specs.Accepted.{NamesMarked}
use Rattle.sheet.proofs.stage.kind_of.Kinds as kind_of_kinds
use Rattle.sheet.proofs.stage.kind_of.Reads as kind_of_reads
use Rattle.sheet.proofs.check.Kinds as check_kinds
use Rattle.sheet.proofs.check.Reads as check_reads
use Rattle.sheet.proofs.record.read_head.Kinds as read_head_kinds
use Rattle.sheet.proofs.record.read_head.Reads as read_head_reads
use Rattle.sheet.proofs.record.body.Kinds as body_kinds
use Rattle.sheet.proofs.record.body.Reads as body_reads
use Rattle.sheet.proofs.literals.literal_at.Kinds as literal_at_kinds
use Rattle.sheet.proofs.literals.literal_at.Reads as literal_at_reads
use Rattle.sheet.proofs.names.names_marked.Kinds as names_marked_kinds
use Rattle.sheet.proofs.names.names_marked.Reads as names_marked_reads

pub check_one : OneResult 1 check_kinds.ps check_kinds.r check_reads.Post
check_one κs a x y s t p q = p ∙ sym q

pub read_head_one : OneResult 1 read_head_kinds.ps read_head_kinds.r read_head_reads.Post
read_head_one κs a x y s t p q = p ∙ sym q

pub literal_at_one : OneResult 1 literal_at_kinds.ps literal_at_kinds.r literal_at_reads.Post
literal_at_one κs a x y s t p q = p ∙ sym q

pub kind_of_one : OneResult 0 kind_of_kinds.ps kind_of_kinds.r kind_of_reads.Post
kind_of_one κs a x y s t p q = p ∙ sym q

-- of a body that was accepted, as the call asks
pub names_marked_one : (κs : Lfts 2) (a : Dens κs names_marked_kinds.ps) (x y : (res_t names_marked_kinds.r κs).Denot) (s t : AtExit (ended_of 2 names_marked_kinds.ps names_marked_kinds.r) κs)
    → names_marked_reads.Pre κs a → names_marked_reads.Post κs a x s → names_marked_reads.Post κs a y t → x ≡ y
unfolding NamesMarked
names_marked_one κs a x y s t r p q = p r.entry r.body ∙ sym (q r.entry r.body)

-- of a part that is handed back, its bytes and its place
pub body_one : (κs : Lfts 1) (a : Dens κs body_kinds.ps) (x y : (res_t body_kinds.r κs).Denot) (s t : AtExit (ended_of 1 body_kinds.ps body_kinds.r) κs)
    → body_reads.Post κs a x s → body_reads.Post κs a y t → (x.now ≡ y.now) × (x.ref_ptr.0 ≡ y.ref_ptr.0) × (x.ref_ptr.1 ≡ y.ref_ptr.1)
body_one κs a x y s t p q = part_same _ _ _ x y p q
