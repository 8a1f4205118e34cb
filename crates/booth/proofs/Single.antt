-- Each exported contract leaves one outcome for each call: the answer, and the bytes that are lent.
use mathlib.Core.Path.{◌≡◌, sym, ◌∙◌}
use contract.Lifetimes.{Lfts}
use denote.Triple.Clauses.{AtExit}
use borrow.Fn.Kinds.{Dens, res_t, ended_of}
use Rattle.integer.proofs.Single.{OneResult}
use Rattle.booth.proofs.sheet_check.Kinds as sheet_check_kinds
use Rattle.booth.proofs.sheet_check.Reads as sheet_check_reads
use Rattle.booth.proofs.wgsl_unary.Kinds as wgsl_unary_kinds
use Rattle.booth.proofs.wgsl_unary.Reads as wgsl_unary_reads
use Rattle.booth.proofs.wgsl_binary.Kinds as wgsl_binary_kinds
use Rattle.booth.proofs.wgsl_binary.Reads as wgsl_binary_reads
use Rattle.booth.proofs.sheet_fresh.Kinds as sheet_fresh_kinds
use Rattle.booth.proofs.sheet_fresh.Reads as sheet_fresh_reads
use Rattle.booth.proofs.sheet_change.Kinds as sheet_change_kinds
use Rattle.booth.proofs.sheet_change.Reads as sheet_change_reads
use Rattle.booth.proofs.sheet_change_marks.Kinds as sheet_change_marks_kinds
use Rattle.booth.proofs.sheet_change_marks.Reads as sheet_change_marks_reads

pub sheet_check_one : OneResult 1 sheet_check_kinds.ps sheet_check_kinds.r sheet_check_reads.Post
sheet_check_one κs a x y s t p q = p ∙ sym q

pub wgsl_unary_one : (κs : Lfts 2) (a : Dens κs wgsl_unary_kinds.ps) (x y : (res_t wgsl_unary_kinds.r κs).Denot) (s t : AtExit (ended_of 2 wgsl_unary_kinds.ps wgsl_unary_kinds.r) κs)
    → wgsl_unary_reads.Post κs a x s → wgsl_unary_reads.Post κs a y t → (x ≡ y) × (s.1.1.1.0.now ≡ t.1.1.1.0.now)
wgsl_unary_one κs a x y s t p q = (p.0 ∙ sym q.0, p.1 ∙ sym q.1)

pub wgsl_binary_one : (κs : Lfts 3) (a : Dens κs wgsl_binary_kinds.ps) (x y : (res_t wgsl_binary_kinds.r κs).Denot) (s t : AtExit (ended_of 3 wgsl_binary_kinds.ps wgsl_binary_kinds.r) κs)
    → wgsl_binary_reads.Post κs a x s → wgsl_binary_reads.Post κs a y t → (x ≡ y) × (s.1.1.1.1.0.now ≡ t.1.1.1.1.0.now)
wgsl_binary_one κs a x y s t p q = (p.0 ∙ sym q.0, p.1 ∙ sym q.1)

pub sheet_fresh_one : (κs : Lfts 2) (a : Dens κs sheet_fresh_kinds.ps) (x y : (res_t sheet_fresh_kinds.r κs).Denot) (s t : AtExit (ended_of 2 sheet_fresh_kinds.ps sheet_fresh_kinds.r) κs)
    → sheet_fresh_reads.Post κs a x s → sheet_fresh_reads.Post κs a y t → (x ≡ y) × (s.1.0.now ≡ t.1.0.now)
sheet_fresh_one κs a x y s t p q = (p.0 ∙ sym q.0, p.1 ∙ sym q.1)

pub sheet_change_one : (κs : Lfts 2) (a : Dens κs sheet_change_kinds.ps) (x y : (res_t sheet_change_kinds.r κs).Denot) (s t : AtExit (ended_of 2 sheet_change_kinds.ps sheet_change_kinds.r) κs)
    → sheet_change_reads.Post κs a x s → sheet_change_reads.Post κs a y t → (x ≡ y) × (s.1.0.now ≡ t.1.0.now)
sheet_change_one κs a x y s t p q = (p.0 ∙ sym q.0, p.1 ∙ sym q.1)

pub sheet_change_marks_one : (κs : Lfts 3) (a : Dens κs sheet_change_marks_kinds.ps) (x y : (res_t sheet_change_marks_kinds.r κs).Denot)
    (s t : AtExit (ended_of 3 sheet_change_marks_kinds.ps sheet_change_marks_kinds.r) κs)
    → sheet_change_marks_reads.Post κs a x s → sheet_change_marks_reads.Post κs a y t
    → (x ≡ y) × (s.1.0.now ≡ t.1.0.now) × (s.1.1.1.1.1.0.now ≡ t.1.1.1.1.1.0.now)
sheet_change_marks_one κs a x y s t p q = (p.0 ∙ sym q.0, p.1 ∙ sym q.1, p.2 ∙ sym q.2)
