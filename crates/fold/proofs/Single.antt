-- Each public contract leaves one outcome for each call: the answer, the bytes of the results and the marks.
use mathlib.Core.Path.{◌≡◌, sym, ◌∙◌}
use contract.Lifetimes.{Lfts}
use denote.Triple.Clauses.{AtExit}
use borrow.Fn.Kinds.{Dens, res_t, ended_of}
use Rattle.fold.proofs.check.Kinds as check_kinds
use Rattle.fold.proofs.check.Reads as check_reads
use Rattle.fold.proofs.evaluate.Kinds as evaluate_kinds
use Rattle.fold.proofs.evaluate.Reads as evaluate_reads
use Rattle.fold.proofs.change.Kinds as change_kinds
use Rattle.fold.proofs.change.Reads as change_reads
use Rattle.fold.proofs.change_marking.Kinds as change_marking_kinds
use Rattle.fold.proofs.change_marking.Reads as change_marking_reads

pub check_one : (κs : Lfts 1) (a : Dens κs check_kinds.ps) (x y : (res_t check_kinds.r κs).Denot) (s t : AtExit (ended_of 1 check_kinds.ps check_kinds.r) κs)
    → check_reads.Post κs a x s → check_reads.Post κs a y t → x ≡ y
check_one κs a x y s t p q = p ∙ sym q

pub evaluate_one : (κs : Lfts 2) (a : Dens κs evaluate_kinds.ps) (x y : (res_t evaluate_kinds.r κs).Denot) (s t : AtExit (ended_of 2 evaluate_kinds.ps evaluate_kinds.r) κs)
    → evaluate_reads.Post κs a x s → evaluate_reads.Post κs a y t → (x ≡ y) × (s.1.0.now ≡ t.1.0.now)
evaluate_one κs a x y s t p q = (p.0 ∙ sym q.0, p.1 ∙ sym q.1)

pub change_one : (κs : Lfts 2) (a : Dens κs change_kinds.ps) (x y : (res_t change_kinds.r κs).Denot) (s t : AtExit (ended_of 2 change_kinds.ps change_kinds.r) κs)
    → change_reads.Post κs a x s → change_reads.Post κs a y t → (x ≡ y) × (s.1.0.now ≡ t.1.0.now)
change_one κs a x y s t p q = (p.0 ∙ sym q.0, p.1 ∙ sym q.1)

pub change_marking_one : (κs : Lfts 3) (a : Dens κs change_marking_kinds.ps) (x y : (res_t change_marking_kinds.r κs).Denot)
    (s t : AtExit (ended_of 3 change_marking_kinds.ps change_marking_kinds.r) κs)
    → change_marking_reads.Post κs a x s → change_marking_reads.Post κs a y t → (x ≡ y) × (s.1.0.now ≡ t.1.0.now) × (s.1.1.1.1.1.0.now ≡ t.1.1.1.1.1.0.now)
change_marking_one κs a x y s t p q = (p.0 ∙ sym q.0, p.1 ∙ sym q.1, p.2 ∙ sym q.2)
