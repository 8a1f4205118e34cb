-- Each public contract leaves one outcome for each call: the answer, and the bytes that are lent.
use mathlib.Core.Path.{◌≡◌, sym, ◌∙◌}
use contract.Lifetimes.{Lfts}
use denote.Triple.Clauses.{AtExit}
use borrow.Fn.Kinds.{Dens, res_t, ended_of}
use Rattle.text.proofs.list.Kinds as list_kinds
use Rattle.text.proofs.list.Reads as list_reads
use Rattle.text.proofs.refuse.Kinds as refuse_kinds
use Rattle.text.proofs.refuse.Reads as refuse_reads
use Rattle.text.proofs.moved.Kinds as moved_kinds
use Rattle.text.proofs.moved.Reads as moved_reads

pub list_one : (κs : Lfts 2) (a : Dens κs list_kinds.ps) (x y : (res_t list_kinds.r κs).Denot) (s t : AtExit (ended_of 2 list_kinds.ps list_kinds.r) κs)
    → list_reads.Post κs a x s → list_reads.Post κs a y t → (x ≡ y) × (s.0.now ≡ t.0.now)
list_one κs a x y s t p q = (p.0.next ∙ sym q.0.next, p.0.text ∙ sym q.0.text)

pub refuse_one : (κs : Lfts 1) (a : Dens κs refuse_kinds.ps) (x y : (res_t refuse_kinds.r κs).Denot) (s t : AtExit (ended_of 1 refuse_kinds.ps refuse_kinds.r) κs)
    → refuse_reads.Post κs a x s → refuse_reads.Post κs a y t → (x ≡ y) × (s.0.now ≡ t.0.now)
refuse_one κs a x y s t p q = (p.0.next ∙ sym q.0.next, p.0.text ∙ sym q.0.text)

pub moved_one : (κs : Lfts 2) (a : Dens κs moved_kinds.ps) (x y : (res_t moved_kinds.r κs).Denot) (s t : AtExit (ended_of 2 moved_kinds.ps moved_kinds.r) κs)
    → moved_reads.Post κs a x s → moved_reads.Post κs a y t → (x ≡ y) × (s.0.now ≡ t.0.now)
moved_one κs a x y s t p q = (p.0.next ∙ sym q.0.next, p.0.text ∙ sym q.0.text)
