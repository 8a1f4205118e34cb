-- Each public contract leaves one outcome for each call, of an accepted sheet where the call asks for one: the answer and the marks.
use mathlib.Core.Path.{◌≡◌, sym, ◌∙◌}
use contract.Lifetimes.{Lfts}
use denote.Triple.Clauses.{AtExit}
use borrow.Fn.Kinds.{Dens, res_t, ended_of}
use Rattle.integer.proofs.Single.{OneResult}
use Rattle.entries.specs.Inside.{Dependents}
use Rattle.entries.proofs.spans.begin.Kinds as begin_kinds
use Rattle.entries.proofs.spans.begin.Reads as begin_reads
use Rattle.entries.proofs.spans.span_at.Kinds as span_at_kinds
use Rattle.entries.proofs.spans.span_at.Reads as span_at_reads
use Rattle.entries.proofs.spans.place_after.Kinds as place_after_kinds
use Rattle.entries.proofs.spans.place_after.Reads as place_after_reads
use Rattle.entries.proofs.spans.setting_at.Kinds as setting_at_kinds
use Rattle.entries.proofs.spans.setting_at.Reads as setting_at_reads
use Rattle.entries.proofs.depend.dependents.Kinds as dependents_kinds
use Rattle.entries.proofs.depend.dependents.Reads as dependents_reads

pub begin_one : OneResult 1 begin_kinds.ps begin_kinds.r begin_reads.Post
begin_one κs a x y s t p q = p ∙ sym q

pub span_at_one : OneResult 1 span_at_kinds.ps span_at_kinds.r span_at_reads.Post
span_at_one κs a x y s t p q = p ∙ sym q

pub place_after_one : OneResult 1 place_after_kinds.ps place_after_kinds.r place_after_reads.Post
place_after_one κs a x y s t p q = p ∙ sym q

pub setting_at_one : OneResult 1 setting_at_kinds.ps setting_at_kinds.r setting_at_reads.Post
setting_at_one κs a x y s t p q = p ∙ sym q

pub dependents_one : (κs : Lfts 2) (a : Dens κs dependents_kinds.ps) (x y : (res_t dependents_kinds.r κs).Denot) (s t : AtExit (ended_of 2 dependents_kinds.ps dependents_kinds.r) κs)
    → dependents_reads.Pre κs a → dependents_reads.Post κs a x s → dependents_reads.Post κs a y t → (x ≡ y) × (s.1.1.1.1.0.now ≡ t.1.1.1.1.0.now)
unfolding Dependents
dependents_one κs a x y s t r p q =
    let w = r.accepted in
    let f = p w.sheet w.end w.read w.count in
    let g = q w.sheet w.end w.read w.count in
    (f.counted ∙ sym g.counted, f.marked ∙ sym g.marked)
