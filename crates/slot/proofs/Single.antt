-- Each public contract leaves one outcome for each call: the answer, and the bytes that are lent.
use mathlib.Core.Path.{◌≡◌, sym, ◌∙◌}
use contract.Lifetimes.{Lfts}
use denote.Triple.Clauses.{AtExit}
use borrow.Fn.Kinds.{Dens, res_t, ended_of}
use Rattle.integer.proofs.Single.{OneResult}
use Rattle.slot.proofs.read.Kinds as read_kinds
use Rattle.slot.proofs.read.Reads as read_reads
use Rattle.slot.proofs.put.Kinds as put_kinds
use Rattle.slot.proofs.put.Reads as put_reads
use Rattle.slot.proofs.well_formed.Kinds as well_formed_kinds
use Rattle.slot.proofs.well_formed.Reads as well_formed_reads
use Rattle.slot.proofs.reference.Kinds as reference_kinds
use Rattle.slot.proofs.reference.Reads as reference_reads

pub read_one : OneResult 1 read_kinds.ps read_kinds.r read_reads.Post
read_one κs a x y s t p q = p ∙ sym q

pub well_formed_one : OneResult 1 well_formed_kinds.ps well_formed_kinds.r well_formed_reads.Post
well_formed_one κs a x y s t p q = p ∙ sym q

pub reference_one : OneResult 1 reference_kinds.ps reference_kinds.r reference_reads.Post
reference_one κs a x y s t p q = p ∙ sym q

pub put_one : (κs : Lfts 1) (a : Dens κs put_kinds.ps) (x y : (res_t put_kinds.r κs).Denot) (s t : AtExit (ended_of 1 put_kinds.ps put_kinds.r) κs)
    → put_reads.Post κs a x s → put_reads.Post κs a y t → s.0.now ≡ t.0.now
put_one κs a x y s t p q = p ∙ sym q
