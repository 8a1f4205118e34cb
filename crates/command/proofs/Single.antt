-- The public contract leaves one outcome for each call: the answer, and the bytes that are lent.
use mathlib.Core.Path.{◌≡◌, sym, ◌∙◌}
use contract.Lifetimes.{Lfts}
use denote.Triple.Clauses.{AtExit}
use borrow.Fn.Kinds.{Dens, res_t, ended_of}
use Rattle.command.proofs.listing.Kinds as listing_kinds
use Rattle.command.proofs.listing.Reads as listing_reads

pub listing_one : (κs : Lfts 3) (a : Dens κs listing_kinds.ps) (x y : (res_t listing_kinds.r κs).Denot)
    (s t : AtExit (ended_of 3 listing_kinds.ps listing_kinds.r) κs)
    → listing_reads.Post κs a x s → listing_reads.Post κs a y t → (x ≡ y) × (s.0.now ≡ t.0.now)
listing_one κs a x y s t p q = (p.0.next ∙ sym q.0.next, p.0.text ∙ sym q.0.text)
