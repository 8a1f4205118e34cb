-- Each public contract leaves one outcome for each call, of a body that was accepted, as the calls ask.
use mathlib.Core.Path.{◌≡◌, sym, ◌∙◌}
use contract.Lifetimes.{Lfts}
use denote.Triple.Clauses.{AtExit}
use borrow.Fn.Kinds.{Dens, res_t, ended_of}
use Rattle.work.specs.Inside.{NodeMeans, BodyMeans}
use Rattle.work.proofs.walk_node.Kinds as walk_node_kinds
use Rattle.work.proofs.walk_node.Reads as walk_node_reads
use Rattle.work.proofs.entry.Kinds as entry_kinds
use Rattle.work.proofs.entry.Reads as entry_reads

pub walk_node_one : (κs : Lfts 2) (a : Dens κs walk_node_kinds.ps) (x y : (res_t walk_node_kinds.r κs).Denot) (s t : AtExit (ended_of 2 walk_node_kinds.ps walk_node_kinds.r) κs)
    → walk_node_reads.Pre κs a → walk_node_reads.Post κs a x s → walk_node_reads.Post κs a y t → (x.answer ≡ y.answer) × (x.next ≡ y.next)
unfolding NodeMeans
walk_node_one κs a x y s t r p q =
    let f = p r.tree r.next r.parsed in
    let g = q r.tree r.next r.parsed in
    (f.0 ∙ sym g.0, f.1 ∙ sym g.1)

pub entry_one : (κs : Lfts 2) (a : Dens κs entry_kinds.ps) (x y : (res_t entry_kinds.r κs).Denot) (s t : AtExit (ended_of 2 entry_kinds.ps entry_kinds.r) κs)
    → entry_reads.Pre κs a → entry_reads.Post κs a x s → entry_reads.Post κs a y t → x ≡ y
unfolding BodyMeans
entry_one κs a x y s t r p q = p r.entry r.body ∙ sym (q r.entry r.body)
