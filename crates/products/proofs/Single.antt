-- Each public call: any two outcomes that its contract permits coincide. Assumes nothing.
use mathlib.Core.Path.{sym, ◌∙◌}
use Rattle.components.proofs.Single.{OneResult}
use Rattle.products.proofs.cells.Kinds as cells_kinds
use Rattle.products.proofs.cells.Reads as cells_reads
use Rattle.products.proofs.vec_mat.Kinds as vec_mat_kinds
use Rattle.products.proofs.vec_mat.Reads as vec_mat_reads

pub cells_one : OneResult 2 cells_kinds.ps cells_kinds.r cells_reads.Post
cells_one κs a x y s t p q = p ∙ sym q

pub vec_mat_one : OneResult 2 vec_mat_kinds.ps vec_mat_kinds.r vec_mat_reads.Post
vec_mat_one κs a x y s t p q = p ∙ sym q
