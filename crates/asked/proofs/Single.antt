-- Each public contract leaves one outcome for each call.
use mathlib.Core.Path.{◌≡◌, sym, ◌∙◌}
use contract.Lifetimes.{Lfts}
use denote.Triple.Clauses.{AtExit}
use borrow.Fn.Kinds.{Dens, res_t, ended_of}
use Rattle.integer.proofs.Single.{OneResult}
use Rattle.words.proofs.Single.{word_same}
use Rattle.asked.proofs.asked.change_at.Kinds as change_at_kinds
use Rattle.asked.proofs.asked.change_at.Reads as change_at_reads
use Rattle.asked.proofs.asked.first_bad.Kinds as first_bad_kinds
use Rattle.asked.proofs.asked.first_bad.Reads as first_bad_reads
use Rattle.asked.proofs.sheet.sheet_at.Kinds as sheet_at_kinds
use Rattle.asked.proofs.sheet.sheet_at.Reads as sheet_at_reads
use Rattle.asked.proofs.sheet.sheet_word.Kinds as sheet_word_kinds
use Rattle.asked.proofs.sheet.sheet_word.Reads as sheet_word_reads

pub change_at_one : OneResult 1 change_at_kinds.ps change_at_kinds.r change_at_reads.Post
change_at_one κs a x y s t p q = p ∙ sym q

pub first_bad_one : OneResult 1 first_bad_kinds.ps first_bad_kinds.r first_bad_reads.Post
first_bad_one κs a x y s t p q = p ∙ sym q

pub sheet_at_one : OneResult 1 sheet_at_kinds.ps sheet_at_kinds.r sheet_at_reads.Post
sheet_at_one κs a x y s t p q = p.0 ∙ sym q.0

-- of a part that is handed back, its bytes and its place
pub sheet_word_one : (κs : Lfts 1) (a : Dens κs sheet_word_kinds.ps) (x y : (res_t sheet_word_kinds.r κs).Denot)
    (s t : AtExit (ended_of 1 sheet_word_kinds.ps sheet_word_kinds.r) κs)
    → sheet_word_reads.Post κs a x s → sheet_word_reads.Post κs a y t → (x.now ≡ y.now) × (x.ref_ptr.0 ≡ y.ref_ptr.0) × (x.ref_ptr.1 ≡ y.ref_ptr.1)
sheet_word_one κs a x y s t p q = word_same _ _ x y p q
