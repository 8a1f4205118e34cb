-- Each public contract leaves one outcome for each call.
use mathlib.Core.Path.{◌≡◌, sym, ◌∙◌}
use mathlib.Core.List.{List}
use Prim.Native.Nat.{ℕ}
use contract.Lifetimes.{Lfts}
use denote.Ref.{Bor}
use denote.Triple.Clauses.{AtExit}
use borrow.Fn.Kinds.{Dens, res_t, ended_of}
use Rattle.integer.proofs.Single.{OneResult}
use Rattle.low.proofs.Single.{part_same}
use Rattle.words.specs.Split.{WordOf}
use Rattle.words.proofs.number.decimal.Kinds as decimal_kinds
use Rattle.words.proofs.number.decimal.Reads as decimal_reads
use Rattle.words.proofs.number.hex.Kinds as hex_kinds
use Rattle.words.proofs.number.hex.Reads as hex_reads
use Rattle.words.proofs.split.end_of.Kinds as end_of_kinds
use Rattle.words.proofs.split.end_of.Reads as end_of_reads
use Rattle.words.proofs.split.count.Kinds as count_kinds
use Rattle.words.proofs.split.count.Reads as count_reads
use Rattle.words.proofs.split.word.Kinds as word_kinds
use Rattle.words.proofs.split.word.Reads as word_reads

pub decimal_one : OneResult 1 decimal_kinds.ps decimal_kinds.r decimal_reads.Post
decimal_one κs a x y s t p q = p ∙ sym q

pub hex_one : OneResult 1 hex_kinds.ps hex_kinds.r hex_reads.Post
hex_one κs a x y s t p q = p ∙ sym q

pub count_one : OneResult 1 count_kinds.ps count_kinds.r count_reads.Post
count_one κs a x y s t p q = p ∙ sym q

pub end_of_one : OneResult 1 end_of_kinds.ps end_of_kinds.r end_of_reads.Post
end_of_one κs a x y s t p q = p ∙ sym q

-- of a part that is handed back, its bytes and its place
pub word_same : (s : Bor (List ℕ)) (k : ℕ) (x y : Bor (List ℕ)) → WordOf s k x → WordOf s k y → (x.now ≡ y.now) × (x.ref_ptr.0 ≡ y.ref_ptr.0) × (x.ref_ptr.1 ≡ y.ref_ptr.1)
word_same s k x y p q = part_same _ _ _ x y p.part q.part

pub word_one : (κs : Lfts 1) (a : Dens κs word_kinds.ps) (x y : (res_t word_kinds.r κs).Denot) (s t : AtExit (ended_of 1 word_kinds.ps word_kinds.r) κs)
    → word_reads.Post κs a x s → word_reads.Post κs a y t → (x.now ≡ y.now) × (x.ref_ptr.0 ≡ y.ref_ptr.0) × (x.ref_ptr.1 ≡ y.ref_ptr.1)
word_one κs a x y s t p q = word_same _ _ x y p q
