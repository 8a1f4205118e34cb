-- Each public contract leaves one outcome for each call: the answer, the bytes that are lent, and the bytes and the place of a part.
use mathlib.Core.Path.{◌≡◌, sym, ◌∙◌}
use mathlib.Core.List.{List}
use Prim.Native.Nat.{ℕ}
use contract.Lifetimes.{Lfts}
use denote.Ref.{Bor}
use denote.Triple.Clauses.{AtExit}
use borrow.Fn.Kinds.{Dens, res_t, ended_of}
use Rattle.integer.proofs.Single.{OneResult}
use Rattle.std.proofs.Common.{Fits, w64}
use Rattle.low.specs.Part.{PartOf}
use Rattle.low.proofs.fields.byte.Kinds as byte_kinds
use Rattle.low.proofs.fields.byte.Reads as byte_reads
use Rattle.low.proofs.fields.remaining.Kinds as remaining_kinds
use Rattle.low.proofs.fields.remaining.Reads as remaining_reads
use Rattle.low.proofs.fields.part.Kinds as part_kinds
use Rattle.low.proofs.fields.part.Reads as part_reads
use Rattle.low.proofs.fields.word.Kinds as word_kinds
use Rattle.low.proofs.fields.word.Reads as word_reads
use Rattle.low.proofs.fields.number.Kinds as number_kinds
use Rattle.low.proofs.fields.number.Reads as number_reads
use Rattle.low.proofs.fields.numbers.Kinds as numbers_kinds
use Rattle.low.proofs.fields.numbers.Reads as numbers_reads
use Rattle.low.proofs.words.get.Kinds as get_kinds
use Rattle.low.proofs.words.get.Reads as get_reads
use Rattle.low.proofs.words.get_words.Kinds as get_words_kinds
use Rattle.low.proofs.words.get_words.Reads as get_words_reads
use Rattle.low.proofs.words.put.Kinds as put_kinds
use Rattle.low.proofs.words.put.Reads as put_reads
use Rattle.low.proofs.words.put_words.Kinds as put_words_kinds
use Rattle.low.proofs.words.put_words.Reads as put_words_reads

-- two parts that are this one hold the same bytes in the same place
pub part_same : (s : Bor (List ℕ)) (a n : ℕ) (x y : Bor (List ℕ)) → PartOf s a n x → PartOf s a n y → (x.now ≡ y.now) × (x.ref_ptr.0 ≡ y.ref_ptr.0) × (x.ref_ptr.1 ≡ y.ref_ptr.1)
part_same s a n x y p q = (p.bytes ∙ sym q.bytes, p.block ∙ sym q.block, p.place ∙ sym q.place)

pub byte_one : OneResult 1 byte_kinds.ps byte_kinds.r byte_reads.Post
byte_one κs a x y s t p q = p ∙ sym q

pub remaining_one : OneResult 1 remaining_kinds.ps remaining_kinds.r remaining_reads.Post
remaining_one κs a x y s t p q = p ∙ sym q

pub part_one : (κs : Lfts 1) (a : Dens κs part_kinds.ps) (x y : (res_t part_kinds.r κs).Denot) (s t : AtExit (ended_of 1 part_kinds.ps part_kinds.r) κs)
    → part_reads.Post κs a x s → part_reads.Post κs a y t → (x.now ≡ y.now) × (x.ref_ptr.0 ≡ y.ref_ptr.0) × (x.ref_ptr.1 ≡ y.ref_ptr.1)
part_one κs a x y s t p q = part_same _ _ _ x y p q

pub word_one : OneResult 1 word_kinds.ps word_kinds.r word_reads.Post
word_one κs a x y s t p q = p ∙ sym q

pub number_one : OneResult 1 number_kinds.ps number_kinds.r number_reads.Post
number_one κs a x y s t p q = p ∙ sym q

pub numbers_one : OneResult 1 numbers_kinds.ps numbers_kinds.r numbers_reads.Post
numbers_one κs a x y s t p q = p ∙ sym q

pub get_one : (n : ℕ) (f : Fits w64 n) → OneResult 2 (get_kinds.ps n f) (get_kinds.r n f) (get_reads.Post n f)
get_one n f κs a x y s t p q = p.0 ∙ sym q.0

pub get_words_one : OneResult 1 get_words_kinds.ps get_words_kinds.r get_words_reads.Post
get_words_one κs a x y s t p q = p ∙ sym q

pub put_one : (n : ℕ) (f : Fits w64 n) (κs : Lfts 2) (a : Dens κs (put_kinds.ps n f)) (x y : (res_t (put_kinds.r n f) κs).Denot) (s t : AtExit (ended_of 2 (put_kinds.ps n f) (put_kinds.r n f)) κs)
    → put_reads.Post n f κs a x s → put_reads.Post n f κs a y t → s.0.now ≡ t.0.now
put_one n f κs a x y s t p q = p ∙ sym q

pub put_words_one : (κs : Lfts 1) (a : Dens κs put_words_kinds.ps) (x y : (res_t put_words_kinds.r κs).Denot) (s t : AtExit (ended_of 1 put_words_kinds.ps put_words_kinds.r) κs)
    → put_words_reads.Post κs a x s → put_words_reads.Post κs a y t → s.0.now ≡ t.0.now
put_words_one κs a x y s t p q = p ∙ sym q
