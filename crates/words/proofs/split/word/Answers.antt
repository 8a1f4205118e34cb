-- With each turn a word of those left is passed, and what is left starts where the next one does.
use mathlib.Core.Path.{◌≡◌, refl, ap, ◌∙◌}
use Prim.Native.Nat.{ℕ, ◌+◌, ◌-◌}
use lib.ListN.{length, take, drop}
use Rattle.low.specs.Bytes.{part}
use Rattle.words.specs.Split.{before, word_at, word_place}
use Rattle.words.proofs.Splits.{within, first_word, next_within, next_word, next_place_lem, word_here, place_here}
use native.Mathlib.Omega.{arith}
use Rattle.words.proofs.split.word.Goals as goal

pub loop-preserved : goal.loop-preserved
loop-preserved c =
    let s = c.args.s.now in
    let l = c.loop in
    let n = c.next-at in
    let less : c.args.k - l.counter - 1 ≡ c.args.k - (l.counter + 1) = omega arith in
    let word = next_word s l.at n.result n.ensures (c.args.k - l.counter) (omega arith) in
    let place = next_place_lem s l.at n.result n.ensures (c.args.k - l.counter) (omega arith) in
    (next_within s l.at n.result n.ensures l.invariant.0, rw (← less) (word ∙ l.invariant.1), rw (← less) (place ∙ l.invariant.2))

pub slice_bounds-result-end : goal.slice_bounds-result-end
slice_bounds-result-end c =
    let l = c.loop in
    omega (arith, within 0 c.args.s.now l.at c.end_of-e.result c.end_of-e.ensures l.invariant.0)

pub returns : goal.returns
unfolding part
returns c =
    let s = c.args.s.now in
    let k = c.args.k in
    let l = c.loop in
    let e = c.end_of-e in
    let none : k - l.counter ≡ 0 = omega arith in
    let w : before 0 (drop l.at s) ≡ word_at k s = word_here (k - l.counter) (drop l.at s) none ∙ l.invariant.1 in
    let n : e.result - l.at ≡ length (word_at k s) = omega (arith, ap length w) in
    let p : l.at ≡ word_place k s = omega (arith, place_here (k - l.counter) (drop l.at s) none) in
    let bytes = ap (λ (i : ℕ). take i (drop l.at s)) n ∙ ap (λ (i : ℕ). part s i (length (word_at k s))) p in
    record { bytes = first_word s l.at e.result e.ensures ∙ w; part = record { bytes = bytes; block = refl; place = omega (arith, p) } }
