-- After n turns the first n numbers are put.
use mathlib.Core.Path.{◌≡◌, ◌∙◌, refl}
use native.Mathlib.Omega.{arith}
use Rattle.low.specs.Bytes.{eights}
use Rattle.low.proofs.Parts.{patch_none}
use Rattle.low.proofs.Eights.{eights_more}
use Rattle.low.proofs.words.put_words.Goals as goal

pub loop-n-init : goal.loop-n-init
unfolding eights
loop-n-init c = (omega arith, refl, patch_none _ _)

pub loop-n-preserved : goal.loop-n-preserved
loop-n-preserved c =
    let l = c.loop-n in
    let a = c.args in
    let more = eights_more a.b.now a.at a.xs l.n (omega arith) (omega arith) in
    (omega arith, omega arith, c.put.ensures ∙ rw l.invariant.2 more)

pub returns : goal.returns
returns c =
    let e : c.loop-n.n ≡ 16 = omega arith in
    rw e at c.loop-n.invariant.2
