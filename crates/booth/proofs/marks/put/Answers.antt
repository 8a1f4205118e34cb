-- After k turns the bytes of the first k entries are written.
use Rattle.std.proofs.Common.{◌≡◌, ◌∙◌, arith}
use Rattle.booth.proofs.Marked.{written_none, written_more, written_all, byte_lem}
use Rattle.booth.proofs.marks.put.Goals as goal

pub loop-k-init : goal.loop-k-init
loop-k-init c = (omega arith, written_none c.args.worked.now _)

pub loop-k-preserved : goal.loop-k-preserved
loop-k-preserved c =
    (omega (arith, c.loop-k.auto.k-end), written_more c.args.worked.now c.args.marks.now _ _ _ (omega (arith, c.requires, c.loop-k.auto.k-end)) c.loop-k.invariant.1 (c.from.ensures ∙ byte_lem _))

pub returns : goal.returns
returns c =
    let all : c.loop-k.k ≡ 128 = omega (arith, c.requires, c.loop-k.auto.k-end) in
    written_all c.args.worked.now c.args.marks.now _ c.requires (rw all at c.loop-k.invariant.1)
