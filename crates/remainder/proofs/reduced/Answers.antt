-- After some turns c is what m moved up by as many places leaves.
use Rattle.remainder.proofs.Steps.{more}
use Rattle.remainder.proofs.reduced.Goals as goal

pub loop-preserved : goal.loop-preserved
loop-preserved c = (more c.args.m c.args.n c.loop.counter c.loop.c _ c.loop.invariant.0 c.doubled-c.ensures.0, c.doubled-c.ensures.1)
