-- After k turns the lines of the first k entries stand in the buffer.
use mathlib.Core.Path.{◌≡◌}
use native.Mathlib.Omega.{arith}
use Rattle.text.specs.Text.{lines}
use Rattle.text.proofs.Pieces.{after, nothing_put}
use Rattle.text.proofs.Lists.{lines_more}
use Rattle.text.proofs.put.Text.lines.Goals as goal

pub loop-k-init : goal.loop-k-init
unfolding lines
loop-k-init c = (omega arith, nothing_put c.args.self.now)

pub entry-requires : goal.entry-requires
entry-requires c = omega (arith, c.loop-k.invariant.1.long)

pub loop-k-preserved : goal.loop-k-preserved
loop-k-preserved c =
    let line = after c.loop-k.invariant.1 c.entry.ensures.0 (omega arith) in
    (omega arith, rw (lines_more c.args.results.now c.loop-k.k) line)

pub returns : goal.returns
returns c =
    let all : c.loop-k.k ≡ c.args.n = omega arith in
    (rw all at c.loop-k.invariant.1, omega arith)
