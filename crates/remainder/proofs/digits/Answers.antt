-- By whether the pattern has a leading digit.
use Rattle.std.proofs.Common.{sym}
use Rattle.remainder.proofs.Steps.{below, above}
use Rattle.remainder.proofs.digits.Goals as goal

pub returns-then-a-h : goal.returns-then-a-h
returns-then-a-h c = sym (below c.args.h c.args.a c.if-a-h.true).0

pub returns-else-a-h : goal.returns-else-a-h
returns-else-a-h c = sym (above c.args.h c.args.a c.if-a-h.false).0
