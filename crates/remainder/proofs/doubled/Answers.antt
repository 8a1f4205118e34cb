-- Twice a number below n is below 2 n.
use Rattle.std.proofs.Common.{sym, mod-eq_of_lt, arith}
use Rattle.remainder.proofs.Steps.{less}
use Rattle.remainder.proofs.doubled.Goals as goal

pub returns-then-n-c : goal.returns-then-n-c
returns-then-n-c c = (less c.args.c c.args.n c.requires.0 c.if-n-c.true, omega arith)

pub returns : goal.returns
returns c = (sym (mod-eq_of_lt c.if-n-c.false), c.if-n-c.false)
