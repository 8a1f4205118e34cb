-- After some turns c is what m moved up by as many places leaves.
use Rattle.std.proofs.Common.{◌≡◌, ◌*◌, ◌%◌, ◌^◌, ◌<◌}
use Rattle.remainder.proofs.reduced.Given as goal

abbrev pub invariant-loop : goal.invariant-loop
invariant-loop l = (l.c ≡ l.m * 2 ^ l.counter % l.n) × (l.c < l.n)
