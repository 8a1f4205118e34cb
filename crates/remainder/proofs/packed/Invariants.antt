-- m moved up by p places stays what c moved up by e places is.
use Rattle.std.proofs.Common.{◌≡◌, ◌*◌, ◌^◌, ◌<◌, ◌≤◌}
use Rattle.remainder.proofs.packed.Given as goal

abbrev pub invariant-loop-p : goal.invariant-loop-p
invariant-loop-p l = (l.m * 2 ^ l.p ≡ l.c * 2 ^ l.e) × (l.m < 2 * l.h) × (l.p ≤ l.e)

abbrev pub decreases-loop-p : goal.decreases-loop-p
decreases-loop-p l = l.p
