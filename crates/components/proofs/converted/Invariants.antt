-- `components::converted` meets its contract. Assumes nothing.
use Rattle.components.specs.Components.{converted_at}
use Rattle.components.proofs.Turns.{Turn}
use Rattle.components.proofs.converted.Given as goal

abbrev pub invariant-loop-i : goal.invariant-loop-i
invariant-loop-i l = Turn (converted_at l.from l.to l.xs) l.n l.out l.i
