-- `components::unary_steps` meets its contract. Assumes nothing.
use Rattle.components.specs.Components.{unary_at}
use Rattle.components.proofs.Turns.{Turn}
use Rattle.components.proofs.unary_steps.Given as goal

abbrev pub invariant-loop-i : goal.invariant-loop-i
invariant-loop-i l = Turn (unary_at l.op l.ty l.xs) l.n l.out l.i
