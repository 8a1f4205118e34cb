-- `components::steps` meets its contract. Assumes nothing.
use Rattle.components.specs.Components.{lane, binary_at}
use Rattle.components.proofs.Turns.{Turn}
use Rattle.components.proofs.steps.Given as goal

abbrev pub invariant-loop-i : goal.invariant-loop-i
invariant-loop-i l = Turn (binary_at l.op l.stage l.ty (lane l.l l.a l.s) (lane l.r l.b l.t)) l.n l.out l.i
