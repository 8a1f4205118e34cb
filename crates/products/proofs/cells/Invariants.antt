-- `products::cells` meets its contract. Assumes nothing.
use Rattle.components.proofs.Turns.{Turn}
use Rattle.products.specs.Products.{cell_at}
use Rattle.products.proofs.cells.Given as goal

abbrev pub invariant-loop-i : goal.invariant-loop-i
invariant-loop-i l = Turn (cell_at l.stage l.ty l.l l.r l.rows l.inner) l.n l.out l.i
