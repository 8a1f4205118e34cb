-- `products::dot` meets its contract. Assumes nothing.
use Rattle.std.proofs.Common.{◌≡◌, ◌-◌, Ok}
use Rattle.components.specs.Components.{lane}
use Rattle.products.specs.Products.{dot_of}
use Rattle.products.proofs.dot.Given as goal

abbrev pub invariant-loop-k : goal.invariant-loop-k
invariant-loop-k l = Ok l.sum ≡ dot_of l.stage l.ty (lane l.l l.a l.s) (lane l.r l.b 1) (l.k - 1)
