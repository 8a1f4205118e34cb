-- `products::vec_mat` meets its contract. Assumes nothing.
use Rattle.std.proofs.Common.{◌≡◌, ◌-◌, Ok}
use Rattle.products.specs.Products.{vector_matrix}
use Rattle.products.proofs.vec_mat.Given as goal

abbrev pub invariant-loop-k : goal.invariant-loop-k
invariant-loop-k l = Ok l.sum ≡ vector_matrix l.stage l.ty l.v l.m l.rows l.cols (l.k - 1)
