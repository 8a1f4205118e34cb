-- `products::vec_mat` meets its contract. Assumes nothing.
use Rattle.std.proofs.Common.{◌≡◌, ◌+◌, ◌-◌, arith}
use Rattle.std.proofs.lemmas.Result.{err_from_is_err_and}
use Rattle.products.proofs.Sums.{rows_first, rows_refused, rows_more, rows_stop}
use Rattle.products.proofs.vec_mat.Goals as goal

pub returns-in_err-sum : goal.returns-in_err-sum
returns-in_err-sum c =
    let a = c.args in
    let p = err_from_is_err_and c.from_residual.result c.from_residual.ensures.1 in
    rw (p.1, p.2) (rows_stop _ _ _ _ a.rows _ 0 _ (omega arith) (rows_first _ _ _ _ _ _ _ c.in_err-sum.ensures))

pub loop-k-init : goal.loop-k-init
loop-k-init c = rows_first _ _ _ _ _ _ _ c.in_ok-sum.ensures

pub returns-in_err-p : goal.returns-in_err-p
returns-in_err-p c =
    let a = c.args in
    let p = err_from_is_err_and c.from_residual-in_err-p.result c.from_residual-in_err-p.ensures.1 in
    rw (p.1, p.2)
    (rows_stop _ _ _ _ _ _ (c.loop-k.k + 1 - 1) _ (omega arith) (rows_refused _ _ _ _ _ _ _ _ c.loop-k.auto.k c.loop-k.invariant _ c.in_err-p.ensures))

pub returns-in_err-sum-2 : goal.returns-in_err-sum-2
returns-in_err-sum-2 c =
    let p = err_from_is_err_and c.from_residual-in_err-sum-2.result c.from_residual-in_err-sum-2.ensures.1 in
    rw (p.1, p.2)
    (rows_stop _ _ _ _ _ _ (c.loop-k.k + 1 - 1) _ (omega arith)
    (rows_more _ _ _ _ _ _ _ _ c.loop-k.auto.k c.loop-k.invariant _ _ c.in_ok-p.ensures c.in_err-sum-2.ensures))

pub loop-k-preserved : goal.loop-k-preserved
loop-k-preserved c = rows_more _ _ _ _ _ _ _ _ c.loop-k.auto.k c.loop-k.invariant _ _ c.in_ok-p.ensures c.in_ok-sum-2.ensures

pub returns : goal.returns
returns c =
    let e : c.loop-k.k ≡ c.args.rows = omega arith in
    rw e at c.loop-k.invariant
