-- `scalar::products::any_product` meets its contract. Assumes nothing.
use Rattle.std.proofs.Common.{sym, ap, ◌∙◌, Err}
use Rattle.std.proofs.lemmas.Result.{err_from_is_err_and}
use Rattle.scalar.proofs.Added.{no_product, with_product}
use Rattle.scalar.proofs.products.any_product.Goals as goal

pub returns-in_err-p : goal.returns-in_err-p
returns-in_err-p c =
    let a = c.args in
    let p = err_from_is_err_and c.from_residual.result c.from_residual.ensures.1 in
    p.1 ∙ ap Err p.2 ∙ sym c.in_err-p.was ∙ no_product a.stage a.ty a.sum a.l a.r c.binary_step.ensures c.in_err-p.was

pub returns : goal.returns
returns c =
    let a = c.args in
    with_product a.stage a.ty a.sum a.l a.r
    c.binary_step.ensures c.in_ok-p.was c.binary_step-2.ensures
