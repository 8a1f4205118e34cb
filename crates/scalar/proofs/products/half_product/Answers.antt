-- `scalar::products::half_product` meets its contract. Assumes nothing.
use Rattle.scalar.proofs.Added.{half_added}
use Rattle.scalar.proofs.products.half_product.Goals as goal

pub returns : goal.returns
returns c =
    half_added c.args.stage c.args.l c.args.r c.ranges.l c.ranges.r
    c.half_to_f32.ensures c.half_to_f32-2.ensures c.f32_to_half-p.ensures
    c.args.sum c.ranges.sum c.half_to_f32-3.ensures c.half_to_f32-4.ensures c.f32_to_half-t.ensures
    c.finite_half.ensures c.finite_half-2.ensures c.outcome.ensures
