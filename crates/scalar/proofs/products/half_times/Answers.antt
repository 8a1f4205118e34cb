-- `scalar::products::half_times` meets its contract. Assumes nothing.
use Rattle.scalar.proofs.Added.{half_times}
use Rattle.scalar.proofs.products.half_times.Goals as goal

pub returns : goal.returns
returns c =
    half_times c.args.stage c.args.l c.args.r c.ranges.l c.ranges.r
    c.half_to_f32.ensures c.half_to_f32-2.ensures c.f32_to_half-p.ensures c.finite_half.ensures c.checked.ensures
