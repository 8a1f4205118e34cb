-- The bits of a number in a wider kind, rounded to a kind, by where its field lies. Assumes nothing.
use Rattle.std.proofs.Common.{◌≡◌, ℕ, ◌+◌, ◌-◌, ◌<◌, ◌≤◌, arith}
use Rattle.rounding.specs.Kind.{kind}
use Rattle.rounding.specs.Bits.{signed, hidden}
use Rattle.rounding.proofs.Narrowed.{Wide, lead_pos, sign_off, size_small, fields_off, digits_small, answer_fits, sign_fits, leading, past, below, none}
use Rattle.rounding.proofs.narrow.narrow_bits.Goals as goal

wide_of : (p r P R above lead : ℕ) → (2 ≤ p) × (p ≤ 53) × (1 ≤ r) × (r ≤ 1023) → (2 ≤ P) × (P ≤ 53) × (1 ≤ R) × (R ≤ 1023) → p < P → p + r ≤ R
    → above ≡ signed (kind P R) → lead ≡ hidden (kind P R) → Wide p r P R (P - p) (R - r) above lead
wide_of p r P R above lead k K a b s f = record { two = k.0; one = k.2; digits = K.1; reach = K.3; more = omega arith; further = omega arith; sign_at = s; field_at = f }

pub overflow_mul-size : goal.overflow_mul-size
overflow_mul-size c =
    let w = wide_of _ _ _ _ _ _ c.args.to.sized c.args.from.sized c.requires.0 c.requires.1 c.sign_weight-above.ensures c.weight-lead.ensures in
    omega (arith, sign_off w c.args.b, c.ranges.b.fits)

pub overflow_sub-size : goal.overflow_sub-size
overflow_sub-size c =
    let w = wide_of _ _ _ _ _ _ c.args.to.sized c.args.from.sized c.requires.0 c.requires.1 c.sign_weight-above.ensures c.weight-lead.ensures in
    sign_off w c.args.b

pub nonzero_div-field : goal.nonzero_div-field
nonzero_div-field c =
    let w = wide_of _ _ _ _ _ _ c.args.to.sized c.args.from.sized c.requires.0 c.requires.1 c.sign_weight-above.ensures c.weight-lead.ensures in
    lead_pos w

pub overflow_mul-sign : goal.overflow_mul-sign
overflow_mul-sign c =
    let w = wide_of _ _ _ _ _ _ c.args.to.sized c.args.from.sized c.requires.0 c.requires.1 c.sign_weight-above.ensures c.weight-lead.ensures in
    record { fits = sign_fits w c.args.b c.requires.2 c.sign_weight.ensures }

pub returns-then-off-to : goal.returns-then-off-to
returns-then-off-to c =
    let w = wide_of _ _ _ _ _ _ c.args.to.sized c.args.from.sized c.requires.0 c.requires.1 c.sign_weight-above.ensures c.weight-lead.ensures in
    past w c.args.b c.requires.2 c.sign_weight.ensures c.if-off-to.true c.requires.3 c.infinity.ensures

pub overflow_add-result : goal.overflow_add-result
overflow_add-result c =
    let w = wide_of _ _ _ _ _ _ c.args.to.sized c.args.from.sized c.requires.0 c.requires.1 c.sign_weight-above.ensures c.weight-lead.ensures in
    record { fits = answer_fits w c.args.b (returns-then-off-to c) }

pub overflow_mul-off : goal.overflow_mul-off
overflow_mul-off c =
    let w = wide_of _ _ _ _ _ _ c.args.to.sized c.args.from.sized c.requires.0 c.requires.1 c.sign_weight-above.ensures c.weight-lead.ensures in
    let b = c.args.b in
    omega (arith, fields_off w b c.if-off-field.true, size_small w b)

pub overflow_sub-size-then-off-field : goal.overflow_sub-size-then-off-field
overflow_sub-size-then-off-field c =
    let w = wide_of _ _ _ _ _ _ c.args.to.sized c.args.from.sized c.requires.0 c.requires.1 c.sign_weight-above.ensures c.weight-lead.ensures in
    fields_off w c.args.b c.if-off-field.true

pub round_whole-requires : goal.round_whole-requires
round_whole-requires c =
    let w = wide_of _ _ _ _ _ _ c.args.to.sized c.args.from.sized c.requires.0 c.requires.1 c.sign_weight-above.ensures c.weight-lead.ensures in
    (omega (arith, size_small w c.args.b), omega (arith, c.requires.0), omega (arith, c.args.from.sized.1))

pub returns-then-off-field : goal.returns-then-off-field
returns-then-off-field c =
    let w = wide_of _ _ _ _ _ _ c.args.to.sized c.args.from.sized c.requires.0 c.requires.1 c.sign_weight-above.ensures c.weight-lead.ensures in
    leading w c.args.b c.requires.2 c.sign_weight.ensures c.if-off-field.true c.if-off-to.false c.round_whole.ensures

pub overflow_add-result-then-off-field : goal.overflow_add-result-then-off-field
overflow_add-result-then-off-field c =
    let w = wide_of _ _ _ _ _ _ c.args.to.sized c.args.from.sized c.requires.0 c.requires.1 c.sign_weight-above.ensures c.weight-lead.ensures in
    record { fits = answer_fits w c.args.b (returns-then-off-field c) }

pub returns-then-from-places : goal.returns-then-from-places
returns-then-from-places c =
    let w = wide_of _ _ _ _ _ _ c.args.to.sized c.args.from.sized c.requires.0 c.requires.1 c.sign_weight-above.ensures c.weight-lead.ensures in
    none w c.args.b c.requires.2 c.sign_weight.ensures (omega (arith, c.requires.1)) c.if-off-field.false c.if-from-places.true

pub nonzero_rem-size : goal.nonzero_rem-size
nonzero_rem-size c =
    let w = wide_of _ _ _ _ _ _ c.args.to.sized c.args.from.sized c.requires.0 c.requires.1 c.sign_weight-above.ensures c.weight-lead.ensures in
    lead_pos w

pub overflow_add-lead : goal.overflow_add-lead
overflow_add-lead c =
    let w = wide_of _ _ _ _ _ _ c.args.to.sized c.args.from.sized c.requires.0 c.requires.1 c.sign_weight-above.ensures c.weight-lead.ensures in
    omega (arith, digits_small w c.args.b)

pub round_whole-requires-2 : goal.round_whole-requires-2
round_whole-requires-2 c =
    let w = wide_of _ _ _ _ _ _ c.args.to.sized c.args.from.sized c.requires.0 c.requires.1 c.sign_weight-above.ensures c.weight-lead.ensures in
    (digits_small w c.args.b, omega (arith, c.if-off-field.false), omega (arith, c.if-from-places.false))

pub returns : goal.returns
returns c =
    let w = wide_of _ _ _ _ _ _ c.args.to.sized c.args.from.sized c.requires.0 c.requires.1 c.sign_weight-above.ensures c.weight-lead.ensures in
    below w c.args.b c.requires.2 c.sign_weight.ensures (omega (arith, c.requires.1)) c.if-off-field.false c.if-from-places.false c.round_whole-2.ensures

pub overflow_add-result-2 : goal.overflow_add-result-2
overflow_add-result-2 c =
    let w = wide_of _ _ _ _ _ _ c.args.to.sized c.args.from.sized c.requires.0 c.requires.1 c.sign_weight-above.ensures c.weight-lead.ensures in
    record { fits = answer_fits w c.args.b (returns c) }
