-- `booth::direct::operand` meets its contract.
use Rattle.std.proofs.Common.{◌∙◌, sym}
use Rattle.operand.proofs.Shapes.{shape_small}
use Rattle.booth.proofs.Operands.{no_shape, no_length, operand_there}
use Rattle.booth.proofs.direct.operand.Goals as goal

pub returns-then-not-shape_ok : goal.returns-then-not-shape_ok
returns-then-not-shape_ok c =
    no_shape _ _ _ _ c.byte-ty.ensures c.byte-cols.ensures c.byte-rows.ensures _ c.shape_ok.ensures
    c.if-not-shape_ok.true _ c.no_operand.ensures

pub count-requires : goal.count-requires
count-requires c =
    shape_small c.byte-ty.result c.byte-cols.result c.byte-rows.result (sym c.shape_ok.ensures ∙ c.if-not-shape_ok.false)

pub returns-then-b-count : goal.returns-then-b-count
returns-then-b-count c =
    no_length _ _ _ _ c.byte-ty.ensures c.byte-cols.ensures c.byte-rows.ensures _ c.shape_ok.ensures
    c.if-not-shape_ok.false _ c.count.ensures c.if-b-count.true _ c.no_operand-then-b-count.ensures

pub returns : goal.returns
returns c =
    operand_there _ _ _ _ c.byte-ty.ensures c.byte-cols.ensures c.byte-rows.ensures _ c.shape_ok.ensures
    c.if-not-shape_ok.false _ c.count.ensures c.if-b-count.false _ _ c.numbers-comps.ensures
    c.part.ensures.bytes
