-- `booth::direct::settle` meets its contract.
use mathlib.Core.Path.{sym, ◌∙◌}
use Rattle.booth.proofs.Settled.{settled_call, settled_wrong_size, settled_refused, settled_written}
use Rattle.booth.proofs.direct.settle.Goals as goal

pub returns-then-call_refused : goal.returns-then-call_refused
returns-then-call_refused c = settled_call _ _ _ _ c.call_refused.ensures c.if-call_refused.true c.pack-answer.ensures

pub returns-then-slot-ne136 : goal.returns-then-slot-ne136
returns-then-slot-ne136 c =
    settled_wrong_size _ _ _ _ c.call_refused.ensures c.if-call_refused.false c.if-slot-ne136.true c.pack.ensures

pub returns-then-not-fills : goal.returns-then-not-fills
returns-then-not-fills c =
    settled_refused _ _ _ _ c.call_refused.ensures c.if-call_refused.false c.if-slot-ne136.false c.pack-answer.ensures
    (sym c.fills.ensures ∙ c.if-not-fills.true)

pub returns : goal.returns
returns c =
    settled_written _ _ _ _ c.call_refused.ensures c.if-call_refused.false c.if-slot-ne136.false c.pack-answer.ensures _
    (sym c.fills.ensures ∙ c.if-not-fills.false) c.put.ensures
