-- `products::dot` meets its contract. Assumes nothing.
use Rattle.std.proofs.Common.{◌≡◌, Ok, Err, arith}
use Rattle.std.proofs.lemmas.Result.{MatchResult-at_err}
use Rattle.products.proofs.Sums.{sum_stop, dot_first, dot_more}
use Rattle.products.proofs.dot.Goals as goal

pub returns-in_default : goal.returns-in_default
returns-in_default c =
    let e = MatchResult-at_err _ _ _ c.in_default.is c.map.ensures.cases in
    rw e (sum_stop _ _ 0 _ _ (omega arith) (dot_first _ _ _ _ _ _ (Err c.in_default.field-0) c.entry.ensures c.entry-2.ensures c.in_default.ensures))

pub loop-k-init : goal.loop-k-init
loop-k-init c = dot_first _ _ _ _ _ _ (Ok (c.in-Ok.field-0-0, c.in-Ok.sum)) c.entry.ensures c.entry-2.ensures c.in-Ok.ensures

pub entry-requires-in-loop-k-2 : goal.entry-requires-in-loop-k-2
entry-requires-in-loop-k-2 c = omega (arith, c.requires.1 c.loop-k.k c.loop-k-test.true)

pub returns-in_default-next : goal.returns-in_default-next
returns-in_default-next c =
    let e = MatchResult-at_err _ _ _ c.in_default-next.is c.map-in_default-next.ensures.cases in
    rw e
    (sum_stop _ _ _ _ _ (omega arith)
    (dot_more _ _ _ _ _ _ (Err c.in_default-next.field-0) _ _ c.loop-k.auto.k c.loop-k.invariant c.entry-in-loop-k.ensures c.entry-in-loop-k-2.ensures c.in_default-next.ensures))

pub loop-k-preserved : goal.loop-k-preserved
loop-k-preserved c =
    dot_more _ _ _ _ _ _ (Ok (c.in-Ok-next.field-0-0, c.in-Ok-next.bits)) _ _ c.loop-k.auto.k c.loop-k.invariant c.entry-in-loop-k.ensures c.entry-in-loop-k-2.ensures c.in-Ok-next.ensures

pub returns : goal.returns
returns c =
    let e : c.loop-k.k ≡ c.args.n = omega arith in
    rw (← e) c.loop-k.invariant
