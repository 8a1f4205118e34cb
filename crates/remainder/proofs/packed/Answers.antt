-- m moved up by p places stays what c moved up by e places is.
use Rattle.std.proofs.Common.{◌≡◌, ◌+◌, ◌≤◌, ◌⊎◌, ◌∙◌, inl, inr, arith}
use Rattle.std.proofs.Math.Nat.{mul-le-mul}
use Rattle.remainder.proofs.Steps.{half, packed_all}
use Rattle.remainder.proofs.packed.Goals.{then-loop-p-test+else-m-h, else-loop-p-test}
use Rattle.remainder.proofs.packed.Goals as goal

pub loop-p-preserved : goal.loop-p-preserved
loop-p-preserved c =
    let l = c.loop-p in
    (half l.m l.p c.loop-p-test.true ∙ l.invariant.0, omega arith, omega arith)

pub returns : goal.returns
returns c =
    let l = c.loop-p in
    let over : (l.p ≡ 0) ⊎ (c.args.h ≤ l.m) =
    elim c.loop-p-test.branch [
      | then-loop-p-test+else-m-h w ↦ inr (omega (arith, w.if-m-h.false))
      | else-loop-p-test w ↦ inl (omega (arith, w.loop-p-test.false))
    ] in (
      packed_all c.args.h l.m l.p l.invariant.1 over ∙ l.invariant.0,
      omega (arith, mul-le-mul {n₁ = l.p + 2} {m₁ = c.args.h} {n₂ = c.args.e + 2} {m₂ = c.args.h} (omega arith) (omega arith)),
    )
