-- The sheet's name is after `-v`, or first.
use mathlib.Core.Path.{◌≡◌, refl, ap, ◌∙◌}
use mathlib.Core.Bool.{Bool, true, false}
use Prim.Native.Nat.{ℕ, ◌≤◌}
use native.Mathlib.Omega.{arith}
use mir.Val.{bool_byte}
use Rattle.integer.specs.Range.{pick}
use Rattle.asked.specs.Asked.{dash_v, verbose, sheet_at}
use Rattle.asked.proofs.sheet.sheet_at.Goals as goal

one_or_none : (v : Bool) → (bool_byte v ≡ pick v 1 0) × (bool_byte v ≤ 1)
one_or_none true = (refl, omega arith)
one_or_none false = (refl, omega arith)

pub returns : goal.returns
unfolding sheet_at verbose
returns c =
    let n = one_or_none c.dash_v.result in
    let v : c.dash_v.result ≡ verbose c.args.line.now = c.dash_v.ensures ∙ ap dash_v c.word.ensures.bytes in
    (c.from.ensures ∙ n.0 ∙ ap (λ (b : Bool). pick {A = ℕ} b 1 0) v, omega (arith, n.1))
