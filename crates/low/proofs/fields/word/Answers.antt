-- The first four bytes of the part at the place, as std reads them.
use native.Mathlib.Omega.{arith}
use mathlib.Core.Path.{◌≡◌, ap, ◌∙◌}
use mathlib.Core.List.{List}
use Prim.Native.Nat.{ℕ}
use Rattle.low.specs.Bytes.{whole, part}
use Rattle.low.proofs.Parts.{part_again}
use Rattle.low.proofs.Lows.{whole_part4}
use Rattle.low.proofs.fields.word.Goals as goal

pub returns : goal.returns
returns c =
    let a = c.args in
    let e : c.from_le_bytes.result ≡ whole (part c.part-p.result.now 0 4) = omega (arith, whole_part4 c.part-p.result.now 0) in
    e ∙ ap (λ (l : List ℕ). whole (part l 0 4)) c.part-p.ensures.bytes ∙ ap whole (part_again a.s.now a.at 4)
