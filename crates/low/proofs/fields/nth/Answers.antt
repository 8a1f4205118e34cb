-- Eight bytes that are all there, or the part of them that is.
use mathlib.Core.Path.{ap, ◌∙◌}
use mathlib.Core.List.{List}
use Prim.Native.Nat.{ℕ, ◌*◌}
use Rattle.low.specs.Bytes.{whole, part}
use Rattle.low.proofs.Parts.{part_again}
use Rattle.low.proofs.fields.nth.Goals as goal

pub returns : goal.returns
returns c =
    let a = c.args in
    c.number.ensures ∙ ap (λ (l : List ℕ). whole (part l 0 8)) c.part.ensures.bytes ∙ ap whole (part_again a.s.now (8 * a.i) 8)
