-- The first N of a number's eight bytes, over those of the part that was lent.
use native.Mathlib.Omega.{arith}
use mathlib.Core.Path.{◌≡◌, ap, ◌∙◌}
use Prim.Native.Nat.{◌+◌, ◌-◌}
use lib.ListN.{length, take}
use Rattle.low.specs.Bytes.{lows, patch}
use Rattle.low.proofs.Parts.{lent_back}
use Rattle.low.proofs.Lows.{lows_long, low_bytes}
use Rattle.low.proofs.words.put.Goals as goal

pub returns : goal.returns
returns g c =
    let a = c.args in
    let e : c.copy_from_slice.new.self ≡ lows g.row.N a.x = c.copy_from_slice.ensures.after ∙ ap (take g.row.N) c.to_le_bytes.ensures ∙ low_bytes g.row.N a.x c.requires.few in
    let long : a.at + g.row.N - a.at ≡ length c.copy_from_slice.new.self = omega (arith, lows_long g.row.N a.x, ap length e) in
    lent_back a.b.now a.at _ _ long ∙ ap (patch a.b.now a.at) e
