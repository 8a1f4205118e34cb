-- The bytes that have room stand in the place of as many.
use mathlib.Core.Path.{◌≡◌, refl, ap, ◌∙◌}
use mathlib.Core.List.{List, ◌++◌}
use Prim.Native.Nat.{ℕ, ◌+◌, ◌-◌}
use native.Mathlib.Omega.{arith}
use lib.ListN.{length, take, drop, length-take}
use Rattle.low.proofs.Parts.{lent_back}
use Rattle.command.proofs.Shown.{cut_shown}
use Rattle.command.proofs.show.Show.text.Goals as goal

pub returns : goal.returns
returns c =
    let l = c.args.self.now.out.now in
    let s = c.args.s.now in
    let b = c.min-start in
    let n = c.min-n in
    let k : b.result + n.result - b.result ≡ length (take n.result s) = omega (arith, length-take n.result s) in
    let back = lent_back l b.result (b.result + n.result - b.result) (take n.result s) k in
    let copied = ap (λ (t : List ℕ). take b.result l ++ (t ++ drop (b.result + n.result - b.result) (drop b.result l))) c.copy_from_slice.ensures.after in
    record { same = refl; shows = record { text = copied ∙ back ∙ cut_shown l s c.args.self.now.at b.result n.result b.ensures n.ensures; next = refl } }
