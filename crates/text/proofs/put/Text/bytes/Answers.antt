-- The bytes stand in the place of as many.
use mathlib.Core.Path.{◌≡◌, refl, ap, ◌∙◌}
use mathlib.Core.List.{List, ◌++◌}
use Prim.Native.Nat.{ℕ, ◌+◌, ◌-◌}
use native.Mathlib.Omega.{arith}
use lib.ListN.{length, take, drop}
use Rattle.low.specs.Bytes.{patch}
use Rattle.low.proofs.Parts.{lent_back, length_patch}
use Rattle.text.proofs.put.Text.bytes.Goals as goal

pub returns : goal.returns
returns c =
    let l = c.args.self.now.out.now in
    let a = c.args.self.now.at in
    let s = c.args.s.now in
    let k : a + length s - a ≡ length s = omega arith in
    let t : take a l ++ (c.copy_from_slice.new.self ++ drop (a + length s - a) (drop a l)) ≡ patch l a s =
    ap (λ (b : List ℕ). take a l ++ (b ++ drop (a + length s - a) (drop a l))) c.copy_from_slice.ensures.after ∙ lent_back l a (a + length s - a) s k in
    record { same = refl; long = ap length t ∙ length_patch l a s (omega arith); put = record { text = t; next = refl } }
