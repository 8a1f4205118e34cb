-- The number, the fields, the components of a slot that is well formed and a line feed stand one after another.
use mathlib.Core.Path.{◌≡◌}
use mathlib.Core.List.{[], ◌∷◌}
use native.Mathlib.Omega.{arith}
use Prim.Native.Nat.{◌+◌, ◌≤◌}
use Rattle.text.specs.Text.{line, shown}
use Rattle.text.specs.Inside.{Puts}
use Rattle.text.proofs.Pieces.{after, nothing_put}
use Rattle.text.proofs.Lists.{shown_some, shown_none}
use Rattle.text.proofs.put.Text.entry.Goals.{then-well_formed, else-well_formed}
use Rattle.text.proofs.put.Text.entry.Goals as goal

pub returns : goal.returns
unfolding line
returns c =
    let room = c.requires in
    let next = c.bytes.ensures.put.next in
    let o = c.read-o.result in
    let formed = c.well_formed-2.result in
    let start = c.row.new.self in
    let wide : c.from.result ∷ c.from-2.result ∷ c.from-3.result ∷ c.from-4.result ∷ c.from-5.result ∷ [] ≡ o.status ∷ o.value.ty ∷ o.value.cols ∷ o.value.rows ∷ o.detail ∷ [] = cc in
    let two = after c.decimal.ensures.0 (rw wide at c.row.ensures.0) (omega arith) in
    let comps = elim c.if-well_formed.branch as (λ _. (c.if-well_formed.self.at ≤ start.at + 336) × Puts start c.if-well_formed.self (shown o formed)) [
      | then-well_formed w ↦ rw (w.self-is, shown_some o formed w.if-well_formed.true) (w.components.ensures.1, w.components.ensures.0)
      | else-well_formed w ↦ rw (w.self-is, shown_none o formed w.if-well_formed.false) (omega arith, nothing_put start)
    ] in
    let three = after two comps.1 (omega arith) in
    rw (← c.read-o.ensures, ← c.well_formed-2.ensures) (after three c.bytes.ensures (omega arith), omega arith)
