-- Eight bytes of which those past the N that are read are 0.
use native.Mathlib.Omega.{arith}
use mathlib.Core.Path.{◌≡◌, ◌∙◌}
use Rattle.low.specs.Bytes.{whole, part}
use Rattle.low.proofs.Lows.{read_padded, whole_small}
use Rattle.low.proofs.words.get.Goals as goal

pub returns-clause-number : goal.returns-clause-number
returns-clause-number g c =
    c.from_le_bytes.ensures ∙ read_padded c.args.b.now c.args.at g.row.N _ _ c.requires.few c.requires.there (omega arith) c.copy_from_slice.ensures.after

pub returns-clause-small : goal.returns-clause-small
returns-clause-small g c =
    let e : c.from_le_bytes.result ≡ whole (part c.args.b.now c.args.at g.row.N) =
    c.from_le_bytes.ensures ∙ read_padded c.args.b.now c.args.at g.row.N _ _ c.requires.few c.requires.there (omega arith) c.copy_from_slice.ensures.after in
    omega (arith, whole_small c.args.b.now (λ i. omega (arith, c.type_inv.b i)) g.row.N c.args.at)
