-- `dispatch::work` meets its contract. Assumes nothing.
use mathlib.Core.Path.{◌∙◌, ap}
use Prim.Native.Nat.{ℕ}
use Rattle.operand.specs.Outcome.{refused_with}
use Rattle.pairing.proofs.Picks.{pick_yes, pick_no}
use Rattle.dispatch.specs.Meaning.{on_converted}
use Rattle.dispatch.proofs.Checks.{refuses, passes}
use Rattle.dispatch.proofs.work.Goals as goal

pub returns-then-not-fits : goal.returns-then-not-fits
unfolding on_converted
returns-then-not-fits c =
    refuses _ _ c.fits.ensures _ _ _ c.if-not-fits.true-raw (c.refused.ensures ∙ ap (λ (n : ℕ). refused_with n 0) c.misfit.ensures)

pub returns-then-not-right : goal.returns-then-not-right
unfolding on_converted
returns-then-not-right c =
    passes _ _ c.fits.ensures _ _ _ c.if-not-fits.false-raw
    (refuses _ _ c.right.ensures _ _ _ c.if-not-right.true-raw c.refused-then-not-right.ensures)

pub returns-then-is_product : goal.returns-then-is_product
unfolding on_converted
returns-then-is_product c =
    passes _ _ c.fits.ensures _ _ _ c.if-not-fits.false-raw
    (passes _ _ c.right.ensures _ _ _ c.if-not-right.false-raw
    (pick_yes _ _ c.is_product.ensures _ _ _ c.if-is_product.true c.multiply.ensures))

pub returns : goal.returns
unfolding on_converted
returns c =
    passes _ _ c.fits.ensures _ _ _ c.if-not-fits.false-raw
    (passes _ _ c.right.ensures _ _ _ c.if-not-right.false-raw
    (pick_no _ _ c.is_product.ensures _ _ _ c.if-is_product.false c.componentwise.ensures))
