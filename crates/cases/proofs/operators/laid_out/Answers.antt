-- `cases::operators::laid_out` meets its contract: the components stand over zeros, cut to fit. Assumes nothing.
use Rattle.cases.proofs.Operands.{laid, fits}
use Rattle.cases.proofs.operators.laid_out.Goals as goal

pub copy-requires : goal.copy-requires
copy-requires c = fits c.components.result.now _ c.part.ensures.bytes

pub returns : goal.returns
returns c =
    laid _ _ _ _ _ _ _ c.byte.ensures c.byte-2.ensures c.byte-3.ensures c.components.ensures c.part.ensures.bytes c.copy.ensures
