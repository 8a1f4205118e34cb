-- `shift::shl_wrapping_u32` meets its contract. Assumes nothing.
use Rattle.std.proofs.Common.{◌∙◌, w32}
use Rattle.integer.proofs.Wrap.{wrap_u_pos}
use Rattle.shift.proofs.shl_wrapping_u32.Goals as goal

pub returns : goal.returns
returns c = c.wrapping_shl.ensures ∙ wrap_u_pos w32 _
