-- What an operator answers: a value or a refusal. Assumes nothing.
use Rattle.std.specs.Prelude.{ℕ, replicate}
use Rattle.value.specs.declared.Refusal.{Refusal}
use Rattle.value.specs.Answer.{carries}
use Rattle.value.specs.Pattern.{pick}
use Rattle.operand.specs.Operand.{a_scalar}
use Rattle.operand.specs.declared.Instance.{Instance}
use Rattle.operand.specs.declared.Outcome.{Outcome}

-- a refused operator: its number and detail, and a value of zeros
abbrev pub refused_with : ℕ → ℕ → Outcome
refused_with n d = record { status = n; detail = d; value = record { ty = 0; cols = 0; rows = 0; comps = replicate 16 0 } }

-- 02 §5: the two refusals of shifts stand beside the operand that they carry
abbrev pub refused_on : ℕ → ℕ → Instance → Outcome
refused_on n d v = record { status = n; detail = d; value = v }

-- a scalar operator's refusal as an answer: the operand as a scalar for 9 and 10, and zeros for every other
abbrev pub refused_as : Refusal → Outcome
refused_as r = pick (carries r.number) (refused_on r.number r.detail (a_scalar r.ty r.bits)) (refused_with r.number r.detail)

-- a value
abbrev pub value_of : Instance → Outcome
value_of v = record { status = 0; detail = 0; value = v }
