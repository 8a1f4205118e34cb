-- For the contracts of private functions: scalars that go by their types and patterns, as operands and answers. Assumes nothing.
use Rattle.std.specs.Prelude.{ℕ, Ok, Err}
use Rattle.scalar.specs.Step.{Step}
use Rattle.operand.specs.Operand.{shape_of, a_scalar}
use Rattle.operand.specs.Outcome.{refused_as, value_of}
use Rattle.operand.specs.declared.Outcome.{Outcome}
use Rattle.dispatch.specs.Meaning.{on_converted}

-- a scalar as a value
abbrev pub scalar_answer : ℕ → ℕ → Outcome
scalar_answer ty b = value_of (a_scalar ty b)

-- one step as an answer
abbrev pub step_answer : Step → Outcome
step_answer (Ok (t, b)) = scalar_answer t b
step_answer (Err r) = refused_as r

-- two converted scalars
abbrev pub on_scalars : ℕ → ℕ → ℕ → ℕ → ℕ → Outcome
on_scalars op stage ty p q = on_converted op stage ty (shape_of (a_scalar ty p)) (a_scalar ty p).comps (shape_of (a_scalar ty q)) (a_scalar ty q).comps
