-- Work component by component: the first refusal from component 0 up, or all components. Assumes nothing.
use Rattle.std.specs.Prelude.{ℕ, ◌+◌, ◌-◌, ◌*◌, ◌<◌, List, [], ◌∷◌, ◌++◌, length, get_or, replicate, Option, Some, None, Result, Ok, Err}
use Rattle.value.specs.declared.Refusal.{Refusal}
use Rattle.value.specs.Pattern.{pick}
use Rattle.value.specs.Refusals as No
use Rattle.scalar.specs.Step.{Step, refusal, step_of, unary_step_of, conv_of}
use Rattle.operand.specs.Operand.{component_at, is_scalar}
use Rattle.low.specs.Bytes.{up_to}
use Rattle.operand.specs.declared.Shape.{Shape}

-- what was worked out, or the refusal that ended the work
abbrev pub Out : Type 0 → Type 0
Out A = Result A Refusal

-- a refusal stands; a result goes on
abbrev pub and_then : {A B : Type 0} → Out A → (A → Out B) → Out B
and_then (Ok a) k = k a
and_then (Err r) k = Err r

-- components from 0 up: the first refusal, or all of them
unfoldable pub all_or_refusal : List (Out ℕ) → Out (List ℕ)
all_or_refusal [] = Ok []
all_or_refusal (Ok b ∷ cs) = and_then (all_or_refusal cs) (λ bs. Ok (b ∷ bs))
all_or_refusal (Err r ∷ cs) = Err r

-- sixteen components, unused ones 0
abbrev pub padded : Out (List ℕ) → Out (List ℕ)
padded (Ok bs) = Ok (bs ++ replicate (16 - length bs) 0)
padded (Err r) = Err r

-- components 0 to n - 1, component i being what f says of it
abbrev pub each_component : (ℕ → Out ℕ) → ℕ → Out (List ℕ)
each_component f n = padded (all_or_refusal (up_to f n))

-- one scalar operation's bits or refusal
abbrev pub step_result : Step → Out ℕ
step_result (Ok (t, b)) = Ok b
step_result (Err r) = Err r

-- one conversion's bits; a failed conversion is Binary
abbrev pub conv_result : Option ℕ → Out ℕ
conv_result (Some b) = Ok b
conv_result None = Err (refusal No.Binary 0)

-- what stands at places a, a + s, a + 2 s and so on
abbrev pub lane : List ℕ → ℕ → ℕ → ℕ → ℕ
lane xs a s i = get_or xs (a + i * s) 0

-- an operand by component: a scalar stands for every one
abbrev pub stride_of : Shape → ℕ
stride_of s = pick (is_scalar s) 0 1

-- vectors go by component: component i of a binary operator
abbrev pub binary_at : ℕ → ℕ → ℕ → (ℕ → ℕ) → (ℕ → ℕ) → ℕ → Out ℕ
binary_at op stage ty x y i = step_result (step_of op stage ty (x i) (y i))

-- component i of a unary operator
abbrev pub unary_at : ℕ → ℕ → List ℕ → ℕ → Out ℕ
unary_at op ty xs i = step_result (unary_step_of op ty (component_at xs i))

-- component i of a conversion; one to the same type keeps a NaN as the kept one
abbrev pub converted_at : ℕ → ℕ → List ℕ → ℕ → Out ℕ
converted_at from to xs i = conv_result (conv_of from to (component_at xs i))

-- ---- for the contracts of private functions
-- places a, a + s and so on, n of them, are among 16
abbrev pub Inside : ℕ → ℕ → ℕ → Type 0
Inside a s n = (i : ℕ) → i < n → a + i * s < 16
