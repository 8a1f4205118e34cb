-- Sums of products: vector times matrix, matrix times vector, matrix times matrix. Assumes nothing.
use Rattle.std.specs.Prelude.{ℕ, zero, suc, ◌-◌, ◌*◌, ◌/◌, ◌%◌, List, Ok, Err}
use Rattle.scalar.specs.Step.{step_of}
use Rattle.components.specs.Components.{Out, each_component, step_result, lane, binary_at}

-- a sum and the next product: the sum's refusal comes first, then the product's, then that of adding them
abbrev pub plus_next : {A : Type 0} → (A → A → Out A) → Out A → Out A → Out A
plus_next add (Ok s) (Ok p) = add s p
plus_next add (Ok s) (Err r) = Err r
plus_next add (Err r) p = Err r

-- p0, p1, p0 + p1, p2 and so on up to product k, each step rounded and checked
unfoldable pub sum_to : {A : Type 0} → (A → A → Out A) → (ℕ → Out A) → ℕ → Out A
sum_to add p zero = p 0
sum_to add p (suc k) = plus_next add (sum_to add p k) (p (suc k))

-- the sum of two components
abbrev pub plus_one : ℕ → ℕ → ℕ → ℕ → Out ℕ
plus_one stage ty s p = step_result (step_of 3 stage ty s p)

-- one component's sum of products, x of k times y of k
abbrev pub dot_of : ℕ → ℕ → (ℕ → ℕ) → (ℕ → ℕ) → ℕ → Out ℕ
dot_of stage ty x y k = sum_to (plus_one stage ty) (binary_at 5 stage ty x y) k

-- matrix times matrix finishes one component at a time: component i is row i % rows of l with column i / rows of r; a vector on the right is one column
abbrev pub cell_at : ℕ → ℕ → List ℕ → List ℕ → ℕ → ℕ → ℕ → Out ℕ
cell_at stage ty l r rows inner i = dot_of stage ty (lane l (i % rows) rows) (lane r (i / rows * inner) 1) (inner - 1)

-- vector times matrix does each step for all components: the sums of all
abbrev pub plus_all : ℕ → ℕ → ℕ → List ℕ → List ℕ → Out (List ℕ)
plus_all stage ty n s p = each_component (binary_at 3 stage ty (lane s 0 1) (lane p 0 1)) n

-- component k of the vector times row k of the matrix
abbrev pub times_row : ℕ → ℕ → List ℕ → List ℕ → ℕ → ℕ → ℕ → Out (List ℕ)
times_row stage ty v m rows cols k = each_component (binary_at 5 stage ty (lane v k 0) (lane m k rows)) cols

-- vector times matrix, up to row k
abbrev pub vector_matrix : ℕ → ℕ → List ℕ → List ℕ → ℕ → ℕ → ℕ → Out (List ℕ)
vector_matrix stage ty v m rows cols k = sum_to (plus_all stage ty cols) (times_row stage ty v m rows cols) k
