-- The places that sums of products read are among sixteen. Assumes nothing.
use Prim.Native.Nat.{ℕ, ◌*◌, ◌/◌, ◌%◌, ◌≤◌, ◌<◌}
use native.Mathlib.Omega.{arith}
use native.Mathlib.Nat.{mul-le-mul, mod-lt, div-lt_iff_lt-mul}
use Rattle.components.specs.Components.{Inside}

pub from_inside : (a s n : ℕ) → a ≤ 3 → s ≤ 4 → n ≤ 4 → Inside a s n
from_inside a s n h k b i q = omega (arith, mul-le-mul {n₁ = i} {n₂ = 3} (omega arith) k)

pub column_inside : (q n : ℕ) → q ≤ 3 → n ≤ 4 → Inside (q * n) 1 n
column_inside q n h b i p = omega (arith, mul-le-mul h b)

pub row_small : (i rows : ℕ) → 1 ≤ rows → rows ≤ 4 → i % rows ≤ 3
row_small i rows h k = omega (arith, mod-lt i h)

pub column_small : (i n rows : ℕ) → i < n → n ≤ rows * 4 → 1 ≤ rows → i / rows ≤ 3
column_small i n rows h k b =
    let e : i < 4 * rows = omega arith in
    let g : i / rows < 4 = (div-lt_iff_lt-mul b).1 e in
    omega arith
