-- The rows say what 01's sentences say, code by code and operator by operator. Assumes nothing.
use Prim.Native.Nat.{ℕ}
use mathlib.Core.Path.{◌≡◌, refl}
use mathlib.Core.Bool.{Bool, true, false, ◌&&◌, ◌||◌}
use mathlib.Core.List.{List, [], ◌∷◌, map}
use lib.Dec.{eqb, leb}
use lib.ListN.{replicate}
use Rattle.types.specs.Types.{float_of, concrete_of, most_of, goes_to, right_of, unary_right_of}

abbrev codes : List ℕ
codes = 0 ∷ 1 ∷ 2 ∷ 3 ∷ 4 ∷ 5 ∷ 6 ∷ []

abbrev ops : List ℕ
ops = 1 ∷ 2 ∷ 3 ∷ 4 ∷ 5 ∷ 6 ∷ 7 ∷ 8 ∷ 9 ∷ 10 ∷ 11 ∷ 12 ∷ 13 ∷ 14 ∷ 15 ∷ 16 ∷ 17 ∷ 18 ∷ []

-- "`||`, `&&`: Bool"; "`+ - * / %`" not Bool; "`== !=` on all types; `< <= > >=` not on Bool"; "`| &` on Bool and integers, `^` on integers", and shifts
abbrev by_operator : ℕ → ℕ → Bool
by_operator op ty =
    (leb op 2 && eqb ty 0)
    || (leb 3 op && leb op 7 && leb 1 ty)
    || (leb 8 op && leb op 9)
    || (leb 10 op && leb op 13 && leb 1 ty)
    || (leb 14 op && leb op 15 && (leb ty 1 || eqb ty 3 || eqb ty 4))
    || (leb 16 op && (eqb ty 1 || eqb ty 3 || eqb ty 4))

-- "U32, Bool and matrices refused. `!` on Bool, `~` on integers"
abbrev by_unary : ℕ → ℕ → Bool
by_unary op ty =
    (eqb op 1 && eqb ty 0) || (eqb op 2 && leb 1 ty && (leb ty 3 || leb 5 ty)) || (eqb op 3 && (eqb ty 1 || eqb ty 3 || eqb ty 4))

-- "AbstractInt goes to any other but Bool, AbstractFloat to F32 or F16"
abbrev by_name : ℕ → ℕ → Bool
by_name a b = (eqb a 1 && leb 2 b) || (eqb a 2 && leb 5 b)

pub rights : map (λ op. map (right_of op) codes) ops ≡ map (λ op. map (by_operator op) codes) ops
rights = refl

pub unary_rights : map (λ op. map (unary_right_of op) codes) (1 ∷ 2 ∷ 3 ∷ []) ≡ map (λ op. map (by_unary op) codes) (1 ∷ 2 ∷ 3 ∷ [])
unary_rights = refl

pub goings : map (λ a. map (goes_to a) codes) codes ≡ map (λ a. map (by_name a) codes) codes
goings = refl

pub floats : map float_of codes ≡ map (λ ty. eqb ty 2 || leb 5 ty) codes
floats = refl

pub settings : map concrete_of codes ≡ true ∷ false ∷ false ∷ true ∷ true ∷ true ∷ true ∷ []
settings = refl

pub largest : map most_of codes
    ≡ 1 ∷ 0xFFFFFFFFFFFFFFFF ∷ 0xFFFFFFFFFFFFFFFF ∷ 0xFFFFFFFF ∷ 0xFFFFFFFF ∷ 0xFFFFFFFF ∷ 0xFFFF ∷ []
largest = refl

-- the next code names no type: nothing is its, it goes nowhere, and nothing goes to it
pub no_rights : (map (λ op. right_of op 7) ops ≡ replicate 18 false) × (map (λ op. unary_right_of op 7) (1 ∷ 2 ∷ 3 ∷ []) ≡ replicate 3 false)
no_rights = (refl, refl)

pub no_goings : (map (goes_to 7) codes ≡ replicate 7 false) × (map (λ a. goes_to a 7) codes ≡ replicate 7 false)
no_goings = (refl, refl)

-- 0 and 19 are no operators
pub no_operators : (map (right_of 0) codes ≡ replicate 7 false) × (map (right_of 19) codes ≡ replicate 7 false)
no_operators = (refl, refl)
