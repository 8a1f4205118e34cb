-- Wrong programs that the contracts exclude: at these operands each definition has another answer than they. Assumes nothing.
use Rattle.std.proofs.Common.{◌≡◌, true, false, List, [], ◌∷◌, pos, negsuc, refl}
use Rattle.std.specs.Prelude.{Some}
use lib.Ieee.{nan, eq, ne, lt, le}
use Rattle.value.specs.declared.Scalar.TheVariants.{Bool as bool, I32}
use Rattle.value.specs.declared.Pair.TheVariants as P
use Rattle.value.specs.Answer.{Result, unary, binary}
use Rattle.relation.specs.Logical.{or_of, and_of, not_of}
use Rattle.relation.specs.Comparison.{truth, eq_of, ne_of, lt_of, le_of, gt_of, ge_of}

pub relation_witnesses : List Result
relation_witnesses =
    -- `==` that finds a NaN equal to itself; `!=` that does not find it unequal
    eq_of (Some (P.F32 nan nan)) ∷ ne_of (Some (P.F32 nan nan))
    -- `<` that orders Bools; that compares a U32 as signed bits
    ∷ lt_of (Some (P.Bool false true)) ∷ lt_of (Some (P.U32 1 0x80000000))
    -- `<=` that leaves out the equal; that is not `>`, of a NaN
    ∷ le_of (Some (P.I32 (negsuc 0) (negsuc 0))) ∷ le_of (Some (P.F32 nan nan))
    -- `>` that lets in the equal; that has the operands swapped
    ∷ gt_of (Some (P.U32 5 5)) ∷ gt_of (Some (P.I32 (pos 1) (negsuc 0)))
    -- `>=` that leaves out the equal; that is not `<`, of a NaN
    ∷ ge_of (Some (P.U32 5 5)) ∷ ge_of (Some (P.F32 nan nan))
    -- `||` and `&&` that look at one operand; that take integers
    ∷ or_of (Some (P.Bool false true)) ∷ and_of (Some (P.Bool true false)) ∷ and_of (Some (P.U32 1 1))
    -- `!` that gives the operand; that takes an integer
    ∷ not_of (bool true) ∷ not_of (I32 (pos 0)) ∷ []

pub relation_answers : relation_witnesses ≡ (
    truth false ∷ truth true
    ∷ binary ∷ truth true
    ∷ truth true ∷ truth false
    ∷ truth false ∷ truth true
    ∷ truth true ∷ truth false
    ∷ truth true ∷ truth false ∷ binary
    ∷ truth false ∷ unary ∷ [])
unfolding relation_witnesses eq ne lt le
relation_answers = refl
