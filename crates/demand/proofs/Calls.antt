-- The demand, of whatever calls of `change` and `evaluate` may answer and leave by their contracts: lent are the sheet, a.0, and the results, a.1.0, which
-- end as s.1.0.
use mathlib.Core.Path.{◌≡◌, sym, ap, ◌∙◌}
use mathlib.Core.List.{List}
use Prim.Native.Nat.{ℕ, ◌*◌}
use lib.ListN.{length}
use contract.Lifetimes.{Lfts}
use denote.Triple.Clauses.{AtExit}
use borrow.Fn.Kinds.{Dens, res_t, ended_of}
use Rattle.fold.proofs.change.Kinds as change_kinds
use Rattle.fold.proofs.change.Reads as change_reads
use Rattle.fold.proofs.evaluate.Kinds as evaluate_kinds
use Rattle.fold.proofs.evaluate.Reads as evaluate_reads
use Rattle.sheet.specs.Sheet.{Sheet, read_sheet}
use Rattle.fold.specs.Fresh.{fresh_bytes}
use Rattle.demand.specs.Demand.{after, Content, ChangeMeets, amended, Versions}
use Rattle.demand.proofs.Asked.{outcome_meets}
use Rattle.demand.proofs.Meets.{fresh_meets}

pub call_meets : (κs : Lfts 2) (a : Dens κs change_kinds.ps) (x : (res_t change_kinds.r κs).Denot) (s : AtExit (ended_of 2 change_kinds.ps change_kinds.r) κs)
    → change_reads.Post κs a x s → ChangeMeets a.0.now a.1.0.now a.1.1.0 a.1.1.1.0 a.1.1.1.1.0 x s.1.0.now
call_meets κs a x s p = outcome_meets a.0.now a.1.0.now a.1.1.0 a.1.1.1.0 a.1.1.1.1.0 x s.1.0.now p.0 p.1

-- three calls: fresh evaluation of a version of the sheet, a change of what it left, and fresh evaluation of the version with the new content in its bytes,
-- over any buffer; the last two leave the same results
pub calls_fresh : (κs : Lfts 2) (a : Dens κs evaluate_kinds.ps) (x : (res_t evaluate_kinds.r κs).Denot) (s : AtExit (ended_of 2 evaluate_kinds.ps evaluate_kinds.r) κs)
    (ιs : Lfts 2) (b : Dens ιs change_kinds.ps) (y : (res_t change_kinds.r ιs).Denot) (t : AtExit (ended_of 2 change_kinds.ps change_kinds.r) ιs)
    (μs : Lfts 2) (c : Dens μs evaluate_kinds.ps) (z : (res_t evaluate_kinds.r μs).Denot) (u : AtExit (ended_of 2 evaluate_kinds.ps evaluate_kinds.r) μs)
    → evaluate_reads.Post κs a x s → change_reads.Post ιs b y t → evaluate_reads.Post μs c z u
    → (es : Sheet) → Versions b.0.now a.0.now es → length a.1.0.now ≡ 136 * length es.entries → length c.1.0.now ≡ 136 * length es.entries
    → Content es b.1.1.0 b.1.1.1.0 b.1.1.1.1.0 → b.1.0.now ≡ s.1.0.now → c.0.now ≡ amended a.0.now b.1.1.0 b.1.1.1.1.0
    → t.1.0.now ≡ u.1.0.now
calls_fresh κs a x s ιs b y t μs c z u p q r es v hl hr k lent changed =
    q.1
    ∙ ap (λ (l : List ℕ). after b.0.now l b.1.1.0 b.1.1.1.0 b.1.1.1.1.0) (lent ∙ p.1)
    ∙ fresh_meets b.0.now a.0.now es v a.1.0.now c.1.0.now hl hr b.1.1.0 b.1.1.1.0 b.1.1.1.1.0 k
    ∙ ap (λ (l : List ℕ). fresh_bytes (read_sheet l) c.1.0.now) (sym changed)
    ∙ sym r.1
