-- A byte that is no digit and a number of more than 64 bits spell nothing.
use mathlib.Core.Path.{◌≡◌, ◌∙◌, ap}
use Prim.Native.Nat.{ℕ, ◌+◌, ◌*◌}
use native.Mathlib.Omega.{arith}
use borrow.Author.Rules.{rules}
use Rattle.words.proofs.Spellings.{empty, begun, no_digit, one_digit, too_long, ended}
use Rattle.words.proofs.number.number.Goals as goal

pub returns-then-is_empty : goal.returns-then-is_empty
returns-then-is_empty c = empty c.args.base c.args.s.now (search rules)

pub loop-c-init : goal.loop-c-init
loop-c-init c = (omega arith, begun c.args.base c.args.s.now (search rules))

pub returns-in_err-d : goal.returns-in_err-d
returns-in_err-d c =
    let l = c.loop-c in
    c.from_residual.ensures ∙ no_digit c.args.base l.n c.args.s.now l.c-index c.from.result (omega arith) (omega arith) c.from.ensures c.in_err-d.ensures.value ∙ l.invariant.1

pub returns-in_err-checked_mul : goal.returns-in_err-checked_mul
returns-in_err-checked_mul c =
    let l = c.loop-c in
    let m : l.n * c.from-in-loop-c.result ≡ l.n * c.args.base = ap (λ (b : ℕ). l.n * b) c.from-in-loop-c.ensures in
    c.from_residual-in_err-checked_mul.ensures
    ∙ too_long c.args.base l.n c.args.s.now l.c-index c.from.result (omega arith) (omega arith) c.from.ensures c.in_ok-d.d c.in_ok-d.ensures.value (omega arith) (omega (arith, c.in_err-checked_mul.ensures, m))
    ∙ l.invariant.1

pub returns-in_err-n : goal.returns-in_err-n
returns-in_err-n c =
    let l = c.loop-c in
    let m : l.n * c.from-in-loop-c.result ≡ l.n * c.args.base = ap (λ (b : ℕ). l.n * b) c.from-in-loop-c.ensures in
    c.from_residual-in_err-n.ensures
    ∙ too_long c.args.base l.n c.args.s.now l.c-index c.from.result (omega arith) (omega arith) c.from.ensures c.in_ok-d.d c.in_ok-d.ensures.value (omega arith) (omega (arith, c.in_ok-checked_mul.ensures, c.in_err-n.ensures, m, c.from-in-loop-c-2.ensures))
    ∙ l.invariant.1

pub loop-c-preserved : goal.loop-c-preserved
loop-c-preserved c =
    let l = c.loop-c in
    let m : l.n * c.from-in-loop-c.result ≡ l.n * c.args.base = ap (λ (b : ℕ). l.n * b) c.from-in-loop-c.ensures in
    let n : c.in_ok-n.n ≡ l.n * c.args.base + c.in_ok-d.d = omega (arith, c.in_ok-checked_mul.ensures, c.in_ok-n.ensures, m, c.from-in-loop-c-2.ensures) in
    let same = one_digit c.args.base l.n c.args.s.now l.c-index c.from.result (omega arith) (omega arith) c.from.ensures c.in_ok-d.d c.in_ok-d.ensures.value in
    (omega (arith, c.in_ok-n.ensures), rw n (same ∙ l.invariant.1))

pub returns : goal.returns
returns c =
    let l = c.loop-c in
    ended c.args.base l.n c.args.s.now l.c-index (omega arith) l.invariant.0 ∙ l.invariant.1
