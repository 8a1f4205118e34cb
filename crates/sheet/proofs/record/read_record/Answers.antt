-- A record: its head, then its body, whose places start where the body does.
use native.Mathlib.Omega.{arith}
use Rattle.sheet.proofs.Records.{record_head, bad_place, record_bad, good_place, record_good}
use borrow.Author.Rules.{rules}
use Prim.Native.Nat.{ℕ, ◌+◌, ◌≤◌}
use mathlib.Core.Path.{◌≡◌, refl, ◌∙◌}
use lib.ListN.{length}
use Rattle.std.specs.Prelude.{Result, Ok, Err}
use Rattle.low.specs.declared.Refused.{Refused}
use Rattle.low.specs.Read.{refusal}
use Rattle.types.specs.Edition.{plain}
use Rattle.sheet.specs.Record.{read_record, passed_of}
use Rattle.sheet.proofs.record.read_record.Goals as goal

pub returns-in_err-head : goal.returns-in_err-head
returns-in_err-head c =
    let e : c.from_residual.result ≡ Err c.in_err-head.field-0.0 = search rules in
    e ∙ record_head _ _ _ _ _ c.read_head.ensures _ c.in_err-head.was

pub map_err-requires : goal.map_err-requires
map_err-requires c = λ e w.
    let h : c.in_ok-head.head.start + e.place ≤ length c.args.s.now = bad_place _ _ _ _ _ c.read_head.ensures _ c.in_ok-head.was _ c.body-b.ensures.bytes _ c.read_body.ensures e w in search rules

pub returns-in_err-n : goal.returns-in_err-n
returns-in_err-n c = go c.read_body.result refl
  where
    go : (x : Result ℕ Refused) → c.read_body.result ≡ x → c.from_residual-in_err-n.result ≡ passed_of (read_record plain c.args.stages.now c.args.s.now c.args.at)
    go (Ok n) w = search rules
    go (Err r) w =
        let e : c.from_residual-in_err-n.result ≡ refusal r.number (c.in_ok-head.head.start + r.place) = search rules in
        e ∙ record_bad _ _ _ _ _ c.read_head.ensures _ c.in_ok-head.was _ c.body-b.ensures.bytes _ c.read_body.ensures _ w

pub overflow_add-result : goal.overflow_add-result
overflow_add-result c =
    let w : c.read_body.result ≡ Ok c.in_ok-n.n = search rules in
    omega (arith, good_place _ _ _ _ _ c.read_head.ensures _ c.in_ok-head.was _ c.body-b.ensures.bytes _ c.read_body.ensures _ w)

pub returns : goal.returns
returns c =
    let w : c.read_body.result ≡ Ok c.in_ok-n.n = search rules in
    record_good _ _ _ _ _ c.read_head.ensures _ c.in_ok-head.was _ c.body-b.ensures.bytes _ c.read_body.ensures _ w _ c.counts_as.ensures
