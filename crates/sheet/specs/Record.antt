-- One record: mark, stage, body length, body. Places are counted from the sheet's first byte, in a body from its own.
use Rattle.std.specs.Prelude.{ℕ, ◌+◌, List, true, ◌&&◌, length, get_or, leb, eqb, Result, Ok, Err}
use Rattle.low.specs.Bytes.{whole, part}
use Rattle.low.specs.declared.Refused.{Refused}
use Rattle.low.specs.Read.{Read, found, refused, must, then_read, read_as, placed_from, there, refusal}
use Rattle.types.specs.Edition.{Edition}
use Rattle.value.specs.Refusals as No
use Rattle.sheet.specs.declared.Head.{Head}
use Rattle.sheet.specs.declared.Passed.{Passed}
use Rattle.sheet.specs.declared.Kind.{Kind}
use Rattle.sheet.specs.declared.Kind.TheVariants.{Setting, Expression}
use Rattle.sheet.specs.Tree.{Entry, setting, expression, entry_stage}
use Rattle.sheet.specs.Stage.{stage_known, kind_of}
use Rattle.sheet.specs.Node.{cut, read_literal, read_node}

-- body length as two bytes low first
abbrev pub body_len : List ℕ → ℕ → ℕ
body_len s at = whole (part s (at + 3) 2)

-- a head, as the code answers it
abbrev pub headed : ℕ → ℕ → ℕ → Result Head Refused
headed stage start len = Ok (record { stage = stage; start = start; len = len })

-- mark D5 17, stage byte, body length: where the body starts and its length
unfoldable pub read_head : List ℕ → ℕ → Result Head Refused
read_head s at =
    must (there s at 5) (refusal No.CutShort (length s))
    (must (eqb (get_or s at 0) 213 && eqb (get_or s (at + 1) 0) 23) (refusal No.BadMark at)
    (must (stage_known (get_or s (at + 2) 0)) (refusal No.BadStage (at + 2))
    (must (there s (at + 5) (body_len s at)) (refusal No.CutShort (length s))
    (headed (get_or s (at + 2) 0) (at + 5) (body_len s at)))))

-- a setting's body is one 01 node
unfoldable pub read_setting : Edition → List ℕ → Read Entry
read_setting e b = must (there b 0 1) (cut b) (must (eqb (get_or b 0 0) 1) (refused No.BadNode 0) (read_as setting (read_literal e true b 0)))

-- what stands in a body, by the entry's kind: a setting, or one expression, at most 32 deep
unfoldable pub read_kind : Edition → Kind → List ℕ → ℕ → List ℕ → Read Entry
read_kind e Setting stages stage b = read_setting e b
read_kind e Expression stages stage b = read_as (expression stage) (read_node e 32 stages stage b 0)

-- a body: that, with nothing left over
unfoldable pub read_body : Edition → List ℕ → ℕ → List ℕ → Read Entry
read_body e stages stage b = then_read (read_kind e (kind_of stage) stages stage b) (λ x n. must (leb (length b) n) (refused No.Leftover n) (found x n))

-- one record, where the entries before it count as these stages; its body is the part of the sheet that its head names
abbrev pub on_head : Edition → Result Head Refused → List ℕ → List ℕ → Read Entry
on_head e (Ok h) stages s = placed_from h.start (read_body e stages h.stage (part s h.start h.len))
on_head e (Err r) stages s = refused r.number r.place

unfoldable pub read_record : Edition → List ℕ → List ℕ → ℕ → Read Entry
read_record e stages s at = on_head e (read_head s at) stages s

-- an answer with the entry's stage alone
abbrev pub passed_of : Read Entry → Result Passed Refused
passed_of (found e n) = Ok (record { stage = entry_stage e; next = n })
passed_of (refused k p) = refusal k p
