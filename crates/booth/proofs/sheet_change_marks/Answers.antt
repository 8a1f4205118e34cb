-- Marks of another size are refused; those of 128 bytes are kept by a refused change, and say what a change that is done marks.
use Rattle.std.proofs.Common.{◌∙◌, sym}
use Rattle.booth.proofs.Marked.{was_done, was_refused, left_size, left_refused, left_done}
use Rattle.booth.proofs.sheet_change_marks.Goals as goal
use Rattle.booth.proofs.sheet_change_marks.Goals.{then-is_ok, else-is_ok}

pub returns-then-marks-ne128 : goal.returns-then-marks-ne128
returns-then-marks-ne128 c = left_size _ _ _ _ _ _ _ _ c.if-marks-ne128.true c.other_size.ensures c.pack_fold.ensures

pub returns : goal.returns
returns c =
    let e = c.change_marking-answer.ensures in
    elim c.if-is_ok.branch [
      | then-is_ok w ↦
          let a = was_done _ (sym c.is_ok.ensures.value ∙ w.if-is_ok.true) in
          rw w.marks-is
          (left_done _ _ _ _ _ _ _ _ _ c.if-marks-ne128.false e.0 e.1 a.0 _ _ _ a.1 c.pack_fold-2.ensures e.2 w.put.ensures)
      | else-is_ok w ↦
          let a = was_refused _ (sym c.is_ok.ensures.value ∙ w.if-is_ok.false) in
          rw w.marks-is
          (left_refused _ _ _ _ _ _ _ _ _ c.if-marks-ne128.false e.0 e.1 a.0 a.1 c.pack_fold-2.ensures)
    ]
