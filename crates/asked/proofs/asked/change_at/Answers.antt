-- Each return is the first word that is bad, or else the change that the three words spell.
use Rattle.std.proofs.lemmas.Result.{err_from_is_err_and}
use Rattle.asked.proofs.Asking.{bad_word, spells, coded, bad_entry, bad_type, bad_bits, good_change}
use Rattle.asked.proofs.asked.change_at.Goals as goal

pub returns-in_err-entry : goal.returns-in_err-entry
returns-in_err-entry c =
    let p = err_from_is_err_and c.from_residual.result c.from_residual.ensures.1 in
    rw (p.1, p.2, bad_word _ _ _ c.in_err-entry.ensures.value)
    (bad_entry _ _ (spells _ _ _ _ _ _ c.word.ensures.bytes c.decimal.ensures c.in_err-entry.ensures.ok_part))

pub returns-in_err-ty : goal.returns-in_err-ty
returns-in_err-ty c =
    let p = err_from_is_err_and c.from_residual-in_err-ty.result c.from_residual-in_err-ty.ensures.1 in
    rw (p.1, p.2, bad_word _ _ _ c.in_err-ty.ensures.value)
    (bad_type _ _ _ (spells _ _ _ _ _ _ c.word.ensures.bytes c.decimal.ensures c.in_ok-entry.ensures.ok_part)
    (coded _ _ _ _ _ c.word-2.ensures.bytes c.code.ensures c.in_err-ty.ensures.ok_part))

pub returns-in_err-bits : goal.returns-in_err-bits
returns-in_err-bits c =
    let p = err_from_is_err_and c.from_residual-in_err-bits.result c.from_residual-in_err-bits.ensures.1 in
    rw (p.1, p.2, bad_word _ _ _ c.in_err-bits.ensures.value)
    (bad_bits _ _ _ (spells _ _ _ _ _ _ c.word.ensures.bytes c.decimal.ensures c.in_ok-entry.ensures.ok_part)
    _ (coded _ _ _ _ _ c.word-2.ensures.bytes c.code.ensures c.in_ok-ty.ensures.ok_part)
    (spells _ _ _ _ _ _ c.word-3.ensures.bytes c.hex.ensures c.in_err-bits.ensures.ok_part))

pub returns : goal.returns
returns c =
    good_change _ _ _ (spells _ _ _ _ _ _ c.word.ensures.bytes c.decimal.ensures c.in_ok-entry.ensures.ok_part)
    _ (coded _ _ _ _ _ c.word-2.ensures.bytes c.code.ensures c.in_ok-ty.ensures.ok_part)
    _ (spells _ _ _ _ _ _ c.word-3.ensures.bytes c.hex.ensures c.in_ok-bits.ensures.ok_part)
