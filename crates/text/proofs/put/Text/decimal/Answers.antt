-- The digits that the library gives.
use lib.Dec.{lit<}
use Prim.Native.Nat.{◌≤◌, ◌<◌, ◌^◌}
use native.Mathlib.Omega.{arith}
use Rattle.text.proofs.Digits.{decimal_put, digits_few}
use Rattle.text.proofs.put.Text.decimal.Goals as goal

pub returns : goal.returns
returns c =
    let n = c.args.n in
    let d = c.decimal-k in
    let f : n < 10 ^ 20 = omega arith in
    let k : d.result ≤ 20 = digits_few 10 1 n d.result 20 (lit< tt) d.ensures.len (omega arith) f in
    let e = c.bytes.ensures.put.next in
    (decimal_put n d.result k d.ensures.len d.ensures.digits c.bytes.ensures, omega arith)
