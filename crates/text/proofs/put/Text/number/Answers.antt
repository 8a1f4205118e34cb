-- A space, and then the digits that the library gives.
use native.Mathlib.Omega.{arith}
use Prim.Native.Nat.{◌≤◌, ◌<◌, ◌^◌}
use mathlib.Core.Path.{◌≡◌}
use lib.Dec.{lit<}
use Rattle.text.proofs.Pieces.{after}
use Rattle.text.proofs.Digits.{hex_put, digits_few, in_hex, in_decimal}
use Rattle.text.proofs.put.Text.number.Goals as goal

pub bytes-requires-then-hexadecimal : goal.bytes-requires-then-hexadecimal
bytes-requires-then-hexadecimal c =
    let x = c.args.x in
    let f : x < 16 ^ 16 = omega arith in
    let k : c.hex-k.result ≤ 16 = digits_few 16 16 x c.hex-k.result 16 (lit< tt) c.hex-k.ensures.len (omega arith) f in
    let next = c.bytes.ensures.put.next in
    omega arith

pub decimal-requires : goal.decimal-requires
decimal-requires c = omega (arith, c.bytes.ensures.put.next)

pub returns-then-hexadecimal : goal.returns-then-hexadecimal
returns-then-hexadecimal c =
    let s = c.args in
    let d = c.hex-k in
    let f : s.x < 16 ^ 16 = omega arith in
    let most : d.result ≤ 16 = digits_few 16 16 s.x d.result 16 (lit< tt) d.ensures.len (omega arith) f in
    let k : d.result ≡ 16 = omega (arith, d.ensures.len.0) in
    let one = c.bytes.ensures.put.next in
    let next = c.bytes-then-hexadecimal.ensures.put.next in
    let digits = hex_put s.x d.result k d.ensures.digits c.bytes-then-hexadecimal.ensures in
    (in_hex s.x s.hexadecimal c.if-hexadecimal.true (after c.bytes.ensures digits (omega arith)), omega arith)

pub returns-else-hexadecimal : goal.returns-else-hexadecimal
returns-else-hexadecimal c =
    let s = c.args in
    let p = c.decimal.ensures in
    let one = c.bytes.ensures.put.next in
    (in_decimal s.x s.hexadecimal c.if-hexadecimal.false (after c.bytes.ensures p.0 (omega arith)), omega arith)
