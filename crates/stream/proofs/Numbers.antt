-- Bytes as a number, the high byte first: the library's word for it is the row of digits at base 256.
use Rattle.std.specs.Prelude.{◌≡◌, ℕ, suc, ◌+◌, ◌-◌, ◌*◌, ◌≤◌, length, get_or, drop}
use Rattle.std.proofs.Common.{get_or-drop, length-drop, drop-cons, arith}
use Rattle.std.specs.Int.{w32, from_be_bytes}
use Rattle.ground.specs.Lists.{listed}
use Rattle.ground.specs.Rows.{row}
use Rattle.stream.specs.Fields.{Bytes, length_at}

pub four_bytes : (b : Bytes) → length b ≡ 4 → from_be_bytes w32 b ≡ row 256 0 b
unfolding row
four_bytes b h = rw (listed 4 b h) (omega arith)

-- the two bytes behind a field's tag are its length
pub length_there : (s : Bytes) (at : ℕ) → 3 ≤ length (drop at s)
    → length_at s at ≡ get_or (drop at s) 1 0 * 256 + get_or (drop at s) 2 0
unfolding length_at row
length_there s at h =
    let there : at + 3 ≤ length s = omega (arith, length-drop at s) in
    let two : at + 3 - (at + 1) ≡ 2 = omega arith in
    let next : suc (at + 1) ≡ at + 2 = omega arith in
    let high = drop-cons s (at + 1) 0 (omega arith) in
    let low = drop-cons s (suc (at + 1)) 0 (omega arith) in
    rw (two, high, low, next, get_or-drop at s 1 0, get_or-drop at s 2 0) (omega arith)

pub ruleset header = (length_there, get_or-drop, length-drop)
