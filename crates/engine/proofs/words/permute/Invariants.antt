use Rattle.std.proofs.Common.{◌≡◌, ◌<◌, ◌^◌, map, drop}
use Rattle.ground.specs.Rows.{row}
use Rattle.engine.specs.Bits.{bit, permuted}
use Rattle.engine.proofs.words.permute.Given as goal

-- the bits so far, and to their right those that the rest of the table names
abbrev pub invariant-loop-n : goal.invariant-loop-n
invariant-loop-n l =
    (l.bits < 2 ^ l.n-index) × (row 2 l.bits (map (bit l.w l.x) (drop l.n-index l.table)) ≡ permuted l.w l.table l.x)
