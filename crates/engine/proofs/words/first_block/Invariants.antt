use Rattle.std.proofs.Common.{◌≡◌, ◌<◌, ◌^◌, drop}
use Rattle.ground.specs.Rows.{row}
use Rattle.ground.specs.Lists.{padded}
use Rattle.engine.proofs.words.first_block.Given as goal

abbrev pub invariant-loop-i : goal.invariant-loop-i
invariant-loop-i l = (l.x < 256 ^ l.i) × (row 256 l.x (drop l.i (padded 8 l.s)) ≡ row 256 0 (padded 8 l.s))
