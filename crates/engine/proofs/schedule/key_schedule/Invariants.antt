use Rattle.std.proofs.Common.{◌≡◌, ◌<◌, ◌^◌, ◌++◌, length, take, drop}
use Rattle.engine.specs.Fips46.{scheduled}
use Rattle.engine.specs.Tables.{shifts}
use Rattle.engine.proofs.schedule.key_schedule.Given as goal

abbrev pub invariant-loop-i : goal.invariant-loop-i
invariant-loop-i l =
    (l.c < 2 ^ 28) × (l.d < 2 ^ 28) × (length l.keys ≡ 16)
    × (take l.i l.keys ++ scheduled (drop l.i shifts) l.c l.d ≡ scheduled shifts l.initial.c l.initial.d)
