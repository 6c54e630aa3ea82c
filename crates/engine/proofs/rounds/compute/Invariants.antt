use Rattle.std.proofs.Common.{◌≡◌, ◌<◌, ◌^◌, drop}
use Rattle.engine.specs.Fips46.{rounds}
use Rattle.engine.proofs.rounds.compute.Given as goal

abbrev pub invariant-loop-key : goal.invariant-loop-key
invariant-loop-key l =
    (l.l < 2 ^ 32) × (l.r < 2 ^ 32) × (rounds (drop l.key-index l.keys) l.l l.r ≡ rounds l.keys l.initial.l l.initial.r)
