use Rattle.std.proofs.Common.{◌≡◌, length}
use Rattle.printout.specs.Inked.{inked}
use Rattle.values.specs.Sources.{unhex}
use Rattle.values.proofs.hex.put_unhexed.Given as goal

abbrev pub invariant-loop-rest : goal.invariant-loop-rest
invariant-loop-rest l = inked (unhex l.rest) l.page ≡ inked (unhex l.digits) l.initial.page

abbrev pub decreases-loop-rest : goal.decreases-loop-rest
decreases-loop-rest l = length l.rest
