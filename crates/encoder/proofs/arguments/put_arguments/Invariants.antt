use Rattle.std.proofs.Common.{◌≡◌, take}
use Rattle.printout.specs.Inked.{inked}
use Rattle.stream.specs.Grammar.{spelled}
use Rattle.encoder.proofs.arguments.put_arguments.Given as goal

abbrev pub invariant-loop-k : goal.invariant-loop-k
invariant-loop-k l = l.page ≡ inked (spelled (take l.k-index l.arguments) l.asked l.text) l.initial.page
