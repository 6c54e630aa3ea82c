use Rattle.std.proofs.Common.{◌≡◌, ◌+◌, ◌≤◌, drop}
use Rattle.encoder.specs.Written.{all_sizes, counted}
use Rattle.encoder.proofs.arguments.value_size.Given as goal

abbrev pub invariant-loop-k : goal.invariant-loop-k
invariant-loop-k l = (l.size ≤ 18446744073709551615) × (counted (l.size + all_sizes (drop l.k-index l.arguments) l.n) ≡ counted (all_sizes l.arguments l.n))
