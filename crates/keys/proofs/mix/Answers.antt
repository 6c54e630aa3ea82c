use Rattle.std.proofs.Common.{◌/◌, ◌%◌, arith, rules}
use Rattle.std.proofs.lemmas.Nat.{xor_lt}
use Rattle.keys.specs.Keys.{mixed}
use Rattle.keys.proofs.mix.Goals as goal

pub odd_byte-requires : goal.odd_byte-requires
odd_byte-requires c = xor_lt 7 (c.args.byte / 2) (c.args.group % 128) (omega (arith, c.ranges.byte)) (omega arith)

pub returns : goal.returns
unfolding mixed
returns c = search rules
