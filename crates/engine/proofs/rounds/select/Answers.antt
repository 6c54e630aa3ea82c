use Rattle.std.proofs.Common.{ℕ, ◌+◌, ◌*◌, ◌/◌, ◌%◌, arith, rules}
use Rattle.ground.specs.Tests.{at_most}
use Rattle.engine.specs.Fips46.{selected}
use Rattle.engine.proofs.rounds.select.Goals as goal

at : ℕ → ℕ
at b = (b / 32 * 2 + b % 2) * 16 + b / 2 % 16

pub returns : goal.returns
unfolding selected at
returns c =
    (search rules, omega (arith, c.from.ensures, at_most 0 15 c.args.s.now c.requires.1 (at c.args.b)))
