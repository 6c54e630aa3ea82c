use Rattle.engine.specs.Fips46.{shifted}
use Rattle.std.proofs.Common.{arith, rules}
use Rattle.engine.proofs.Loops.{shifted_lt}
use Rattle.engine.proofs.schedule.left_shift.Goals as goal

pub overflow_add-result : goal.overflow_add-result
unfolding shifted
overflow_add-result c = omega (arith, shifted_lt c.args.n c.args.c c.requires.0 c.requires.1 c.requires.2)

pub returns : goal.returns
unfolding shifted
returns c = (search rules, omega (arith, shifted_lt c.args.n c.args.c c.requires.0 c.requires.1 c.requires.2))
