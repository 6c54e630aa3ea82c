use Rattle.std.proofs.Common.{arith}
use Rattle.std.proofs.lemmas.Grind.{common_steps}
use Rattle.rules.specs.Commands.{tests, refusals}
use Rattle.rules.specs.Refusals.{test}
use Rattle.rules.proofs.Laws.{at_exit}
use Rattle.officer.proofs.rpw.Goals as goal

pub returns-in_err-refuse : goal.returns-in_err-refuse
unfolding tests refusals test
returns-in_err-refuse c out =
    at_exit _ _ _ out _ _ _ _ c.from_residual.ensures.1 c.in_err-refuse.ensures (grind (arith, common_steps))

pub returns-in_err-refuse-2 : goal.returns-in_err-refuse-2
unfolding tests refusals test
returns-in_err-refuse-2 c out =
    at_exit _ _ _ out _ _ _ _ c.from_residual-in_err-refuse-2.ensures.1 c.in_err-refuse-2.ensures (grind (arith, common_steps))
