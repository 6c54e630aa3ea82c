use Rattle.std.proofs.Common.{arith}
use Rattle.std.proofs.lemmas.Grind.{common_steps}
use Rattle.rules.specs.Commands.{tests, refusals}
use Rattle.rules.specs.Refusals.{test}
use Rattle.state.specs.State.{seat_of}
use Rattle.rules.proofs.Laws.{at_exit}
use Rattle.admission.proofs.cpw.Goals as goal

pub returns-in_err-refuse : goal.returns-in_err-refuse
unfolding tests refusals test seat_of
returns-in_err-refuse c out =
    at_exit _ _ _ out _ _ _ _ c.from_residual.ensures.1 c.in_err-refuse.ensures (grind (arith, common_steps))

pub returns-in_err-refuse-2 : goal.returns-in_err-refuse-2
unfolding tests refusals test seat_of
returns-in_err-refuse-2 c out =
    at_exit _ _ _ out _ _ _ _ c.from_residual-in_err-refuse-2.ensures.1 c.in_err-refuse-2.ensures (grind (arith, common_steps))

pub returns-in_err-active : goal.returns-in_err-active
unfolding tests refusals test seat_of
returns-in_err-active c out =
    at_exit _ _ _ out _ _ _ _ c.from_residual-in_err-active.ensures.1 c.in_err-active.ensures (grind (arith, common_steps))

pub returns-in_err-key : goal.returns-in_err-key
unfolding tests refusals test seat_of
returns-in_err-key c out =
    at_exit _ _ _ out _ _ _ _ c.from_residual-in_err-key.ensures.1 c.in_err-key.ensures (grind (arith, common_steps))

pub returns-in_err-refuse-3 : goal.returns-in_err-refuse-3
unfolding tests refusals test seat_of
returns-in_err-refuse-3 c out =
    at_exit _ _ _ out _ _ _ _ c.from_residual-in_err-refuse-3.ensures.1 c.in_err-refuse-3.ensures (grind (arith, common_steps))

pub returns-in_err-refuse-4 : goal.returns-in_err-refuse-4
unfolding tests refusals test seat_of
returns-in_err-refuse-4 c out =
    at_exit _ _ _ out _ _ _ _ c.from_residual-in_err-refuse-4.ensures.1 c.in_err-refuse-4.ensures (grind (arith, common_steps))
