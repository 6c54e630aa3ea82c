use Rattle.std.proofs.Common.{arith}
use Rattle.std.proofs.lemmas.Grind.{common_steps}
use Rattle.rules.specs.Commands.{tests, refusals}
use Rattle.rules.specs.Refusals.{test}
use Rattle.state.specs.State.{seat_of}
use Rattle.rules.proofs.Laws.{at_exit}
use Rattle.admission.proofs.ras.Goals as goal

pub returns-in_err-refuse : goal.returns-in_err-refuse
unfolding tests refusals test seat_of
returns-in_err-refuse c out =
    at_exit _ _ _ out _ _ _ _ c.from_residual.ensures.1 c.in_err-refuse.ensures (grind (arith, common_steps))

pub returns-in_err-refuse-2 : goal.returns-in_err-refuse-2
unfolding tests refusals test seat_of
returns-in_err-refuse-2 c out =
    at_exit _ _ _ out _ _ _ _ c.from_residual-in_err-refuse-2.ensures.1 c.in_err-refuse-2.ensures (grind (arith, common_steps))

pub returns-in_err-refuse-3 : goal.returns-in_err-refuse-3
unfolding tests refusals test seat_of
returns-in_err-refuse-3 c out =
    at_exit _ _ _ out _ _ _ _ c.from_residual-in_err-refuse-3.ensures.1 c.in_err-refuse-3.ensures (grind (arith, common_steps))

pub returns-in_err-key : goal.returns-in_err-key
unfolding tests refusals test seat_of
returns-in_err-key c out =
    at_exit _ _ _ out _ _ _ _ c.from_residual-in_err-key.ensures.1 c.in_err-key.ensures (grind (arith, common_steps))

pub returns-in_err-refuse-4 : goal.returns-in_err-refuse-4
unfolding tests refusals test seat_of
returns-in_err-refuse-4 c out =
    at_exit _ _ _ out _ _ _ _ c.from_residual-in_err-refuse-4.ensures.1 c.in_err-refuse-4.ensures (grind (arith, common_steps))

pub returns-in_err-refuse-5 : goal.returns-in_err-refuse-5
unfolding tests refusals test seat_of
returns-in_err-refuse-5 c out =
    at_exit _ _ _ out _ _ _ _ c.from_residual-in_err-refuse-5.ensures.1 c.in_err-refuse-5.ensures (grind (arith, common_steps))

pub returns-in_err-refuse-6 : goal.returns-in_err-refuse-6
unfolding tests refusals test seat_of
returns-in_err-refuse-6 c out =
    at_exit _ _ _ out _ _ _ _ c.from_residual-in_err-refuse-6.ensures.1 c.in_err-refuse-6.ensures (grind (arith, common_steps))
