use Rattle.std.proofs.Common.{arith}
use Rattle.std.proofs.lemmas.Grind.{common_steps}
use Rattle.rules.specs.Commands.{tests, refusals}
use Rattle.rules.specs.Refusals.{test}
use Rattle.state.specs.State.{seat_of}
use Rattle.rules.proofs.Laws.{at_exit}
use Rattle.exchange.proofs.data_keys.gdk.Goals as goal

pub returns-in_err-refuse : goal.returns-in_err-refuse
unfolding tests refusals test seat_of
returns-in_err-refuse c t out =
    at_exit _ _ t out _ _ _ _ c.from_residual.ensures.1 c.in_err-refuse.ensures (grind (arith, common_steps))

pub returns-in_err-active : goal.returns-in_err-active
unfolding tests refusals test seat_of
returns-in_err-active c t out =
    at_exit _ _ t out _ _ _ _ c.from_residual-in_err-active.ensures.1 c.in_err-active.ensures (grind (arith, common_steps))

pub returns-in_err-key : goal.returns-in_err-key
unfolding tests refusals test seat_of
returns-in_err-key c t out =
    at_exit _ _ t out _ _ _ _ c.from_residual-in_err-key.ensures.1 c.in_err-key.ensures (grind (arith, common_steps))
