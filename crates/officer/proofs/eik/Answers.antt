use Rattle.std.proofs.Common.{arith}
use Rattle.std.proofs.lemmas.Grind.{common_steps}
use Rattle.rules.specs.Commands.{tests, refusals, keyed}
use Rattle.rules.specs.Step.{effected}
use Rattle.rules.specs.Refusals.{test}
use Rattle.rules.proofs.Laws.{at_exit, by_effect}
use Rattle.officer.proofs.eik.Goals as goal

pub returns-in_err-refuse : goal.returns-in_err-refuse
unfolding tests refusals test
returns-in_err-refuse c t out =
    at_exit _ _ t out _ _ _ _ c.from_residual.ensures.1 c.in_err-refuse.ensures (grind (arith, common_steps))

pub returns-in_err-refuse-2 : goal.returns-in_err-refuse-2
unfolding tests refusals test
returns-in_err-refuse-2 c t out =
    at_exit _ _ t out _ _ _ _ c.from_residual-in_err-refuse-2.ensures.1 c.in_err-refuse-2.ensures (grind (arith, common_steps))

pub returns-in_err-refuse-3 : goal.returns-in_err-refuse-3
unfolding tests refusals test
returns-in_err-refuse-3 c t out =
    at_exit _ _ t out _ _ _ _ c.from_residual-in_err-refuse-3.ensures.1 c.in_err-refuse-3.ensures (grind (arith, common_steps))

pub returns : goal.returns
unfolding tests test effected keyed
returns c t out =
    by_effect _ _ t out (grind (arith, common_steps)) _ (simp (
      c.done.ensures,
      c.change_key.ensures,
      c.own_name-due.ensures,
      c.current_key-current.ensures,
    ))
