use Rattle.std.proofs.Common.{ap, sym, arith, ◌∙◌}
use Rattle.std.proofs.lemmas.Grind.{common_steps}
use Rattle.rules.specs.Commands.{tests, refusals}
use Rattle.rules.specs.Refusals.{test}
use Rattle.state.specs.State.{seat_of}
use Rattle.rules.proofs.Laws.{at_exit, by_effect, good_length}
use Rattle.cipher.specs.declared.keys.DataKey.{DataKey}
use Rattle.cipher.specs.declared.keys.Vector.{Vector}
use Rattle.cipher.proofs.Promise.{fixity_done}
use Rattle.records.proofs.Laws.{value_done, daut_does}
use Rattle.records.proofs.daut.Goals as goal

pub returns-in_err-refuse : goal.returns-in_err-refuse
unfolding tests refusals test seat_of
returns-in_err-refuse c t out =
    at_exit _ _ t out _ _ _ _ c.from_residual.ensures.1 c.in_err-refuse.ensures (grind (arith, common_steps))

pub returns-in_err-holdings : goal.returns-in_err-holdings
unfolding tests refusals test seat_of
returns-in_err-holdings c t out =
    at_exit _ _ t out _ _ _ _ c.from_residual-in_err-holdings.ensures.1 c.in_err-holdings.ensures (grind (arith, common_steps))

pub returns-in_err-refuse-2 : goal.returns-in_err-refuse-2
unfolding tests refusals test seat_of
returns-in_err-refuse-2 c t out =
    at_exit _ _ t out _ _ _ _ c.from_residual-in_err-refuse-2.ensures.1 c.in_err-refuse-2.ensures (grind (arith, common_steps))

pub returns-in_err-key : goal.returns-in_err-key
unfolding tests refusals test seat_of
returns-in_err-key c t out =
    at_exit _ _ t out _ _ _ _ c.from_residual-in_err-key.ensures.1 c.in_err-key.ensures (grind (arith, common_steps))

pub returns-in_err-vector : goal.returns-in_err-vector
unfolding tests refusals test seat_of
returns-in_err-vector c t out =
    at_exit _ _ t out _ _ _ _ c.from_residual-in_err-vector.ensures.1 c.in_err-vector.ensures (grind (arith, common_steps))

pub returns-in_err-refuse-3 : goal.returns-in_err-refuse-3
unfolding tests refusals test seat_of
returns-in_err-refuse-3 c t out =
    at_exit _ _ t out _ _ _ _ c.from_residual-in_err-refuse-3.ensures.1 c.in_err-refuse-3.ensures (grind (arith, common_steps))

-- a record that has bytes has a value
pub returns-in_err-value : goal.returns-in_err-value
returns-in_err-value c t out =
    let some = good_length _ (sym c.is_bad_length.ensures ∙ c.in_ok-refuse-3.ensures) in
    absurd (cc (sym c.in_err-value.was, fixity_done _ _ _ c.fixity_of.ensures some))

pub returns : goal.returns
unfolding tests refusals test seat_of
returns c t out =
    let some = good_length _ (sym c.is_bad_length.ensures ∙ c.in_ok-refuse-3.ensures) in
    let value = value_done _ _ _ _ c.in_ok-value.ensures some in
    by_effect _ _ t out (grind (arith, common_steps)) _
    (rw daut_does (simp (
      c.given.ensures,
      c.in_ok-holdings.ensures,
      ← c.function_of-asked.ensures,
      ← c.side_for-side.ensures,
      ap (λ (k : DataKey). k.0) c.in_ok-key.ensures.1,
      ap (λ (v : Vector). v.0) c.in_ok-vector.ensures.1,
      value,
    )))
