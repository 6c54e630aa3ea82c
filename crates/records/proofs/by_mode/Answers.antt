use Rattle.rules.specs.Outcomes.{refusal_of}
use Rattle.std.proofs.Common.{ap, sym, arith, ◌∙◌, ◌<◌, ◌≤◌, length}
use Rattle.std.proofs.lemmas.Grind.{common_steps}
use Rattle.rules.specs.Commands.{tests}
use Rattle.rules.specs.Refusals.{test}
use Rattle.state.specs.State.{seat_of}
use Rattle.rules.proofs.Laws.{at_exit, by_effect, mode_first, good_blocks}
use Rattle.std.proofs.lemmas.Bool.Decides.{nat_tests}
use Rattle.cipher.specs.declared.keys.DataKey.{DataKey}
use Rattle.cipher.proofs.Promise.{mode_text-length}
use Rattle.records.proofs.Laws.{no_room, mode_done, mode_does}
use Rattle.records.proofs.by_mode.Goals as goal

pub returns-in_err-refuse : goal.returns-in_err-refuse
unfolding tests test seat_of
returns-in_err-refuse c t =
    at_exit _ _ t _ _ _ _ _ c.from_residual.ensures.1 c.in_err-refuse.ensures (mode_first _ _ _ _ _ _ ∙ grind (arith, common_steps))

pub returns-in_err-holdings : goal.returns-in_err-holdings
unfolding tests test seat_of
returns-in_err-holdings c t =
    at_exit _ _ t _ _ _ _ _ c.from_residual-in_err-holdings.ensures.1 c.in_err-holdings.ensures (mode_first _ _ _ _ _ _ ∙ grind (arith, common_steps))

pub returns-in_err-key : goal.returns-in_err-key
unfolding tests test seat_of
returns-in_err-key c t =
    at_exit _ _ t _ _ _ _ _ c.from_residual-in_err-key.ensures.1 c.in_err-key.ensures (mode_first _ _ _ _ _ _ ∙ grind (arith, common_steps))

pub returns-in_err-refuse-2 : goal.returns-in_err-refuse-2
unfolding tests test seat_of
returns-in_err-refuse-2 c t =
    at_exit _ _ t _ _ _ _ _ c.from_residual-in_err-refuse-2.ensures.1 c.in_err-refuse-2.ensures (mode_first _ _ _ _ _ _ ∙ grind (arith, common_steps))

pub returns-in_err-refuse-3 : goal.returns-in_err-refuse-3
unfolding tests test seat_of
returns-in_err-refuse-3 c t =
    at_exit _ _ t _ _ _ _ _ c.from_residual-in_err-refuse-3.ensures.1 c.in_err-refuse-3.ensures (mode_first _ _ _ _ _ _ ∙ grind (arith, common_steps))

pub returns-in_err-vector : goal.returns-in_err-vector
unfolding tests test seat_of refusal_of
returns-in_err-vector c t =
    let whole = good_blocks _ (sym c.is_bad_blocks.ensures ∙ c.in_ok-refuse-3.ensures) in
    let short = no_room _ _ _ _ _ _ _ c.in_err-vector.ensures whole in
    let room : length c.args.out.now < length c.args.text.now = short.0 in
    rw short.2
    (at_exit _ _ t _ _ _ _ _ c.from_residual-in_err-vector.ensures.1 (room, ap refusal_of short.1)
    (mode_first _ _ _ _ _ _ ∙ grind (arith, common_steps, nat_tests)))

pub returns : goal.returns
unfolding tests test seat_of
returns c t =
    let whole = good_blocks _ (sym c.is_bad_blocks.ensures ∙ c.in_ok-refuse-3.ensures) in
    let made = mode_done _ _ _ _ _ _ _ c.in_ok-vector.ensures whole in
    let room : length c.args.text.now ≤ length c.args.out.now = made.0 in
    by_effect _ _ t _ (mode_first _ _ _ _ _ _ ∙ grind (arith, common_steps, nat_tests)) _
    (rw mode_does (simp (
      c.wrote.ensures,
      c.keep.ensures,
      c.after_mode-after.ensures,
      made.1,
      made.2,
      c.in_ok-holdings.ensures,
      ← c.mode_side-side.ensures,
      ap (λ (k : DataKey). k.0) c.in_ok-key.ensures.1,
      mode_text-length c.args.which c.in_ok-key.key.0 c.mode_side-side.result.vector.value.0 c.args.text.now whole,
    )))
