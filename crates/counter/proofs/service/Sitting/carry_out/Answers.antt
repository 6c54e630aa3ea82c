use Rattle.std.proofs.Common.{◌≤◌, length, refl, sym, ap, ◌∙◌, arith, rules}
use Rattle.counter.specs.Service.{Carried, carried_out, step, further, finished}
use Rattle.counter.specs.Holds.{left_as}
use Rattle.counter.proofs.service.Sitting.carry_out.Goals as goal

pub loop-at-init : goal.loop-at-init
unfolding carried_out
loop-at-init c = record { rest = refl; desk = refl; paper = refl; room = refl }

pub loop-at-smaller : goal.loop-at-smaller
loop-at-smaller c =
    let on = further _ _ _ _ _ _ c.loop-at-test.true _ c.next_command-at.ensures.turn in
    omega (arith, on, c.loop-at-test.true)

pub loop-at-preserved : goal.loop-at-preserved
loop-at-preserved c =
    record {
      rest = step _ _ _ _ _ _ c.loop-at-test.true _ c.next_command-at.ensures.turn ∙ c.loop-at.invariant.rest;
      desk = search rules;
      paper = search rules;
      room = c.next_command-at.ensures.room ∙ c.loop-at.invariant.room;
    }

pub returns-clause-desk : goal.returns-clause-desk
returns-clause-desk c =
    let over : length c.args.piece.now ≤ c.loop-at.at = omega (arith, c.loop-at-test.false) in
    let all = sym (finished _ _ _ _ _ over) ∙ c.loop-at.invariant.rest in
    c.loop-at.invariant.desk ∙ ap (λ (d : Carried). left_as d c.args.self.now) all
