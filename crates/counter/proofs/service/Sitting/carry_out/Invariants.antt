use Rattle.std.proofs.Common.{◌≡◌, ◌-◌, length}
use Rattle.printout.specs.Inked.{sheet, bearing}
use Rattle.session.specs.Run.{ran_from}
use Rattle.counter.specs.Service.{with_answers}
use Rattle.counter.specs.Holds.{desk_as, left_as, carried_with}
use Rattle.counter.proofs.service.Sitting.carry_out.Given as goal

-- what the rest of the piece leaves is what all of it does; and the room is what was lent
abbrev pub invariant-loop-at : goal.invariant-loop-at
invariant-loop-at l =
    let c = desk_as l.self in
    record {
      rest : with_answers c.answers (ran_from l.fn.piece c.world c.output l.at) ≡ carried_with l.fn.piece (desk_as l.initial.self);
      desk : l.self ≡ left_as c l.initial.self;
      paper : l.paper ≡ bearing (sheet l.paper) l.initial.paper;
      room : length l.paper.letters.now ≡ length l.initial.paper.letters.now;
    }

abbrev pub decreases-loop-at : goal.decreases-loop-at
decreases-loop-at l = length l.piece - l.at
