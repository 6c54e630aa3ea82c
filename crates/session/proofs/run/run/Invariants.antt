use Rattle.std.proofs.Common.{length, ◌-◌, ◌≡◌, ◌+◌, ◌≤◌}
use Rattle.rules.specs.World.{over}
use Rattle.printout.specs.Inked.{sheet, bearing}
use Rattle.session.specs.Run.{ran_from, printed_from, printed_run}
use Rattle.session.proofs.run.run.Given as goal

-- the reader holds the stream; the ordinal does not run ahead of the place; what is still to be printed is the rest of what was; and the page is the one that was lent
abbrev pub invariant-loop-r : goal.invariant-loop-r
invariant-loop-r l =
    record {
      stream : l.r.src.now ≡ l.fn.s;
      ordinal : l.d.ordinal ≤ l.r.at + 1;
      printed : printed_from l.d.ordinal (sheet l.page) (ran_from l.fn.s (over l.d.state l.table) l.out l.r.at)
          ≡ printed_run l.fn.s (over l.fn.f l.fn.table) l.fn.out (sheet l.fn.page);
      lent : l.page ≡ bearing (sheet l.page) l.fn.page;
    }

abbrev pub decreases-loop-r : goal.decreases-loop-r
decreases-loop-r l = length l.r.src.now - l.r.at
