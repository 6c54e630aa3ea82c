use Rattle.std.proofs.Common.{refl, ap, rules}
use Rattle.counter.specs.Holds.{partly}
use Rattle.counter.specs.Whole.{none_yet, one_more_lem}
use Rattle.counter.proofs.input.next_line.Goals as goal

pub loop-init : goal.loop-init
loop-init c = rw c.new.ensures (none_yet _, refl)

pub returns-then-got-clause-line : goal.returns-then-got-clause-line
returns-then-got-clause-line c = one_more_lem _ _ c.loop.invariant.0 _ _ (ap partly c.take_letter.ensures)

pub loop-preserved : goal.loop-preserved
loop-preserved c = (one_more_lem _ _ c.loop.invariant.0 _ _ (ap partly c.take_letter.ensures), search rules)
