use Rattle.std.proofs.Common.{◌≡◌}
use Rattle.counter.specs.Holds.{partly}
use Rattle.counter.specs.Whole.{SomeLine}
use Rattle.counter.proofs.input.next_line.Given as goal

-- some line, as far as it has come, on the room that was lent
abbrev pub invariant-loop : goal.invariant-loop
invariant-loop l = SomeLine l.fn.line (partly l.got) × (l.got.letters.letters.ghost_name ≡ l.initial.got.letters.letters.ghost_name)
