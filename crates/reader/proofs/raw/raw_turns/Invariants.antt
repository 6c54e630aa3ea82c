use Rattle.std.proofs.Common.{◌≡◌, ◌-◌, length, Ok}
use Rattle.reader.specs.Raw.{raw_turns}
use Rattle.reader.specs.Results.{line_as}
use Rattle.reader.proofs.raw.raw_turns.Given as goal

abbrev pub invariant-loop : goal.invariant-loop
invariant-loop l = raw_turns l.line (length l.line - l.counter) (line_as (Ok l.q)) ≡ raw_turns l.line (length l.line) (line_as (Ok l.fn.r))
