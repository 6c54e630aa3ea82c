use Rattle.std.proofs.Common.{◌≡◌, ◌-◌, length}
use Rattle.printout.specs.Inked.{inked}
use Rattle.values.specs.Sources.{raw_from}
use Rattle.values.proofs.sources.put_raw.Given as goal

abbrev pub invariant-loop : goal.invariant-loop
invariant-loop l = inked (raw_from (length l.line - l.counter) l.line l.from) l.page ≡ inked (raw_from (length l.line) l.line l.start) l.initial.page
