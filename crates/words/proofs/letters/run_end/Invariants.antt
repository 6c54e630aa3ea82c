use Rattle.std.proofs.Common.{◌≡◌, ◌+◌, drop}
use Rattle.words.specs.Letters.{front}
use Rattle.words.proofs.letters.run_end.Given as goal

abbrev pub invariant-loop-i : goal.invariant-loop-i
invariant-loop-i l = l.i + front l.class (drop l.i l.line) ≡ l.at + front l.class (drop l.at l.line)
