use Rattle.std.proofs.Common.{◌≡◌, ◌≤◌}
use Rattle.vectors.specs.Answers.{forwards, backwards}
use Rattle.vectors.proofs.blocks.run.Given as goal

abbrev pub invariant-loop-i : goal.invariant-loop-i
invariant-loop-i l =
    (l.enciphered ≡ forwards l.table l.i) × (l.deciphered ≡ backwards l.table l.i) × (l.enciphered ≤ l.i) × (l.deciphered ≤ l.i)
