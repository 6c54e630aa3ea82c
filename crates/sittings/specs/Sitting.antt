-- A sitting at the desk: what it leaves and answers, line after line, and what `$n` is in the next line.
use Rattle.std.specs.Prelude.{List, [], ◌∷◌, ℕ}
use Rattle.counter.specs.Service.{Carried, carried_out}
use Rattle.sittings.specs.ByLine.{said}

-- the desk after these lines: each one's bytes carried out where the one before it left the desk
unfoldable pub after : List (List ℕ) → Carried → Carried
after [] c = c
after (l ∷ ls) c = after ls (carried_out (said c.answers l) c.world c.output c.answers)
