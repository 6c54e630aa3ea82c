-- A tally with one case more, right or wrong.
use Rattle.std.specs.Prelude.{Bool, cond, ◌+◌, ◌%◌, ◌^◌}
use Rattle.handed.specs.declared.report.Tally.{Tally}

unfoldable pub counted : Bool → Tally → Tally
counted right t = record { cases = (t.cases + 1) % 2 ^ 64; wrong = cond right t.wrong ((t.wrong + 1) % 2 ^ 64) }
