-- How long a command's fields can be, one after the other: only the data may be long, they come last, and a command with data has at most three fields.
use Rattle.std.specs.Prelude.{Bool, true, false, cond, List, [], ◌∷◌, leb, length}
use Rattle.stream.specs.Commands.{Row as Form}
use Rattle.stream.specs.Grammar.{among}

-- ---- the page's rows

unfoldable pub few : List Form → Bool
few [] = true
few (r ∷ rs) = cond (cond (among 0x87 r.arguments) (leb (length r.arguments) 3) true) (few rs) false
