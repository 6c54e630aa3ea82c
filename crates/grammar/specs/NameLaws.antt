-- A line's first word: the reader knows exactly the names, in small or capital letters.
use Rattle.std.specs.Prelude.{◌≡◌, true, ℕ}
use Rattle.std.specs.Prelude.{Some}
use mathlib.Core.List.{List, map}
use Rattle.names.specs.declared.Says.{Says}
use Rattle.names.specs.declared.Says.TheVariants.{Command, Raw, Help, Who, Quit}
use Rattle.names.specs.Names.{Start, capital, name, unknown}
use Rattle.printout.specs.Text.{letters}
use Rattle.stream.specs.Commands.{arguments_of}

abbrev pub begun : Says → ℕ → Start
begun s t = record { known = true; says = s; tag = t }

-- ---- what begins is a name

-- what the first word w is
pub data First (w : List ℕ) : Start → Type 0 where
  command : (t : ℕ) (ks : List ℕ) → arguments_of t ≡ Some ks → map capital w ≡ name t → First w (begun Command t)
  raw : w ≡ letters "!" → First w (begun Raw 0)
  help : map capital w ≡ letters "HELP" → First w (begun Help 0)
  who : map capital w ≡ letters "WHO" → First w (begun Who 0)
  quit : map capital w ≡ letters "QUIT" → First w (begun Quit 0)
  no_name : First w unknown
