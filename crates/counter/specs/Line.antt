-- A line served: what it says, its bytes in the stream, and what carrying these out leaves.
use Rattle.std.specs.Prelude.{Bool, List, ℕ, ◌+◌, take}
use Rattle.state.specs.State.{Bytes}
use Rattle.rules.specs.World.{World}
use Rattle.reader.specs.Line.{Line}
use Rattle.clerk.specs.Heard.{heard}
use Rattle.clerk.specs.Spoken.{spoken}
use Rattle.counter.specs.Kept.{Books}
use Rattle.counter.specs.Service.{Carried, carried_out}

pub record Served : Type 0 where
  pub said : Line
  pub bytes : Bytes
  pub leaves : Carried

abbrev pub served : Line → Bytes → Carried → Served
served said bytes leaves = record { said = said; bytes = bytes; leaves = leaves }

-- `$n` means the answers so far: their bytes fill the room from its start, and the ends are theirs alone
abbrev pub heard_with : Bool → List ℕ → Books → Line
heard_with longer l b = heard longer l b.bytes.letters (take (b.count + 1) b.ends)

-- as many of the bytes as find room
abbrev pub bytes_of : List ℕ → ℕ → Books → Line → Bytes
bytes_of l room b said = take room (spoken said l b.bytes.letters)

abbrev pub carried_with : World → Bytes → Books → Line → Bytes → Served
carried_with w out b said bytes = served said bytes (carried_out bytes w out b)

unfoldable pub served_line : Bool → List ℕ → ℕ → World → Bytes → Books → Served
served_line longer l room w out b = carried_with w out b (heard_with longer l b) (bytes_of l room b (heard_with longer l b))
