-- "`who` answers `active users: N of 16` and, for each place taken, in the order of the places," a line; "and never a byte of a key."
use Rattle.std.specs.Prelude.{Bool, cond, List, [], ◌∷◌, ◌++◌, ℕ, length}
use Prim.Native.Char.{code}
use Rattle.printout.specs.Text.{letters}
use Rattle.printout.specs.Digits.{decimal}
use Rattle.state.specs.declared.Holdings.{Holdings}
use Rattle.state.specs.declared.Place.{Place}
use Rattle.state.specs.State.{holders}

unfoldable pub held : List ℕ → Bool → List ℕ
held what present = what ++ cond present (letters "present") (letters "missing")

unfoldable pub user_line : ℕ → Holdings → List ℕ
user_line u h =
    decimal u
    ++ (held (letters ": transmit key ") h.transmit.key.present
    ++ (held (letters ", receive key ") h.receive.key.present
    ++ (held (letters ", transmit IV ") h.transmit.vector.present
    ++ (held (letters ", receive IV ") h.receive.vector.present
    ++ (code "\n" ∷ [])))))

-- a free place has no line
unfoldable pub place_line : Place → List ℕ
place_line p = cond p.taken (user_line p.user p.holdings) []

unfoldable pub place_lines : List Place → List ℕ
place_lines [] = []
place_lines (p ∷ ps) = place_line p ++ place_lines ps

unfoldable pub who : List Place → List ℕ
who ps = letters "active users: " ++ (decimal (length (holders ps)) ++ (letters " of 16\n" ++ place_lines ps))
