-- Three faults that the demand rules out. Each is `step` but for one thing, and of each it is proved that the demand does not hold.
use Rattle.std.specs.Prelude.{Bool, true, ℕ, take, drop}
use mathlib.Core.List.{List, [], ◌∷◌, ◌++◌}
use Rattle.state.specs.declared.Place.{Place}
use Rattle.state.specs.State.{vacant, with_places}
use Rattle.table.specs.Passwords.{sealed}
use Rattle.rules.specs.Commands.{UserCommand, Effect, refused, gives, keeps, leaves, enters, writes}
use Rattle.rules.specs.World.{World, over, own, shut_for, key1}
use Rattle.rules.specs.Step.{carry, told, result, rule}
use Rattle.merging.specs.Demand3.{Step}

-- `step`, where it is told by `shuts` whether RAS finds no place, and users' commands alter the world by `alters`
abbrev pub step_by : (ℕ → World → Bool) → (ℕ → Effect → World → World) → Step UserCommand
step_by shuts alters w u c out = result (told (rule u c out (shuts u w) (own u w)) out) (alters u (rule u c out (shuts u w) (own u w)) w)

-- ---- LAU frees the first place rather than the issuer's

abbrev first_freed : List Place → List Place
first_freed [] = []
first_freed (p ∷ ps) = vacant ∷ ps

abbrev pub frees_first : ℕ → Effect → World → World
frees_first u (refused n) w = carry u (refused n) w
frees_first u (gives n b) w = carry u (gives n b) w
frees_first u (keeps h) w = carry u (keeps h) w
frees_first u leaves w = over (with_places w.facility (first_freed w.facility.places)) w.table
frees_first u (enters password) w = carry u (enters password) w
frees_first u (writes b h) w = carry u (writes b h) w

-- ---- CPW writes the first entry rather than the issuer's

abbrev pub enters_first : ℕ → Effect → World → World
enters_first u (refused n) w = carry u (refused n) w
enters_first u (gives n b) w = carry u (gives n b) w
enters_first u (keeps h) w = carry u (keeps h) w
enters_first u leaves w = carry u leaves w
enters_first u (enters password) w = over w.facility (take 4 w.table ++ (sealed (key1 w) u password ++ drop 12 w.table))
enters_first u (writes b h) w = carry u (writes b h) w

-- ---- RAS looks at the first place, whoever has it, and at no other: 8 where it is taken

abbrev first_taken : List Place → Bool
first_taken [] = true
first_taken (p ∷ ps) = p.taken

abbrev pub looks_at_first : ℕ → World → Bool
looks_at_first u w = first_taken w.facility.places

-- ---- with no fault it is `step`, and the demand holds

abbrev pub faultless : Step UserCommand
faultless = step_by shut_for carry
