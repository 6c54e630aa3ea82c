-- "Where a state is handed in that has one identifier in two places, the first of them counts and the other is not altered while the first is there."
use mathlib.Core.List.{List, ◌++◌}
use Rattle.state.specs.declared.Place.{Place}
use Rattle.state.specs.State.{with_places}
use Rattle.rules.specs.World.{World, over}
use Rattle.rules.specs.Step.{Result, result}

-- ---- the first counts

-- the world w with these places
abbrev pub housing : World → List Place → World
housing w ps = over (with_places w.facility ps) w.table

-- the outcome r, with the places qs behind those that it has
abbrev pub before : List Place → Result → Result
before qs r = result r.answered (housing r.world (r.world.facility.places ++ qs))
