-- What a user's command leaves to the others: what they hold, the interchange keys, DUE.
use Rattle.std.specs.Prelude.{ℕ}
use Rattle.state.specs.declared.Holdings.{Holdings}
use Rattle.state.specs.State.{give, with_places}
use Rattle.rules.specs.World.{World, over}

-- ---- the world in which u, who is active, holds h

abbrev pub holding : World → ℕ → Holdings → World
holding w u h = over (with_places w.facility (give u h w.facility.places)) w.table
