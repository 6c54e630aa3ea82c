-- "Any other identifier above 268435455 matches nobody and is never altered": whatever stands in such an entry, every command, the officer's and the
-- host's too, has the same answer and leaves the same world, and the entry stays.
use Rattle.std.specs.Prelude.{◌≡◌, ℕ, ◌<◌}
use Rattle.state.specs.State.{Bytes}
use Rattle.table.specs.Entries.{free_id}
use Rattle.rules.specs.World.{over}
use Rattle.rules.specs.Step.{Result, result}
use Rattle.properties.specs.Replaced.{replaced}

-- an identifier that is nobody's: above 268435455, and not the four bytes FF of a free entry
abbrev pub Nobodys : ℕ → Type 0
Nobodys i = (268435455 < i) × (i ≡ free_id → ⊥)

-- ---- two tables that differ in such an entry alone

-- the outcome r, but for the twelve bytes e as entry k of the table
abbrev pub beside : ℕ → Bytes → Result → Result
beside k e r = result r.answered (over r.world.facility (replaced k e r.world.table))
