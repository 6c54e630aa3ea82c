-- What is handed in beside a mark of missing.
use Rattle.std.specs.Prelude.{false}
use Rattle.state.specs.declared.Held.{Held}
use Rattle.state.specs.declared.Side.{Side}
use Rattle.state.specs.declared.Holdings.{Holdings}
use Rattle.state.specs.State.{Bytes}

abbrev pub missing : {T : Type 0} → T → Held T
missing x = record { present = false; value = x }

-- the same on both sides
abbrev pub both : Side → Holdings
both s = record { transmit = s; receive = s }

-- these bytes as each key and each vector, marked missing
abbrev pub all_missing : Bytes → Holdings
all_missing b = both (record { key = missing (record { 0 = b }); vector = missing (record { 0 = b }) })
