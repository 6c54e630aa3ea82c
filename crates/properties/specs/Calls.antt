-- A mode's call by an active user: its conditions, and the world and the side that it leaves.
use Rattle.cipher.specs.Cipher.{mode_vector}
use Rattle.cipher.specs.declared.keys.Vector.{Vector}
use Rattle.cipher.specs.declared.modes.Mode.{Mode}
use Rattle.state.specs.declared.Holdings.{Holdings}
use Rattle.state.specs.State.{Bytes}
use Rattle.rules.specs.Sides.{mode_side, after_mode}

-- the vector that the call leaves, and the holdings
abbrev pub vector_of : Mode → Holdings → Bytes → Vector
vector_of m h d = record { 0 = mode_vector m (mode_side m h).key.value.0 (mode_side m h).vector.value.0 d }

abbrev pub held : Mode → Holdings → Bytes → Holdings
held m h d = after_mode m (vector_of m h d) h
