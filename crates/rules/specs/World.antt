-- What a command finds: the facility with the password table that it is lent; and of these what one user's command may see, his own.
use Rattle.std.specs.Prelude.{Bool, Option, List, ℕ, length}
use Rattle.cipher.specs.declared.keys.InterchangeKey.{InterchangeKey}
use Rattle.cipher.specs.declared.keys.DataKey.{DataKey}
use Rattle.cipher.specs.declared.keys.Vector.{Vector}
use Rattle.state.specs.declared.Held.{Held}
use Rattle.state.specs.declared.Side.{Side}
use Rattle.state.specs.declared.Holdings.{Holdings}
use Rattle.state.specs.declared.Facility.{Facility}
use Rattle.state.specs.State.{Bytes, Seat, seat_of, find, shut_to, key_at}
use Rattle.table.specs.Entries.{fits, entry_of}

pub record World : Type 0 where
  pub facility : Facility
  pub table : Bytes

abbrev pub over : Facility → Bytes → World
over f t = record { facility = f; table = t }

-- ---- a user's own: the keys and the mark, whether the table's length is right, his entry, his place

pub record Own : Type 0 where
  pub current : List (Held InterchangeKey)
  pub old : List (Held InterchangeKey)
  pub due : Bool
  pub fits : Bool
  pub entry : Option Bytes
  pub seat : Seat  -- whether he is active, and what he then holds

abbrev pub own : ℕ → World → Own
own u w = record {
  current = w.facility.current_keys;
  old = w.facility.old_keys;
  due = w.facility.due;
  fits = fits (length w.table);
  entry = entry_of u w.table;
  seat = seat_of (find u w.facility.places);
}

-- u has no place, and all are taken
abbrev pub shut_for : ℕ → World → Bool
shut_for u w = shut_to (find u w.facility.places) w.facility.places

-- ---- short names for what lies deep

-- the current key and the old key of the interchange i
abbrev pub current : ℕ → Own → Bytes
current i o = (key_at i o.current).value.0

abbrev pub old : ℕ → Own → Bytes
old i o = (key_at i o.old).value.0

-- the facility's own key: current key 1; and the one before it
abbrev pub key1 : World → Bytes
key1 w = (key_at 1 w.facility.current_keys).value.0

abbrev pub old_key1 : World → Bytes
old_key1 w = (key_at 1 w.facility.old_keys).value.0

-- what the issuer holds
abbrev pub mine : Own → Holdings
mine o = o.seat.holdings

-- the key and the vector of a side
abbrev pub key_of : Side → Bytes
key_of s = s.key.value.0

abbrev pub vector_of : Side → Bytes
vector_of s = s.vector.value.0

-- eight bytes as a data key, and as a vector
abbrev pub as_key : Bytes → DataKey
as_key b = record { 0 = b }

abbrev pub as_vector : Bytes → Vector
as_vector b = record { 0 = b }
