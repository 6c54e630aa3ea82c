-- The words of demand 2: who is active, what is on his two sides, which interchange key is current, and what a load leaves, field by field.
use Rattle.std.specs.Prelude.{◌≡◌, true, ℕ, ◌≤◌, ◌<◌, length}
use Rattle.cipher.specs.Cipher.{Octets, Whole}
use Rattle.keys.specs.Keys.{parity_of}
use Rattle.cipher.specs.declared.keys.DataKey.{DataKey}
use Rattle.cipher.specs.declared.keys.Vector.{Vector}
use Rattle.state.specs.declared.Held.{Held}
use Rattle.state.specs.declared.Holdings.{Holdings}
use Rattle.state.specs.declared.Side.{Side}
use Rattle.state.specs.State.{held, Bytes, no_vector, find, key_at}
use Rattle.state.specs.State.{seat_of}
use Rattle.rules.specs.World.{World}
use Rattle.rules.specs.Step.{Done, Gave, Result}

-- ---- users

abbrev pub IsActive : ℕ → World → Type 0
IsActive u w = (seat_of (find u w.facility.places)).active ≡ true

abbrev pub IsSmall : ℕ → Type 0
IsSmall u = u ≤ 268435455

-- what u holds, to transmit and to receive
abbrev pub sides_of : ℕ → World → Holdings
sides_of u w = (seat_of (find u w.facility.places)).holdings

-- a key that is there, a vector that is there
abbrev pub held_key : Bytes → Held DataKey
held_key k = held (record { 0 = k })

abbrev pub held_vector : Bytes → Held Vector
held_vector v = held (record { 0 = v })

-- the key functions t, r and s
abbrev pub as_t : ℕ
as_t = 0x74

abbrev pub as_r : ℕ
as_r = 0x72

abbrev pub as_s : ℕ
as_s = 0x73

-- ---- interchanges

-- the interchange p has a current key; that key; the old one
abbrev pub HasCurrent : ℕ → World → Type 0
HasCurrent p w = (key_at p w.facility.current_keys).present ≡ true

abbrev pub current_key : ℕ → World → Bytes
current_key p w = (key_at p w.facility.current_keys).value.0

abbrev pub HasOld : ℕ → World → Type 0
HasOld p w = (key_at p w.facility.old_keys).present ≡ true

abbrev pub old_key : ℕ → World → Bytes
old_key p w = (key_at p w.facility.old_keys).value.0

-- two keys that are the same once their parity is set: they differ in their parity bits, if at all
abbrev pub Alike : Bytes → Bytes → Type 0
Alike k k' = parity_of k ≡ parity_of k'

-- the interchange that F calls p is there at G too, where it may be called q: its current key is the same, but for parity bits perhaps
pub record SharedKey (F : World) (p : ℕ) (G : World) (q : ℕ) : Type 0 where
  pub current : HasCurrent q G
  pub alike : Alike (current_key q G) (current_key p F)

-- ---- what the users bring

-- a text that a mode takes: whole blocks, one at least, at most 32768 bytes
pub record GoodText (t : Bytes) : Type 0 where
  pub whole : Whole t
  pub some_bytes : 0 < length t
  pub limit : length t ≤ 32768

-- the bits for a key, the seed of a vector, a text, and two outputs that have room for it
pub record Brought (bits seed text out out' : Bytes) : Type 0 where
  pub bits_eight : Octets bits
  pub seed_eight : Octets seed
  pub good_text : GoodText text
  pub room : length text ≤ length out
  pub room' : length text ≤ length out'

-- ---- the eight bytes b in the reply, and nothing altered

pub record Gives (w : World) (b out : Bytes) (r : Result) : Type 0 where
  pub answer : r.answered.answer ≡ Gave 8
  pub block : r.answered.block ≡ b
  pub output : r.answered.output ≡ out
  pub world : r.world ≡ w

-- ---- what a load leaves

-- all that is not u's is as it was: every other user's keys and vectors, the interchange keys, DUE, the table
pub record RestAsItWas (u : ℕ) (w w' : World) : Type 0 where
  pub others : (v : ℕ) → (v ≡ u → ⊥) → find v w'.facility.places ≡ find v w.facility.places
  pub current : w'.facility.current_keys ≡ w.facility.current_keys
  pub old : w'.facility.old_keys ≡ w.facility.old_keys
  pub due : w'.facility.due ≡ w.facility.due
  pub table : w'.table ≡ w.table

-- a side before a load, and after it: it is the same; or it was loaded with the key k, and has no vector; or it has got the vector v, and its key is the same
abbrev pub Same : Side → Side → Type 0
Same before after = after ≡ before

pub record Loaded (k : Bytes) (before after : Side) : Type 0 where
  pub key : after.key ≡ held_key k
  pub vector : after.vector ≡ no_vector

pub record Vectored (v : Bytes) (before after : Side) : Type 0 where
  pub key : after.key ≡ before.key
  pub vector : after.vector ≡ held_vector v

-- the user u loaded something in the world w, with the result r: it is done, his two sides are as `transmit` and `receive` say,
-- and all that is not his is as it was
pub record Leaves (transmit receive : Side → Side → Type 0) (u : ℕ) (w : World) (r : Result) : Type 0 where
  pub done : r.answered.answer ≡ Done
  pub active : IsActive u r.world
  pub to_transmit : transmit (sides_of u w).transmit (sides_of u r.world).transmit
  pub to_receive : receive (sides_of u w).receive (sides_of u r.world).receive
  pub rest : RestAsItWas u w r.world
