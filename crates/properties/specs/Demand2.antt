-- Demand 2: "A key that one user generates for another is recovered by that other, naming the sender and the interchange,
-- at any facility where he is active and that interchange key is current."
use Rattle.std.specs.Prelude.{◌≡◌, ℕ}
use Rattle.cipher.specs.Cipher.{Octets}
use Rattle.state.specs.State.{Bytes}
use Rattle.rules.specs.World.{World}
use Rattle.rules.specs.Commands.{by, LDK}
use Rattle.rules.specs.Step.{step}
use Rattle.properties.specs.Held.{IsActive, IsSmall, as_t, as_r, as_s, HasCurrent, SharedKey, Same, Loaded, Leaves}

-- ---- the statement

-- the block b gives the key k to the users i and j, at any facility G that shares the interchange key which F calls p, by whatever name q
pub record Recovered (F : World) (p i j : ℕ) (b k : Bytes) : Type 0 where
  -- the receiver loads it as r, naming the sender: the key is then on his receive side
  pub received : (G : World) (q : ℕ) (out : Bytes) → SharedKey F p G q → (i ≡ j → ⊥) → IsActive j G
      → Leaves Same (Loaded k) j G (step G (by j (LDK i q as_r b)) out)
  -- the sender as t, naming the receiver: on his transmit side
  pub transmitted : (G : World) (q : ℕ) (out : Bytes) → SharedKey F p G q → (i ≡ j → ⊥) → IsActive i G
      → Leaves (Loaded k) Same i G (step G (by i (LDK j q as_t b)) out)
  -- who made it for himself as s: on both sides
  pub kept : (G : World) (q : ℕ) (out : Bytes) → SharedKey F p G q → i ≡ j → IsActive i G
      → Leaves (Loaded k) (Loaded k) i G (step G (by i (LDK j q as_s b)) out)

-- i generates a key for j over the interchange p, at F: he is active, both identifiers are at most 268435455, the interchange has a current key,
-- and the bits given are eight bytes
pub record Generates (F : World) (i j p : ℕ) (bits : Bytes) : Type 0 where
  pub active : IsActive i F
  pub small_i : IsSmall i
  pub small_j : IsSmall j
  pub current : HasCurrent p F
  pub bits_eight : Octets bits
