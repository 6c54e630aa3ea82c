-- Demand 2, of vectors: what GIV gave, both users load as one vector; and what EIV gave comes back as it was given.
use Rattle.std.specs.Prelude.{◌≡◌, ℕ}
use Rattle.state.specs.State.{Bytes}
use Rattle.rules.specs.World.{World}
use Rattle.rules.specs.Commands.{by, LIV}
use Rattle.rules.specs.Step.{step}
use Rattle.properties.specs.Held.{IsActive, IsSmall, sides_of, held_key, as_t, as_r, as_s, Same, Vectored, Leaves}

-- ---- the statement

-- the block b gives the vector v to every user who has the key k, at any facility: as t on his transmit side, as r on his receive side, as s on both
pub record OneVector (k b v : Bytes) : Type 0 where
  pub to_transmit : (G : World) (u : ℕ) (out : Bytes) → IsActive u G → IsSmall u → (sides_of u G).transmit.key ≡ held_key k
      → Leaves (Vectored v) Same u G (step G (by u (LIV as_t b)) out)
  pub to_receive : (G : World) (u : ℕ) (out : Bytes) → IsActive u G → IsSmall u → (sides_of u G).receive.key ≡ held_key k
      → Leaves Same (Vectored v) u G (step G (by u (LIV as_r b)) out)
  pub to_both : (G : World) (u : ℕ) (out : Bytes) → IsActive u G → IsSmall u → (sides_of u G).transmit.key ≡ held_key k
      → Leaves (Vectored v) (Vectored v) u G (step G (by u (LIV as_s b)) out)
