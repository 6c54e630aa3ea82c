-- When two password tables are one: users' commands alter owners' first entries alone.
use Rattle.std.specs.Prelude.{◌≡◌, length, take, drop}
use Prim.Native.Nat.{ℕ, zero, suc, ◌/◌}
use Rattle.state.specs.State.{Bytes}
use Rattle.table.specs.Entries.{id_of, entry_in}

-- ---- tables of n entries that differ in owners' entries alone: entry by entry the same identifier and, of each identifier, the same
-- bytes in all its entries but the first; and the same bytes behind
abbrev pub SameIn : ℕ → Bytes → Bytes → Type 0
SameIn zero a t = a ≡ t
SameIn (suc n) a t = (take 4 a ≡ take 4 t) × (entry_in n (id_of a) (drop 12 a) ≡ entry_in n (id_of a) (drop 12 t)) × SameIn n (drop 12 a) (drop 12 t)

-- ---- t came of a by such alterations
pub record From (a t : Bytes) : Type 0 where
  pub size : length t ≡ length a
  pub same : SameIn (length a / 12) a t
