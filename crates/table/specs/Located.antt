-- What a search of the table tells of the number of an entry, or of finding none.
use Rattle.std.specs.Prelude.{◌≡◌, true, false, Option, None, Some, ℕ, ◌/◌, ◌<◌, eqb, length}
use Rattle.state.specs.State.{Bytes}
use Rattle.table.specs.Entries.{id_at}

-- no entry before k is u's
abbrev pub NotBefore : ℕ → Bytes → ℕ → Type 0
NotBefore u t k = (j : ℕ) → j < k → eqb u (id_at t j) ≡ false

-- the first entry of u, by its number
abbrev pub Entered : ℕ → Bytes → Option ℕ → Type 0
Entered u t (Some k) = (k < length t / 12) × (eqb u (id_at t k) ≡ true) × NotBefore u t k
Entered u t None = NotBefore u t (length t / 12)
