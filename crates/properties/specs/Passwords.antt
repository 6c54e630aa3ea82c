-- "The password of IPW is accepted by RAS and by CPW"; the one that CPW gives is accepted afterwards.
use Rattle.std.specs.Prelude.{◌≡◌, Bool, false, ℕ, length}
use Rattle.std.proofs.Math.Bool.{true}
use Rattle.std.specs.Prelude.{None, Some}
use Rattle.state.specs.declared.Holdings.{Holdings}
use Rattle.state.specs.State.{Bytes, find, all_taken, key_at}
use Rattle.table.specs.Entries.{fits, entry_of}
use Rattle.table.specs.Passwords.{big, sealed, authentic}
use Rattle.rules.specs.World.{World, key1}

-- ---- the words

-- the password p is u's: condition 9 does not hold
abbrev pub authenticates : World → ℕ → Bytes → Bool
authenticates w u p = authentic (key1 w) u p (entry_of u w.table)

-- u's password is p in the world w, and it is the turn of RAS and CPW: of their conditions only those about places are left
pub record Stands (w : World) (u : ℕ) (p : Bytes) : Type 0 where
  pub small : big u ≡ false
  pub table : fits (length w.table) ≡ true
  pub key : (key_at 1 w.facility.current_keys).present ≡ true
  pub turn : w.facility.due ≡ false
  pub entry : entry_of u w.table ≡ Some (sealed (key1 w) u p)

-- u is active, with these holdings; u is not active; a place is free
abbrev pub Active : ℕ → Holdings → World → Type 0
Active u h w = find u w.facility.places ≡ Some h

abbrev pub Inactive : ℕ → World → Type 0
Inactive u w = find u w.facility.places ≡ None

abbrev pub Room : World → Type 0
Room w = all_taken w.facility.places ≡ false
