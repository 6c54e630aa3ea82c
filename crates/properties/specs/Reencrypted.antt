-- "EIK of name 1, then RPW": a user authenticates exactly if he did before. RPW applied twice is refused.
use Rattle.std.specs.Prelude.{Bool, List}
use Rattle.std.specs.Prelude.{Option, None, Some}
use Prim.Native.Nat.{ℕ}
use Rattle.std.proofs.Math.ListN.{length}
use Rattle.cipher.specs.Cipher.{Octets}
use Rattle.state.specs.declared.Place.{Place}
use Rattle.state.specs.State.{Bytes, key_at}
use Rattle.table.specs.Entries.{fits}
use Rattle.rules.specs.World.{World}
use Rattle.properties.specs.Passwords.{authenticates}

-- ---- the entries of a table of bytes are eight bytes

abbrev pub Held : Option Bytes → Type 0
Held None = Unit {0}
Held (Some b) = Octets b

-- ---- RPW

-- old key 1
abbrev pub old1 : World → Bytes
old1 w = (key_at 1 w.facility.old_keys).value.0

-- ---- EIK of name 1, then RPW

-- what the conditions of RAS and CPW look at
pub record Sight : Type 0 where
  pub fitting : Bool
  pub places : List Place
  pub key : Bool
  pub due : Bool
  pub own : Bool

abbrev pub seen : Bool → List Place → Bool → Bool → Bool → Sight
seen f ps k d x = record { fitting = f; places = ps; key = k; due = d; own = x }

abbrev pub sight : World → ℕ → Bytes → Sight
sight w u p = seen (fits (length w.table)) w.facility.places (key_at 1 w.facility.current_keys).present w.facility.due (authenticates w u p)
