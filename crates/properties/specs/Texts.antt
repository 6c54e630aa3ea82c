-- Demand 2: a D command gives back what the E command made, across two facilities; DAUT has one value for sender and receiver.
use Rattle.std.specs.Prelude.{◌≡◌, true, false, ℕ}
use Rattle.cipher.specs.Cipher.{Octets, Way, ECB, CBC, CFB, enciphering, deciphering}
use Rattle.cipher.specs.declared.modes.Mode.{Mode}
use Rattle.state.specs.declared.Holdings.{Holdings}
use Rattle.state.specs.State.{Bytes}
use Rattle.table.specs.Passwords.{big}
use Rattle.rules.specs.Sides.{mode_side, lacks_vector}

-- ---- two sides in step

-- the vectors agree: ECB uses none
abbrev pub Agree : Way → Bytes → Bytes → Type 0
Agree ECB v v' = Unit {0}
Agree CBC v v' = v ≡ v'
Agree CFB v v' = v ≡ v'

-- the side that E uses of the holdings h and the side that D uses of the holdings g: one key, vectors that agree, each of eight bytes
pub record InStep (w : Way) (h g : Holdings) : Type 0 where
  pub key : (mode_side (enciphering w) h).key.value.0 ≡ (mode_side (deciphering w) g).key.value.0
  pub vector : Agree w (mode_side (enciphering w) h).vector.value.0 (mode_side (deciphering w) g).vector.value.0
  pub sender : Octets (mode_side (enciphering w) h).vector.value.0
  pub receiver : Octets (mode_side (deciphering w) g).vector.value.0

-- u, who holds h, may use the mode: a small identifier, the side's key present, and its vector (11 is not among ECB's)
pub record Ready (m : Mode) (u : ℕ) (h : Holdings) : Type 0 where
  pub small : big u ≡ false
  pub key : (mode_side m h).key.present ≡ true
  pub vector : lacks_vector m (mode_side m h).vector.present ≡ false
