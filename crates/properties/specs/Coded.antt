-- Two users have one key and one vector, one of them to transmit, the other to receive: what E writes for the one, and that D gives it back to the other.
use Rattle.std.specs.Prelude.{◌≡◌, ℕ, length, take}
use Rattle.cipher.specs.Cipher.{Way, deciphering}
use Rattle.state.specs.declared.Side.{Side}
use Rattle.state.specs.State.{Bytes}
use Rattle.rules.specs.World.{World}
use Rattle.rules.specs.Commands.{by, mode}
use Rattle.rules.specs.Step.{Wrote, step}
use Rattle.properties.specs.Held.{held_key, held_vector}

-- the side has the key k and the vector v
pub record Equipped (k v : Bytes) (s : Side) : Type 0 where
  pub key : s.key ≡ held_key k
  pub vector : s.vector ≡ held_vector v

-- by D, of the cipher text c, j gets the text t
pub record Opened (y : Way) (W : World) (j : ℕ) (t c out : Bytes) : Type 0 where
  pub answer : (step W (by j (mode (deciphering y) c)) out).answered.answer ≡ Wrote (length t)
  pub text_is : take (length t) (step W (by j (mode (deciphering y) c)) out).answered.output ≡ t
