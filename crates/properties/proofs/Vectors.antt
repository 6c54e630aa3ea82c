-- Demand 2, of vectors: what GIV gave, both users load as one vector; and what EIV gave comes back as it was given.
use Rattle.std.specs.Prelude.{◌≡◌, false, ℕ}
use Rattle.std.proofs.Math.Path.{refl}
use Rattle.std.proofs.Common.{ap, ◌∙◌}
use Rattle.cipher.specs.Cipher.{Octets, enciphered, deciphered}
use Rattle.cipher.proofs.Promise.{deciphered-enciphered}
use Rattle.keys.specs.Keys.{parity_of}
use Rattle.keys.proofs.Laws.{parity_octets}
use Rattle.state.specs.State.{Bytes}
use Rattle.rules.specs.World.{World}
use Rattle.rules.specs.Sides.{function_of, unknown, side_for, with_vector}
use Rattle.rules.specs.Commands.{by, GIV, EIV, LIV}
use Rattle.rules.specs.Step.{step}
use Rattle.properties.specs.Held.{IsActive, IsSmall, sides_of, held_key, as_t, as_r, as_s, Gives}
use Rattle.properties.specs.Loads.{done}
use Rattle.properties.proofs.Loads.{gives, giv, eiv, liv, vector_t, vector_r, vector_s}
use Rattle.properties.specs.Vectors.{OneVector}

-- ---- the proof

-- any block that is the vector v enciphered under k
module _ (k b v : Bytes) (o : Octets v) (is : b ≡ enciphered k v) where
  loads : (G : World) (u : ℕ) (out : Bytes) → IsActive u G → IsSmall u → (f : ℕ) → unknown (function_of f) ≡ false
      → (side_for (function_of f) (sides_of u G)).key ≡ held_key k
      → step G (by u (LIV f b)) out ≡ done G u out (with_vector (function_of f) (record { 0 = v }) (sides_of u G))
  loads G u out a s f known e =
      liv G u out a s f k b known e
      ∙ ap (λ (x : Bytes). done G u out (with_vector (function_of f) (record { 0 = x }) (sides_of u G))) (ap (deciphered k) is ∙ deciphered-enciphered k v o)

  sealed-vector : OneVector k b v
  unfolding function_of unknown side_for
  sealed-vector =
      record {
        to_transmit = λ G u out a s e. vector_t G u out a _ v (loads G u out a s as_t refl e);
        to_receive = λ G u out a s e. vector_r G u out a _ v (loads G u out a s as_r refl e);
        to_both = λ G u out a s e. vector_s G u out a _ v (loads G u out a s as_s refl e);
      }

-- ---- the theorems: i is active at F, and has the key k to transmit

module _ (F : World) (i : ℕ) (k out : Bytes) (active : IsActive i F) (si : IsSmall i) (key : (sides_of i F).transmit.key ≡ held_key k) where
  -- GIV gives the bits with parity set, enciphered under k; and from that all get the vector: the bits with parity set
  pub given : (seed : Bytes) → Octets seed
      → Gives F (enciphered k (parity_of seed)) out (step F (by i (GIV seed)) out) × OneVector k (step F (by i (GIV seed)) out).answered.block (parity_of seed)
  given seed o = let g = gives (giv F i out active si k key seed) in (g, sealed-vector k _ (parity_of seed) (parity_octets seed o) g.block)

  -- EIV the same, of the given block as it is
  pub as_it_is : (b : Bytes) → Octets b
      → Gives F (enciphered k b) out (step F (by i (EIV b)) out) × OneVector k (step F (by i (EIV b)) out).answered.block b
  as_it_is b o = let g = gives (eiv F i out active si k key b) in (g, sealed-vector k _ b o g.block)
