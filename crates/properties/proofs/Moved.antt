-- Demand 2, of a block moved from the old interchange key to the current one: RDK's block gives the key that the old block gave, to sender and receiver alike.
use Rattle.std.specs.Prelude.{◌≡◌, refl, ℕ}
use Rattle.std.proofs.Common.{ap, ap₂, ◌∙◌, subst}
use Rattle.cipher.specs.Cipher.{Octets, enciphered, deciphered}
use Rattle.cipher.proofs.Promise.{deciphered-enciphered, deciphered_octets}
use Rattle.keys.specs.Keys.{parity_of, notarized}
use Rattle.keys.proofs.Laws.{parity_octets, notarized_alike}
use Rattle.state.specs.State.{Bytes}
use Rattle.rules.specs.World.{World}
use Rattle.rules.specs.Commands.{by, GDK, RDK}
use Rattle.rules.specs.Step.{step}
use Rattle.properties.specs.Held.{IsActive, IsSmall, as_t, as_r, as_s, HasCurrent, current_key, HasOld, old_key, Alike, Gives}
use Rattle.properties.specs.Loads.{Means, gave}
use Rattle.properties.proofs.Loads.{means_t, means_r, means_s, gives, gdk, rdk}
use Rattle.properties.specs.Demand2.{Recovered, Generates}
use Rattle.properties.proofs.Demand2.{sealed_recovered}

-- ---- the statement

-- the block b of the pair (i, j), moved at F, where the interchange p has both its keys: by the sender as t, by the receiver as r, by who is both as s
module _ (F : World) (p i j : ℕ) (b : Bytes) where
  -- the reply is the key k enciphered under the current key, notarized with (i, j); and from that both get k
  abbrev pub Moves : (f u v : ℕ) → (k out : Bytes) → Type 0
  Moves f u v k out =
      Gives F (enciphered (notarized (current_key p F) i j) k) out (step F (by u (RDK v p f b)) out)
      × Recovered F p i j (step F (by u (RDK v p f b)) out).answered.block k

  pub record Moved (k : Bytes) : Type 0 where
    pub by_sender : (out : Bytes) → (i ≡ j → ⊥) → IsActive i F → Moves as_t i j k out
    pub by_receiver : (out : Bytes) → (i ≡ j → ⊥) → IsActive j F → Moves as_r j i k out
    pub by_himself : (out : Bytes) → i ≡ j → IsActive i F → Moves as_s i j k out

  -- ---- the proof

  module _ (si : IsSmall i) (sj : IsSmall j) (current : HasCurrent p F) (old : HasOld p F)
      (k : Bytes) (is : deciphered (notarized (old_key p F) i j) b ≡ k) where
    eight : Octets k
    eight = subst Octets is (deciphered_octets (notarized (old_key p F) i j) b)

    moves : (f u v : ℕ) → IsSmall u → IsSmall v → IsActive u F → Means f u v i j → (out : Bytes) → Moves f u v k out
    moves f u v su sv a m out =
        let g = gives (rdk F u out a su v p sv current f i j m b old ∙ ap (λ (x : Bytes). gave (enciphered (notarized (current_key p F) i j) x) out F) is) in
        (g, sealed_recovered F p i j si sj _ k eight g.block)

    moved_is : Moved k
    moved_is =
        record {
          by_sender = λ out n a. moves as_t i j si sj a (means_t i j n) out;
          by_receiver = λ out n a. moves as_r j i sj si a (means_r i j n) out;
          by_himself = λ out e a. moves as_s i j si sj a (means_s i j e) out;
        }

-- ---- the theorems

-- whatever the block: it keeps the key that it has under the old interchange key
pub moved : (F : World) (p i j : ℕ) (b : Bytes) → IsSmall i → IsSmall j → HasCurrent p F → HasOld p F
    → Moved F p i j b (deciphered (notarized (old_key p F) i j) b)
moved F p i j b si sj current old = moved_is F p i j b si sj current old _ refl

-- the block of GDK: the given bits with parity set, where the key that was then current (at E, over q) is now the old one
pub generated_moved : (E F : World) (q p i j : ℕ) (bits out : Bytes) → Generates E i j q bits
    → HasCurrent p F → HasOld p F → Alike (old_key p F) (current_key q E)
    → Moved F p i j (step E (by i (GDK j q bits)) out).answered.block (parity_of bits)
generated_moved E F q p i j bits out x current old alike =
    let e = ap (λ r. r.answered.block) (gdk E i out x.active x.small_i j q x.small_j x.current bits) in
    moved_is F p i j _ x.small_i x.small_j current old (parity_of bits)
    (ap₂ deciphered (notarized_alike (old_key p F) (current_key q E) i j alike) e
    ∙ deciphered-enciphered (notarized (current_key q E) i j) (parity_of bits) (parity_octets bits x.bits_eight))
