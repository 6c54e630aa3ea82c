-- Demand 2: "A key that one user generates for another is recovered by that other, naming the sender and the interchange,
-- at any facility where he is active and that interchange key is current."
use Rattle.std.specs.Prelude.{◌≡◌, ℕ}
use Rattle.std.proofs.Common.{ap, ap₂, ◌∙◌, arith, ltb-false}
use Rattle.cipher.specs.Cipher.{Octets, enciphered, deciphered}
use Rattle.cipher.proofs.Promise.{deciphered-enciphered}
use Rattle.keys.specs.Keys.{parity_of, notarized}
use Rattle.keys.proofs.Laws.{parity_octets, notarized_alike}
use Rattle.state.specs.State.{Bytes}
use Rattle.table.specs.Passwords.{big}
use Rattle.rules.specs.World.{World}
use Rattle.rules.specs.Sides.{function_of, with_key}
use Rattle.rules.specs.Refusals.{big_pair}
use Rattle.rules.specs.Commands.{by, GDK, LDK, refusals}
use Rattle.rules.specs.Step.{step}
use Rattle.properties.specs.Steps.{Accepted}
use Rattle.properties.proofs.Steps.{accepted_first, next, not_false, pair_small}
use Rattle.properties.specs.Held.{IsActive, IsSmall, sides_of, as_t, as_r, as_s, current_key, SharedKey, Gives}
use Rattle.properties.specs.Loads.{Means, done}
use Rattle.properties.proofs.Loads.{means_t, means_r, means_s, gives, gdk, ldk, key_t, key_r, key_s}
use Rattle.properties.specs.Demand2.{Recovered, Generates}

-- ---- the proof

-- any block that is the key k enciphered for the pair (i, j)
module _ (F : World) (p i j : ℕ) (si : IsSmall i) (sj : IsSmall j) (b k : Bytes) (o : Octets k) (is : b ≡ enciphered (notarized (current_key p F) i j) k) where
  opens : (G : World) (q : ℕ) → SharedKey F p G q → deciphered (notarized (current_key q G) i j) b ≡ k
  opens G q s =
      ap₂ deciphered (notarized_alike (current_key q G) (current_key p F) i j s.alike) is
      ∙ deciphered-enciphered (notarized (current_key p F) i j) k o

  -- loaded by whoever means that pair
  loads : (G : World) (q : ℕ) (out : Bytes) → SharedKey F p G q → (f u v : ℕ) → IsActive u G → IsSmall u → IsSmall v → Means f u v i j
      → step G (by u (LDK v q f b)) out ≡ done G u out (with_key (function_of f) (record { 0 = k }) (sides_of u G))
  loads G q out s f u v a su sv m =
      ldk G u out a su v q sv s.current f i j m b
      ∙ ap (λ (x : Bytes). done G u out (with_key (function_of f) (record { 0 = x }) (sides_of u G))) (opens G q s)

  pub sealed_recovered : Recovered F p i j b k
  unfolding function_of
  sealed_recovered =
      record {
        received = λ G q out s n a. key_r G j out a _ k (loads G q out s as_r j i a sj si (means_r i j n));
        transmitted = λ G q out s n a. key_t G i out a _ k (loads G q out s as_t i j a si sj (means_t i j n));
        kept = λ G q out s e a. key_s G i out a _ k (loads G q out s as_s i j a si sj (means_s i j e));
      }

-- ---- the theorem

module _ (F : World) (i j p : ℕ) (bits out : Bytes) (x : Generates F i j p bits) where
  -- GDK gives the bits with parity set, enciphered under the interchange key notarized with (i, j)
  pub generated : Gives F (enciphered (notarized (current_key p F) i j) (parity_of bits)) out (step F (by i (GDK j p bits)) out)
  generated = gives (gdk F i out x.active x.small_i j p x.small_j x.current bits)

  -- and from that both get the key: the bits with parity set
  pub recovered : Recovered F p i j (step F (by i (GDK j p bits)) out).answered.block (parity_of bits)
  recovered =
      sealed_recovered F p i j x.small_i x.small_j _ (parity_of bits) (parity_octets bits x.bits_eight) generated.block

-- where GDK was accepted, its premises are met: they say no more than that
pub accepted_generates : (F : World) (i j p : ℕ) (bits out : Bytes) → Octets bits → Accepted F i (GDK j p bits) out → Generates F i j p bits
unfolding refusals big
accepted_generates F i j p bits out o done =
    let r1 = next (big_pair i j) 1 _ (λ z. omega arith) (accepted_first F i (GDK j p bits) out done) in
    let r3 = next _ 3 _ (λ z. omega arith) r1.1 in
    let r6 = next _ 6 0 (λ z. omega arith) r3.1 in
    let s = pair_small i j r1.0 in
    record {
      active = not_false _ r3.0;
      small_i = ltb-false 268435455 i s.0;
      small_j = ltb-false 268435455 j s.1;
      current = not_false _ r6.0;
      bits_eight = o;
    }
