-- The sender's way to a key and a vector, by GDK, LDK, GIV, LIV: walked once for whoever loads as t, to transmit, and for whoever loads as s, on both sides.
use Rattle.std.specs.Prelude.{◌≡◌, refl, ℕ}
use Rattle.std.proofs.Common.{sym, ◌∙◌, subst}
use Rattle.cipher.specs.Cipher.{Octets, enciphered}
use Rattle.keys.specs.Keys.{parity_of, notarized}
use Rattle.state.specs.declared.Side.{Side}
use Rattle.state.specs.State.{Bytes}
use Rattle.rules.specs.World.{World}
use Rattle.rules.specs.Commands.{by, GDK, LDK, GIV, LIV}
use Rattle.rules.specs.Step.{Result, step}
use Rattle.properties.specs.Held.{IsActive, sides_of, held_key, current_key, SharedKey, Gives, Loaded, Vectored, Leaves}
use Rattle.properties.specs.Demand2.{Generates}
use Rattle.properties.proofs.Demand2.{generated}
use Rattle.properties.specs.Vectors.{OneVector}
use Rattle.properties.proofs.Vectors.{given}
use Rattle.properties.specs.Coded.{Equipped}

-- a side that was loaded with a key, and then got a vector, is equipped
pub then_equipped : {a b c : Side} (k v : Bytes) → Loaded k a b → Vectored v b c → Equipped k v c
then_equipped k v l s = record { key = s.key ∙ l.key; vector = s.vector }

-- i loads by f; R and R' say what becomes of his receive side by LDK and by LIV
module _ (F : World) (i j p f : ℕ) (bits seed out : Bytes) (R R' : Side → Side → Type 0) where
  abbrev key : Bytes
  key = parity_of bits

  abbrev vector : Bytes
  vector = parity_of seed

  abbrev gdk : Result
  gdk = step F (by i (GDK j p bits)) out

  abbrev ldk : Result
  ldk = step gdk.world (by i (LDK j p f gdk.answered.block)) out

  abbrev giv : Result
  giv = step ldk.world (by i (GIV seed)) out

  abbrev liv : Result
  liv = step giv.world (by i (LIV f giv.answered.block)) out

  -- GIV alters nothing, so that LIV follows LDK
  pub record Walked : Type 0 where
    pub gave : Gives F (enciphered (notarized (current_key p F) i j) key) out gdk
    pub keyed : Leaves (Loaded key) R i gdk.world ldk
    pub began : Gives ldk.world (enciphered key vector) out giv
    pub set : Leaves (Vectored vector) R' i ldk.world liv
    -- what GIV gave is worth the vector to others too, and i is equipped to transmit
    pub one_vector : OneVector key giv.answered.block vector
    pub equipped : Equipped key vector (sides_of i liv.world).transmit

  -- by f, GDK's block and any block that is worth the vector are loaded to transmit, wherever i is active
  module _ (x : Generates F i j p bits) (o : Octets seed)
      (by-ldk : (W : World) → SharedKey F p W p → IsActive i W → Leaves (Loaded key) R i W (step W (by i (LDK j p f gdk.answered.block)) out))
      (by-liv : (W : World) (b : Bytes) → OneVector key b vector → IsActive i W → (sides_of i W).transmit.key ≡ held_key key
      → Leaves (Vectored vector) R' i W (step W (by i (LIV f b)) out)) where
    after-gdk : Gives F (enciphered (notarized (current_key p F) i j) key) out gdk
    after-gdk = generated F i j p bits out x

    after-ldk : Leaves (Loaded key) R i gdk.world ldk
    after-ldk =
        let same : F ≡ gdk.world = sym after-gdk.world in
        let own : SharedKey F p F p = record { current = x.current; alike = refl } in
        by-ldk gdk.world (subst (λ (w : World). SharedKey F p w p) same own) (subst (IsActive i) same x.active)

    after-giv : Gives ldk.world (enciphered key vector) out giv × OneVector key giv.answered.block vector
    after-giv = given ldk.world i key out after-ldk.active x.small_i after-ldk.to_transmit.key seed o

    after-liv : Leaves (Vectored vector) R' i ldk.world liv
    after-liv =
        let same : ldk.world ≡ giv.world = sym after-giv.0.world in
        subst (λ (w : World). Leaves (Vectored vector) R' i w liv) after-giv.0.world
        (by-liv giv.world giv.answered.block after-giv.1 (subst (IsActive i) same after-ldk.active)
        (subst (λ (w : World). (sides_of i w).transmit.key ≡ held_key key) same after-ldk.to_transmit.key))

    pub walked : Walked
    walked =
        record {
          gave = after-gdk;
          keyed = after-ldk;
          began = after-giv.0;
          set = after-liv;
          one_vector = after-giv.1;
          equipped = then_equipped key vector after-ldk.to_transmit after-liv.to_transmit;
        }
