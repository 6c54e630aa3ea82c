-- The same for oneself, by s: what i enciphers under a key that he made for himself, he deciphers.
use Rattle.std.specs.Prelude.{◌≡◌, refl, ℕ, length, take}
use Rattle.std.proofs.Common.{sym, subst}
use Rattle.cipher.specs.Cipher.{Way, ECB, CBC, CFB, enciphering, deciphering, enciphered, mode_text}
use Rattle.cipher.specs.declared.modes.Mode.{Mode}
use Rattle.cipher.specs.declared.modes.Mode.TheVariants.{Ecbe, Ecbd, Cbce, Cbcd, Cfbe, Cfbd}
use Rattle.keys.specs.Keys.{parity_of, notarized}
use Rattle.keys.proofs.Laws.{parity_octets}
use Rattle.state.specs.State.{Bytes}
use Rattle.rules.specs.World.{World}
use Rattle.rules.specs.Commands.{by, GDK, LDK, GIV, LIV, mode}
use Rattle.rules.specs.Step.{Done, Gave, Wrote, Result, step}
use Rattle.properties.specs.Held.{IsActive, IsSmall, as_s, HasCurrent, current_key, Brought, Loaded, Vectored}
use Rattle.properties.specs.Demand2.{Generates, Recovered}
use Rattle.properties.proofs.Demand2.{recovered}
use Rattle.properties.specs.Coded.{Equipped, Opened}
use Rattle.properties.proofs.Coded.{Sent, sent}
use Rattle.properties.proofs.Walk.{then_equipped, Walked, walked}

-- i makes a key of the bits for himself, and a vector of the seed, over the interchange p, at F; he enciphers the text, and deciphers it again
module _ (F : World) (i p : ℕ) (bits seed text out out' : Bytes) where
  pub record Premises : Type 0 where
    -- he is active, his identifier is at most 268435455, and the interchange has a current key
    pub user : IsActive i F
    pub small_i : IsSmall i
    pub current : HasCurrent p F
    -- bits and seed are eight bytes each; the text is whole blocks, one at least and at most 32768 bytes; each output has room for it
    pub brought : Brought bits seed text out out'

  module _ (E D : Mode) where
    -- ---- the run: six commands, each in the world that the one before left

    -- a key for himself, loaded as s; a vector, loaded as s; the text by E
    abbrev pub gdk : Result
    gdk = step F (by i (GDK i p bits)) out

    abbrev pub ldk_s : Result
    ldk_s = step gdk.world (by i (LDK i p as_s gdk.answered.block)) out

    abbrev pub giv : Result
    giv = step ldk_s.world (by i (GIV seed)) out

    abbrev pub liv_s : Result
    liv_s = step giv.world (by i (LIV as_s giv.answered.block)) out

    abbrev pub e : Result
    e = step liv_s.world (by i (mode E text)) out

    -- the cipher text: what his output then begins with; and that by D
    abbrev pub cipher : Bytes
    cipher = take (length text) e.answered.output

    abbrev pub d : Result
    d = step e.world (by i (mode D cipher)) out'

    -- ---- what comes of it

    pub record Kept : Type 0 where
      -- each command is done
      pub gdk_gives : gdk.answered.answer ≡ Gave 8
      pub ldk_s-done : ldk_s.answered.answer ≡ Done
      pub giv_gives : giv.answered.answer ≡ Gave 8
      pub liv_s-done : liv_s.answered.answer ≡ Done
      pub e_writes : e.answered.answer ≡ Wrote (length text)
      pub d_writes : d.answered.answer ≡ Wrote (length text)
      -- what he keeps: the bits with parity set, under the interchange key notarized with (i, i); the seed with parity set, under those bits;
      -- and the text by E, under those bits, from that seed
      pub key-sealed : gdk.answered.block ≡ enciphered (notarized (current_key p F) i i) (parity_of bits)
      pub vector-sealed : giv.answered.block ≡ enciphered (parity_of bits) (parity_of seed)
      pub text-sealed : cipher ≡ mode_text E (parity_of bits) (parity_of seed) text
      -- what he gets is the text
      pub delivered : take (length text) d.answered.output ≡ text

  -- ---- the proof

  module _ (x : Premises) where
    abbrev key : Bytes
    key = parity_of bits

    abbrev vector : Bytes
    vector = parity_of seed

    generates : Generates F i i p bits
    generates = record { active = x.user; small_i = x.small_i; small_j = x.small_i; current = x.current; bits_eight = x.brought.bits_eight }

    key-given : Recovered F p i i (step F (by i (GDK i p bits)) out).answered.block key
    key-given = recovered F i i p bits out generates

    -- up to the text; key and vector are on both sides
    at_F : Walked F i i p as_s bits seed out (Loaded key) (Vectored vector)
    at_F =
        walked F i i p as_s bits seed out (Loaded key) (Vectored vector) generates x.brought.seed_eight
        (λ W s a. key-given.kept W p out s refl a)
        (λ W b v a k. v.to_both W i out a x.small_i k)

    module _ (y : Way) where
      abbrev E : Mode
      E = enciphering y

      abbrev D : Mode
      D = deciphering y

      -- the text by E, which leaves the receive side
      coded : Sent y (liv_s E D).world i key vector text out
      coded = sent y (liv_s E D).world i key vector text out at_F.set.active x.small_i at_F.equipped x.brought.good_text x.brought.room

      opened : Opened y (e E D).world i text (cipher E D) out'
      opened =
          coded.opens (e E D).world i out' coded.active x.small_i
          (subst (Equipped key vector) (sym coded.to_receive) (then_equipped key vector at_F.keyed.to_receive at_F.set.to_receive))
          (parity_octets seed x.brought.seed_eight) x.brought.room'

      goes_through : Kept E D
      goes_through =
          record {
            gdk_gives = at_F.gave.answer;
            ldk_s-done = at_F.keyed.done;
            giv_gives = at_F.began.answer;
            liv_s-done = at_F.set.done;
            e_writes = coded.answer;
            d_writes = opened.answer;
            key-sealed = at_F.gave.block;
            vector-sealed = at_F.began.block;
            text-sealed = coded.cipher_is;
            delivered = opened.text_is;
          }

    -- by ECB, by CBC and by CFB
    pub kept : Kept Ecbe Ecbd × Kept Cbce Cbcd × Kept Cfbe Cfbd
    unfolding enciphering deciphering
    kept = (goes_through ECB, goes_through CBC, goes_through CFB)
