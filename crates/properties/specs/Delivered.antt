-- Demand 2 from end to end, in commands, replies and the bytes that go between: what i enciphers under a key that he made for j, j deciphers, at whatever facility he sits.
use Rattle.std.specs.Prelude.{◌≡◌, ℕ, length, take}
use Rattle.cipher.specs.Cipher.{enciphered, mode_text, fixity}
use Rattle.cipher.specs.declared.modes.Mode.{Mode}
use Rattle.keys.specs.Keys.{parity_of, notarized}
use Rattle.state.specs.State.{Bytes}
use Rattle.rules.specs.World.{World}
use Rattle.rules.specs.Commands.{by, GDK, LDK, GIV, LIV, DAUT, mode}
use Rattle.rules.specs.Step.{Done, Gave, Wrote, Result, step}
use Rattle.properties.specs.Held.{IsActive, IsSmall, as_t, as_r, HasCurrent, current_key, SharedKey, Brought, Gives}

-- i sits at F, j at G. i makes a key of the bits and a vector of the seed, over the interchange that F calls p and G calls q, and sends the text
module _ (F G : World) (i j p q : ℕ) (bits seed text out out' : Bytes) where
  pub record Premises : Type 0 where
    -- each is active where he sits; they are two, and their identifiers are at most 268435455
    pub sender : IsActive i F
    pub receiver : IsActive j G
    pub two : i ≡ j → ⊥
    pub small_i : IsSmall i
    pub small_j : IsSmall j
    -- the interchange has a current key at F, and at G the same, but for parity bits perhaps
    pub current : HasCurrent p F
    pub shared : SharedKey F p G q
    -- bits and seed are eight bytes each; the text is whole blocks, one at least and at most 32768 bytes; each output has room for it
    pub brought : Brought bits seed text out out'

  module _ (E D : Mode) where
    -- ---- the run

    -- at F i's five commands, each in the world that the one before left: a key for j, loaded as t; a vector, loaded as t; the text by E
    abbrev pub gdk : Result
    gdk = step F (by i (GDK j p bits)) out

    abbrev pub key-block : Bytes
    key-block = gdk.answered.block

    abbrev pub ldk_t : Result
    ldk_t = step gdk.world (by i (LDK j p as_t key-block)) out

    abbrev pub giv : Result
    giv = step ldk_t.world (by i (GIV seed)) out

    abbrev pub vector-block : Bytes
    vector-block = giv.answered.block

    abbrev pub liv_t : Result
    liv_t = step giv.world (by i (LIV as_t vector-block)) out

    abbrev pub e : Result
    e = step liv_t.world (by i (mode E text)) out

    -- the cipher text: what i's output then begins with
    abbrev pub cipher : Bytes
    cipher = take (length text) e.answered.output

    -- at G j's three: the key, loaded as r, naming i; the vector, loaded as r; the cipher text by D
    abbrev pub ldk_r : Result
    ldk_r = step G (by j (LDK i q as_r key-block)) out'

    abbrev pub liv_r : Result
    liv_r = step ldk_r.world (by j (LIV as_r vector-block)) out'

    abbrev pub d : Result
    d = step liv_r.world (by j (mode D cipher)) out'

    -- ---- what comes of it

    pub record Delivered : Type 0 where
      -- each command is done
      pub gdk_gives : gdk.answered.answer ≡ Gave 8
      pub ldk_t-done : ldk_t.answered.answer ≡ Done
      pub giv_gives : giv.answered.answer ≡ Gave 8
      pub liv_t-done : liv_t.answered.answer ≡ Done
      pub e_writes : e.answered.answer ≡ Wrote (length text)
      pub ldk_r-done : ldk_r.answered.answer ≡ Done
      pub liv_r-done : liv_r.answered.answer ≡ Done
      pub d_writes : d.answered.answer ≡ Wrote (length text)
      -- what goes from F to G: the bits with parity set, under the interchange key notarized with (i, j); the seed with parity set, under those bits;
      -- and the text by E, under those bits, from that seed
      pub key-sealed : key-block ≡ enciphered (notarized (current_key p F) i j) (parity_of bits)
      pub vector-sealed : vector-block ≡ enciphered (parity_of bits) (parity_of seed)
      pub text-sealed : cipher ≡ mode_text E (parity_of bits) (parity_of seed) text
      -- what j gets is the text
      pub text_back : take (length text) d.answered.output ≡ text
      -- and its fixity value, taken before it is enciphered and before it is deciphered, is one for both: under those bits, from that seed, over the plain text
      pub value_t : Gives liv_t.world (fixity (parity_of bits) (parity_of seed) text) out (step liv_t.world (by i (DAUT as_t text)) out)
      pub value_r : Gives liv_r.world (fixity (parity_of bits) (parity_of seed) text) out' (step liv_r.world (by j (DAUT as_r text)) out')
