-- Demand 2 from end to end, in commands, replies and the bytes that go between: what i enciphers under a key that he made for j, j deciphers, at whatever facility he sits.
use Rattle.std.specs.Prelude.{ℕ}
use Rattle.cipher.specs.Cipher.{Way, ECB, CBC, CFB, enciphering, deciphering}
use Rattle.cipher.specs.declared.modes.Mode.{Mode}
use Rattle.cipher.specs.declared.modes.Mode.TheVariants.{Ecbe, Ecbd, Cbce, Cbcd, Cfbe, Cfbd}
use Rattle.keys.specs.Keys.{parity_of}
use Rattle.keys.proofs.Laws.{parity_octets}
use Rattle.state.specs.State.{Bytes}
use Rattle.rules.specs.World.{World}
use Rattle.rules.specs.Commands.{by, GDK}
use Rattle.rules.specs.Step.{Result, step}
use Rattle.properties.specs.Held.{as_t, GoodText, sides_of, Same, Loaded, Vectored, Leaves}
use Rattle.properties.specs.Demand2.{Generates, Recovered}
use Rattle.properties.proofs.Demand2.{recovered}
use Rattle.properties.proofs.Walk.{then_equipped, Walked, walked}
use Rattle.properties.specs.Coded.{Equipped, Opened}
use Rattle.properties.proofs.Coded.{Sent, sent}
use Rattle.properties.proofs.Valued.{value_t, value_r}
use Rattle.properties.specs.Delivered.{Premises, Delivered, cipher, liv_t, ldk_r, liv_r}

-- ---- the proof: demand 2 for the key, then for the vector, then the text

module _ (F G : World) (i j p q : ℕ) (bits seed text out out' : Bytes) (x : Premises F G i j p q bits seed text out out') where
  -- the run of these two at these facilities
  abbrev liv_t' : Mode → Mode → Result
  liv_t' = liv_t F G i j p q bits seed text out out'

  abbrev ldk_r' : Mode → Mode → Result
  ldk_r' = ldk_r F G i j p q bits seed text out out'

  abbrev liv_r' : Mode → Mode → Result
  liv_r' = liv_r F G i j p q bits seed text out out'

  abbrev cipher' : Mode → Mode → Bytes
  cipher' = cipher F G i j p q bits seed text out out'

  abbrev Delivered' : Mode → Mode → Type 0
  Delivered' = Delivered F G i j p q bits seed text out out'

  abbrev key : Bytes
  key = parity_of bits

  abbrev vector : Bytes
  vector = parity_of seed

  generates : Generates F i j p bits
  generates = record { active = x.sender; small_i = x.small_i; small_j = x.small_j; current = x.current; bits_eight = x.brought.bits_eight }

  key-given : Recovered F p i j (step F (by i (GDK j p bits)) out).answered.block key
  key-given = recovered F i j p bits out generates

  -- i's commands up to the text
  at_F : Walked F i j p as_t bits seed out Same Same
  at_F =
      walked F i j p as_t bits seed out Same Same generates x.brought.seed_eight
      (λ W s a. key-given.transmitted W p out s x.two a)
      (λ W b v a k. v.to_transmit W i out a x.small_i k)

  module _ (y : Way) where
    abbrev E : Mode
    E = enciphering y

    abbrev D : Mode
    D = deciphering y

    -- the text by E
    coded : Sent y (liv_t' E D).world i key vector text out
    coded = sent y (liv_t' E D).world i key vector text out at_F.set.active x.small_i at_F.equipped x.brought.good_text x.brought.room

    -- j's commands
    keyed : Leaves Same (Loaded key) j G (ldk_r' E D)
    keyed = key-given.received G q out' x.shared x.two x.receiver

    set : Leaves Same (Vectored vector) j (ldk_r' E D).world (liv_r' E D)
    set = at_F.one_vector.to_receive (ldk_r' E D).world j out' keyed.active x.small_j keyed.to_receive.key

    opened : Opened y (liv_r' E D).world j text (cipher' E D) out'
    opened =
        coded.opens (liv_r' E D).world j out' set.active x.small_j (then_equipped key vector keyed.to_receive set.to_receive)
        (parity_octets seed x.brought.seed_eight) x.brought.room'

    j_equipped : Equipped key vector (sides_of j (liv_r' E D).world).receive
    j_equipped = then_equipped key vector keyed.to_receive set.to_receive

    good : GoodText text
    good = x.brought.good_text

    goes_through : Delivered' E D
    goes_through =
        record {
          gdk_gives = at_F.gave.answer;
          ldk_t-done = at_F.keyed.done;
          giv_gives = at_F.began.answer;
          liv_t-done = at_F.set.done;
          e_writes = coded.answer;
          ldk_r-done = keyed.done;
          liv_r-done = set.done;
          d_writes = opened.answer;
          key-sealed = at_F.gave.block;
          vector-sealed = at_F.began.block;
          text-sealed = coded.cipher_is;
          text_back = opened.text_is;
          value_t = value_t (liv_t' E D).world i key vector text out at_F.set.active x.small_i good.some_bytes good.limit at_F.equipped;
          value_r = value_r (liv_r' E D).world j key vector text out' set.active x.small_j good.some_bytes good.limit j_equipped;
        }

  -- by ECB, by CBC and by CFB
  pub delivered : Delivered F G i j p q bits seed text out out' Ecbe Ecbd × Delivered F G i j p q bits seed text out out' Cbce Cbcd × Delivered F G i j p q bits seed text out out' Cfbe Cfbd
  unfolding enciphering deciphering
  delivered = (goes_through ECB, goes_through CBC, goes_through CFB)
