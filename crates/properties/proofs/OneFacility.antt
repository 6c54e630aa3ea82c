-- `Delivered` where sender and receiver sit at one facility: one run, i's five commands and then j's three.
use Rattle.std.specs.Prelude.{◌≡◌, ℕ}
use Rattle.std.proofs.Common.{sym, ap, ◌∙◌}
use Rattle.cipher.specs.declared.modes.Mode.{Mode}
use Rattle.cipher.specs.declared.modes.Mode.TheVariants.{Ecbe, Ecbd, Cbce, Cbcd, Cfbe, Cfbd}
use Rattle.keys.specs.Keys.{parity_of}
use Rattle.state.specs.State.{Bytes, find, key_at}
use Rattle.state.specs.State.{seat_of}
use Rattle.rules.specs.World.{World}
use Rattle.properties.proofs.Others.{others_stay, keys_stay}
use Rattle.properties.specs.Delivered.{Premises, e, Delivered}
use Rattle.properties.proofs.Delivered.{delivered}

-- the interchange may have two names there, p and q
module _ (F : World) (i j p q : ℕ) (bits seed text out out' : Bytes) where
  -- the world after i's five commands, of which the fifth is E
  abbrev pub after : Mode → World
  after E = (e F F i j p q bits seed text out out' E E).world

  -- where j goes on from there, the text is delivered
  abbrev pub Through : Mode → Mode → Type 0
  Through E D = Delivered F (after E) i j p q bits seed text out out' E D

  module _ (x : Premises F F i j p q bits seed text out out') where
    -- j's place is as it was, and so are the interchange keys
    place_stays : (E : Mode) → find j (after E).facility.places ≡ find j F.facility.places
    place_stays E =
        let n : j ≡ i → ⊥ = λ z. x.two (sym z) in
        others_stay _ i _ out j n ∙ others_stay _ i _ out j n ∙ others_stay _ i _ out j n ∙ others_stay _ i _ out j n ∙ others_stay F i _ out j n

    same_keys : (E : Mode) → (after E).facility.current_keys ≡ F.facility.current_keys
    same_keys E = keys_stay _ i _ out ∙ keys_stay _ i _ out ∙ keys_stay _ i _ out ∙ keys_stay _ i _ out ∙ keys_stay F i _ out

    met : (E : Mode) → Premises F (after E) i j p q bits seed text out out'
    met E =
        record {
          sender = x.sender;
          receiver = ap (λ s. (seat_of s).active) (place_stays E) ∙ x.receiver;
          two = x.two;
          small_i = x.small_i;
          small_j = x.small_j;
          current = x.current;
          shared =
              record {
                current = ap (λ l. (key_at q l).present) (same_keys E) ∙ x.shared.current;
                alike = ap (λ l. parity_of (key_at q l).value.0) (same_keys E) ∙ x.shared.alike;
              };
          brought = x.brought;
        }

    pub in_one_run : Through Ecbe Ecbd × Through Cbce Cbcd × Through Cfbe Cfbd
    in_one_run = (
      (delivered F (after Ecbe) i j p q bits seed text out out' (met Ecbe)).0,
      (delivered F (after Cbce) i j p q bits seed text out out' (met Cbce)).1,
      (delivered F (after Cfbe) i j p q bits seed text out out' (met Cfbe)).2,
    )
