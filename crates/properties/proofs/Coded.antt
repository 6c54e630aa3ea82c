-- Two users have one key and one vector, one of them to transmit, the other to receive: what E writes for the one, and that D gives it back to the other.
use Rattle.std.specs.Prelude.{◌≡◌, refl, true, false, not, ℕ, ◌≤◌, length, take}
use Rattle.std.proofs.Common.{sym, ◌∙◌, subst, arith, le-ltb}
use Rattle.std.proofs.Math.Path.{ap, ap₂}
use Rattle.std.specs.Prelude.{Some}
use Rattle.cipher.specs.Cipher.{Octets, Way, ECB, CBC, CFB, enciphering, deciphering, mode_text}
use Rattle.cipher.specs.declared.keys.Vector.{Vector}
use Rattle.cipher.specs.declared.modes.Mode.{Mode}
use Rattle.cipher.specs.declared.modes.Mode.TheVariants.{Ecbe, Ecbd, Cbce, Cbcd, Cfbe, Cfbd}
use Rattle.cipher.proofs.Promise.{mode_text-length, mode_text_back}
use Rattle.state.specs.declared.Holdings.{Holdings}
use Rattle.state.specs.State.{Bytes, find}
use Rattle.state.specs.State.{seat_of}
use Rattle.rules.specs.World.{World}
use Rattle.rules.specs.Sides.{mode_side, after_mode, with_vector, lacks_vector}
use Rattle.rules.specs.Refusals.{bad_blocks}
use Rattle.rules.specs.Commands.{by, mode}
use Rattle.rules.specs.Step.{Wrote, Result, step}
use Rattle.properties.proofs.Steps.{put-own}
use Rattle.properties.specs.Calls.{vector_of, held}
use Rattle.properties.proofs.Calls.{Conditions, accepted, left_world}
use Rattle.properties.proofs.Texts.{text, wrote, written}
use Rattle.properties.proofs.Joined.{good}
use Rattle.properties.specs.Held.{IsActive, IsSmall, sides_of, GoodText}
use Rattle.properties.proofs.Others.{has_place}
use Rattle.properties.proofs.Loads.{small}
use Rattle.properties.specs.Coded.{Equipped, Opened}

-- ---- one call

has-vector : (m : Mode) → lacks_vector m true ≡ false
unfolding lacks_vector
has-vector Ecbe = refl
has-vector Ecbd = refl
has-vector Cbce = refl
has-vector Cbcd = refl
has-vector Cfbe = refl
has-vector Cfbd = refl

module _ (w : World) (u : ℕ) (m : Mode) (k v t out : Bytes) (active : IsActive u w) (su : IsSmall u) (side : Equipped k v (mode_side m (sides_of u w)))
    (blocks : bad_blocks (length t) ≡ false) (room : length t ≤ length out) where
  place : find u w.facility.places ≡ Some (sides_of u w)
  place = has_place (find u w.facility.places) active

  call : Conditions w u m t out (sides_of u w) place
  call =
      record {
        small = small u su;
        key = ap (λ x. not x.present) side.key;
        vector = ap (λ x. lacks_vector m x.present) side.vector ∙ has-vector m;
        blocks = blocks;
        room = le-ltb (length out) (length t) room;
      }

  answers : (step w (by u (mode m t)) out).answered.answer ≡ Wrote (length t)
  answers = ap (λ x. x.answer) (wrote w u m t out (sides_of u w) place (accepted w u m t out (sides_of u w) place call))

  writes : take (length t) (step w (by u (mode m t)) out).answered.output ≡ mode_text m k v t
  unfolding text
  writes =
      written w u m t out (sides_of u w) place (accepted w u m t out (sides_of u w) place call)
      ∙ ap₂ (λ x y. mode_text m x.value.0 y.value.0 t) side.key side.vector

  -- what u holds after it
  left_place : find u (step w (by u (mode m t)) out).world.facility.places ≡ Some (held m (sides_of u w) t)
  left_place =
      ap (λ (x : World). find u x.facility.places) (left_world w u m t out (sides_of u w) place call)
      ∙ put-own u (sides_of u w) (held m (sides_of u w) t) w.facility.places place

-- ---- E by the transmit side, D by the receive side

e_side : (y : Way) (h : Holdings) → mode_side (enciphering y) h ≡ h.transmit
unfolding mode_side enciphering
e_side ECB h = refl
e_side CBC h = refl
e_side CFB h = refl

d_side : (y : Way) (h : Holdings) → mode_side (deciphering y) h ≡ h.receive
unfolding mode_side deciphering
d_side ECB h = refl
d_side CBC h = refl
d_side CFB h = refl

-- E leaves the receive side
e-leaves : (y : Way) (x : Vector) (h : Holdings) → (after_mode (enciphering y) x h).receive ≡ h.receive
unfolding after_mode with_vector enciphering
e-leaves ECB x h = refl
e-leaves CBC x h = refl
e-leaves CFB x h = refl

-- i at W has k and v to transmit: what E writes of the text t, and what it leaves
module _ (y : Way) (W : World) (i : ℕ) (k v t out : Bytes) where
  abbrev e : Result
  e = step W (by i (mode (enciphering y) t)) out

  abbrev cipher : Bytes
  cipher = take (length t) e.answered.output

  pub record Sent : Type 0 where
    pub answer : e.answered.answer ≡ Wrote (length t)
    pub cipher_is : cipher ≡ mode_text (enciphering y) k v t
    pub active : IsActive i e.world
    pub to_receive : (sides_of i e.world).receive ≡ (sides_of i W).receive
    -- whoever has k and v to receive gets it back
    pub opens : (W' : World) (j : ℕ) (out' : Bytes) → IsActive j W' → IsSmall j → Equipped k v (sides_of j W').receive → Octets v → length t ≤ length out'
        → Opened y W' j t cipher out'

  module _ (active : IsActive i W) (si : IsSmall i) (sender : Equipped k v (sides_of i W).transmit) (good_text : GoodText t)
      (room : length t ≤ length out) where
    blocks : bad_blocks (length t) ≡ false
    blocks = good (length t) (λ z. omega (arith, good_text.some_bytes)) good_text.limit good_text.whole.blocks

    e_equipped : Equipped k v (mode_side (enciphering y) (sides_of i W))
    e_equipped = subst (Equipped k v) (sym (e_side y (sides_of i W))) sender

    written_is : cipher ≡ mode_text (enciphering y) k v t
    written_is = writes W i (enciphering y) k v t out active si e_equipped blocks room

    place_then : find i e.world.facility.places ≡ Some (held (enciphering y) (sides_of i W) t)
    place_then = left_place W i (enciphering y) k v t out active si e_equipped blocks room

    same_length : length cipher ≡ length t
    same_length = ap length written_is ∙ mode_text-length (enciphering y) k v t good_text.whole.blocks

    module _ (W' : World) (j : ℕ) (out' : Bytes) (active' : IsActive j W') (sj : IsSmall j) (receiver : Equipped k v (sides_of j W').receive) (o : Octets v)
        (room' : length t ≤ length out') where
      blocks' : bad_blocks (length cipher) ≡ false
      blocks' = ap bad_blocks same_length ∙ blocks

      fits : length cipher ≤ length out'
      fits = omega (arith, same_length, room')

      d_equipped : Equipped k v (mode_side (deciphering y) (sides_of j W'))
      d_equipped = subst (Equipped k v) (sym (d_side y (sides_of j W'))) receiver

      back : take (length t) (step W' (by j (mode (deciphering y) cipher)) out').answered.output ≡ t
      back =
          ap (λ (n : ℕ). take n (step W' (by j (mode (deciphering y) cipher)) out').answered.output) (sym same_length)
          ∙ writes W' j (deciphering y) k v cipher out' active' sj d_equipped blocks' fits
          ∙ ap (mode_text (deciphering y) k v) written_is
          ∙ mode_text_back y k v t o good_text.whole

      opened : Opened y W' j t cipher out'
      opened = record { answer = answers W' j (deciphering y) k v cipher out' active' sj d_equipped blocks' fits ∙ ap Wrote same_length; text_is = back }

    pub sent : Sent
    unfolding seat_of
    sent =
        record {
          answer = answers W i (enciphering y) k v t out active si e_equipped blocks room;
          cipher_is = written_is;
          active = ap (λ x. (seat_of x).active) place_then;
          to_receive = ap (λ x. (seat_of x).holdings.receive) place_then ∙ e-leaves y (vector_of (enciphering y) (sides_of i W) t) (sides_of i W);
          opens = opened;
        }
