-- Demand 2: a D command gives back what the E command made, across two facilities; DAUT has one value for sender and receiver.
use Rattle.std.specs.Prelude.{◌≡◌, not, ◌++◌, ℕ, zero, suc, ◌*◌, ◌/◌, ◌%◌, ◌≤◌, length, drop}
use Rattle.std.proofs.Common.{sym, ◌∙◌, subst, arith, lit<, length-drop, take-append-drop, take_at, length-take-le, le-ltb}
use Rattle.std.proofs.Math.Path.{ap, ap₂}
use Rattle.std.specs.Prelude.{Option, Some}
use Rattle.std.proofs.Math.ListN.{take}
use Rattle.cipher.specs.Cipher.{Octets, Whole, Way, ECB, CBC, CFB, enciphering, deciphering, enciphered, mode_text, mode_vector, fixity, onto}
use Rattle.cipher.specs.declared.modes.Mode.{Mode}
use Rattle.cipher.specs.declared.modes.Mode.TheVariants.{Ecbe}
use Rattle.cipher.proofs.Promise.{mode_text-length, mode_text_whole, mode_text_join, mode_text_ecbe, mode_text_back, mode_vector_back, mode_vector_octets}
use Rattle.ground.specs.Lists.{Below, none, below_take, below_drop}
use Rattle.state.specs.declared.Holdings.{Holdings}
use Rattle.state.specs.State.{Bytes, find}
use Rattle.state.specs.State.{seat_of}
use Rattle.rules.specs.World.{World}
use Rattle.rules.specs.Sides.{mode_side, side_for, function_of}
use Rattle.rules.specs.Refusals.{bad_blocks}
use Rattle.rules.specs.Commands.{by, mode, DAUT, effect}
use Rattle.rules.specs.Step.{Wrote, step, plain}
use Rattle.rules.proofs.Laws.{good_blocks}
use Rattle.properties.specs.Steps.{Accepted}
use Rattle.properties.proofs.Steps.{accepted_first, done-step, put-own}
use Rattle.properties.specs.Calls.{vector_of, held}
use Rattle.properties.proofs.Calls.{Conditions, conditions, accepted, left_world, key_stays, vector_there, vector-left, some_bytes}
use Rattle.properties.specs.Texts.{Agree, InStep, Ready}

-- ---- what an accepted mode command writes

module _ (F : World) (u : ℕ) (m : Mode) (d out : Bytes) (h : Holdings) (active : find u F.facility.places ≡ Some h) (done : Accepted F u (mode m d) out) where
  pub whole : length d % 8 ≡ 0
  whole = good_blocks (length d) (conditions F u m d out h active done).blocks

  unfoldable pub text : Bytes
  text = mode_text m (mode_side m h).key.value.0 (mode_side m h).vector.value.0 d

  text-length : length text ≡ length d
  unfolding text
  text-length = mode_text-length m (mode_side m h).key.value.0 (mode_side m h).vector.value.0 d whole

  -- its whole answer: it wrote as many bytes as the data has, which are the mode's text over the first bytes of the output, and the reply has none
  pub wrote : (step F (by u (mode m d)) out).answered ≡ plain (Wrote (length d)) (onto text out)
  unfolding effect seat_of text
  wrote =
      ap (λ r. r.answered) (done-step F u (mode m d) out (accepted_first F u (mode m d) out done))
      ∙ ap (λ (s : Option Holdings). let t = mode_text m (mode_side m (seat_of s).holdings).key.value.0 (mode_side m (seat_of s).holdings).vector.value.0 d in plain (Wrote (length t)) (onto t out)) active
      ∙ ap (λ (n : ℕ). plain (Wrote n) (onto text out)) text-length

  -- its first bytes, as many as the data's, are the mode's text
  pub written : take (length d) (step F (by u (mode m d)) out).answered.output ≡ text
  written = ap (λ r. take (length d) r.output) wrote ∙ take_at text _ (length d) text-length

-- ---- ECB: the vector plays no part

-- a text of one block and more
module _ (k t : Bytes) (long : 8 ≤ length t) (bytes : Below 256 t) where
  first_block : Octets (take 8 t)
  first_block = record { eight = length-take-le 8 t long; small = below_take 256 8 t (lit< tt) bytes }

  first_whole : Whole (take 8 t)
  first_whole = record { blocks = ap (λ (n : ℕ). n % 8) first_block.eight; small = first_block.small }

  ecb_first : (v : Bytes) → Octets v → mode_text Ecbe k v t ≡ enciphered k (take 8 t) ++ mode_text Ecbe k (mode_vector Ecbe k v (take 8 t)) (drop 8 t)
  ecb_first v o =
      ap (mode_text Ecbe k v) (sym (take-append-drop 8 t))
      ∙ mode_text_join Ecbe k v (take 8 t) (drop 8 t) o first_whole
      ∙ ap (λ (b : Bytes). b ++ mode_text Ecbe k (mode_vector Ecbe k v (take 8 t)) (drop 8 t)) (mode_text_ecbe k v (take 8 t) first_block)

ecb_alike : (n : ℕ) (k v v' t : Bytes) → length t ≡ n * 8 → Below 256 t → Octets v → Octets v' → mode_text Ecbe k v t ≡ mode_text Ecbe k v' t
ecb_alike zero k v v' t l b o o' =
    let w : length t % 8 ≡ 0 = ap (λ (n : ℕ). n % 8) l in
    none (mode_text Ecbe k v t) (mode_text-length Ecbe k v t w ∙ l) ∙ sym (none (mode_text Ecbe k v' t) (mode_text-length Ecbe k v' t w ∙ l))
ecb_alike (suc n) k v v' t l b o o' =
    let long : 8 ≤ length t = omega arith in
    ecb_first k t long b v o
    ∙ ap (λ (r : Bytes). enciphered k (take 8 t) ++ r)
    (ecb_alike n k _ _ (drop 8 t) (omega (arith, length-drop 8 t)) (below_drop 256 8 t b) (mode_vector_octets Ecbe k v (take 8 t)) (mode_vector_octets Ecbe k v' (take 8 t)))
    ∙ sym (ecb_first k t long b v' o')

-- from vectors that agree E makes the same text, and D, of that text, leaves a vector that agrees
module _ (k v v' t : Bytes) (o : Octets v) (o' : Octets v') (u : Whole t) where
  text_alike : (w : Way) → Agree w v v' → mode_text (enciphering w) k v t ≡ mode_text (enciphering w) k v' t
  unfolding enciphering
  text_alike ECB e = ecb_alike (length t / 8) k v v' t (omega (arith, u.blocks)) u.small o o'
  text_alike CBC e = ap (λ (x : Bytes). mode_text (enciphering CBC) k x t) e
  text_alike CFB e = ap (λ (x : Bytes). mode_text (enciphering CFB) k x t) e

  text_back : (w : Way) → Agree w v v' → mode_text (deciphering w) k v' (mode_text (enciphering w) k v t) ≡ t
  text_back w e = ap (mode_text (deciphering w) k v') (text_alike w e) ∙ mode_text_back w k v' t o' u

  vector_alike : (w : Way) → Agree w v v' → Agree w (mode_vector (enciphering w) k v t) (mode_vector (deciphering w) k v' (mode_text (enciphering w) k v t))
  vector_alike ECB e = tt
  vector_alike CBC e = sym (ap (λ (x : Bytes). mode_vector (deciphering CBC) k x (mode_text (enciphering CBC) k v t)) (sym e) ∙ mode_vector_back CBC k v t o u)
  vector_alike CFB e = sym (ap (λ (x : Bytes). mode_vector (deciphering CFB) k x (mode_text (enciphering CFB) k v t)) (sym e) ∙ mode_vector_back CFB k v t o u)

-- ---- back again

-- a, who holds h at F, enciphers the data d; b, who holds g at G, is ready to decipher, and his output has room
module _ (w : Way) (F G : World) (a b : ℕ) (d out out' : Bytes) (h g : Holdings)
    (sender : find a F.facility.places ≡ Some h) (receiver : find b G.facility.places ≡ Some g)
    (sides : InStep w h g) (bytes : Below 256 d)
    (sent : Accepted F a (mode (enciphering w) d) out) (ready : Ready (deciphering w) b g) (room : length d ≤ length out') where
  abbrev e-key : Bytes
  e-key = (mode_side (enciphering w) h).key.value.0

  abbrev e-vector : Bytes
  e-vector = (mode_side (enciphering w) h).vector.value.0

  abbrev d-vector : Bytes
  d-vector = (mode_side (deciphering w) g).vector.value.0

  -- what the E command wrote
  pub cipher : Bytes
  cipher = take (length d) (step F (by a (mode (enciphering w) d)) out).answered.output

  cipher_is : cipher ≡ mode_text (enciphering w) e-key e-vector d
  unfolding cipher text
  cipher_is = written F a (enciphering w) d out h sender sent

  data_whole : Whole d
  data_whole = record { blocks = whole F a (enciphering w) d out h sender sent; small = bytes }

  same_length : length cipher ≡ length d
  same_length = ap length cipher_is ∙ mode_text-length (enciphering w) e-key e-vector d data_whole.blocks

  e_conditions : Conditions F a (enciphering w) d out h sender
  e_conditions = conditions F a (enciphering w) d out h sender sent

  d_conditions : Conditions G b (deciphering w) cipher out' g receiver
  d_conditions =
      record {
        small = ready.small;
        key = ap not ready.key;
        vector = ready.vector;
        blocks = ap bad_blocks same_length ∙ e_conditions.blocks;
        room = le-ltb (length out') (length cipher) (omega (arith, same_length, room));
      }

  -- the D command is accepted
  pub taken : Accepted G b (mode (deciphering w) cipher) out'
  taken = accepted G b (deciphering w) cipher out' g receiver d_conditions

  -- and gives back the data
  pub given_back : take (length d) (step G (by b (mode (deciphering w) cipher)) out').answered.output ≡ d
  unfolding text
  given_back =
      ap (λ (n : ℕ). take n (step G (by b (mode (deciphering w) cipher)) out').answered.output) (sym same_length)
      ∙ written G b (deciphering w) cipher out' g receiver taken
      ∙ ap₂ (λ (k c : Bytes). mode_text (deciphering w) k d-vector c) (sym sides.key) cipher_is
      ∙ text_back e-key e-vector d-vector d sides.sender sides.receiver data_whole w sides.vector

  -- ---- afterwards

  abbrev pub h_then : Holdings
  h_then = held (enciphering w) h d

  abbrev pub g_then : Holdings
  g_then = held (deciphering w) g cipher

  sender_then : find a (step F (by a (mode (enciphering w) d)) out).world.facility.places ≡ Some h_then
  sender_then = ap (λ (x : World). find a x.facility.places) (left_world F a (enciphering w) d out h sender e_conditions) ∙ put-own a h h_then F.facility.places sender

  receiver_then : find b (step G (by b (mode (deciphering w) cipher)) out').world.facility.places ≡ Some g_then
  receiver_then = ap (λ (x : World). find b x.facility.places) (left_world G b (deciphering w) cipher out' g receiver d_conditions) ∙ put-own b g g_then G.facility.places receiver

  e-left : (mode_side (enciphering w) h_then).vector.value.0 ≡ mode_vector (enciphering w) e-key e-vector d
  e-left = vector-left h d data_whole (omega (arith, some_bytes (length d) e_conditions.blocks)) (enciphering w) sides.sender

  d-left : (mode_side (deciphering w) g_then).vector.value.0 ≡ mode_vector (deciphering w) (mode_side (deciphering w) g).key.value.0 d-vector cipher
  d-left =
      let Some : length cipher ≡ 0 → ⊥ = some_bytes (length cipher) d_conditions.blocks in
      vector-left g cipher (subst Whole (sym cipher_is) (mode_text_whole (enciphering w) e-key e-vector d)) (omega (arith, Some)) (deciphering w) sides.receiver

  in_step : InStep w h_then g_then
  in_step =
      record {
        key =
            ap (λ k. k.value.0) (key_stays h (vector_of (enciphering w) h d) (enciphering w))
            ∙ sides.key
            ∙ sym (ap (λ k. k.value.0) (key_stays g (vector_of (deciphering w) g cipher) (deciphering w)));
        vector =
            subst (Agree w (mode_side (enciphering w) h_then).vector.value.0)
            (sym (d-left ∙ ap₂ (λ (k c : Bytes). mode_vector (deciphering w) k d-vector c) (sym sides.key) cipher_is))
            (subst (λ (v : Bytes). Agree w v (mode_vector (deciphering w) e-key d-vector (mode_text (enciphering w) e-key e-vector d))) (sym e-left)
            (vector_alike e-key e-vector d-vector d sides.sender sides.receiver data_whole w sides.vector));
        sender = subst Octets (sym e-left) (mode_vector_octets (enciphering w) e-key e-vector d);
        receiver = subst Octets (sym d-left) (mode_vector_octets (deciphering w) (mode_side (deciphering w) g).key.value.0 d-vector cipher);
      }

  -- after both calls the two sides are in step again, and the receiver ready, so that the next record goes through as well
  pub again : (find a (step F (by a (mode (enciphering w) d)) out).world.facility.places ≡ Some h_then)
      × (find b (step G (by b (mode (deciphering w) cipher)) out').world.facility.places ≡ Some g_then)
      × InStep w h_then g_then × Ready (deciphering w) b g_then
  again = (
    sender_then,
    receiver_then,
    in_step,
    record {
      small = ready.small;
      key = ap (λ k. k.present) (key_stays g (vector_of (deciphering w) g cipher) (deciphering w)) ∙ ready.key;
      vector = vector_there g (vector_of (deciphering w) g cipher) (deciphering w) ready.vector;
    },
  )

-- ---- one fixity value

fixity-given : (F : World) (u f : ℕ) (d out : Bytes) (h : Holdings) → find u F.facility.places ≡ Some h → Accepted F u (DAUT f d) out
    → (step F (by u (DAUT f d)) out).answered.block ≡ fixity (side_for (function_of f) h).key.value.0 (side_for (function_of f) h).vector.value.0 d
unfolding effect seat_of
fixity-given F u f d out h active done =
    ap (λ r. r.answered.block) (done-step F u (DAUT f d) out (accepted_first F u (DAUT f d) out done))
    ∙ ap (λ (s : Option Holdings). fixity (side_for (function_of f) (seat_of s).holdings).key.value.0 (side_for (function_of f) (seat_of s).holdings).vector.value.0 d) active

-- the sender's as t, the receiver's as r: over the plain record d, where the sides hold the same key and vector
pub one_value : (F G : World) (a b : ℕ) (d out out' : Bytes) (h g : Holdings) → find a F.facility.places ≡ Some h → find b G.facility.places ≡ Some g
    → h.transmit.key.value.0 ≡ g.receive.key.value.0 → h.transmit.vector.value.0 ≡ g.receive.vector.value.0
    → Accepted F a (DAUT 0x74 d) out → Accepted G b (DAUT 0x72 d) out'
    → (step F (by a (DAUT 0x74 d)) out).answered.block ≡ (step G (by b (DAUT 0x72 d)) out').answered.block
unfolding function_of side_for
one_value F G a b d out out' h g x y k v p q =
    fixity-given F a 0x74 d out h x p ∙ ap₂ (λ (i j : Bytes). fixity i j d) k v ∙ sym (fixity-given G b 0x72 d out' g y q)
