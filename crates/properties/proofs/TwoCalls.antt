-- "After CBC or CFB that side's IV is the last cipher block, so two calls equal one call on the joined data where that is at most 32768 bytes": the same
-- reply, accepted or refused, the same bytes and the same world, for all six modes.
use Rattle.std.specs.Prelude.{◌≡◌, true, false, not, ◌++◌, ℕ, ◌+◌, ◌≤◌, ◌<◌, eqb, length, take}
use Rattle.std.proofs.Math.Path.{refl, subst}
use Rattle.std.proofs.Common.{sym, ap, ◌∙◌, arith, length-append}
use Rattle.std.proofs.lemmas.Bool.{false≢true}
use Rattle.std.specs.Prelude.{Option, None, Some}
use borrow.Author.Tests.{eqb-true, eqb-false, le-ltb}
use Rattle.ground.specs.Search.{by_test}
use Rattle.ground.specs.Lists.{Below}
use Rattle.cipher.specs.Cipher.{Octets, Whole, vector_after}
use Rattle.cipher.specs.declared.modes.Mode.{Mode}
use Rattle.cipher.proofs.Promise.{mode_vector-after}
use Rattle.state.specs.declared.Holdings.{Holdings}
use Rattle.state.specs.State.{Bytes, find}
use Rattle.table.specs.Passwords.{big}
use Rattle.state.specs.State.{seat_of}
use Rattle.rules.specs.World.{World, own, shut_for}
use Rattle.rules.specs.Sides.{mode_side, lacks_vector}
use Rattle.rules.specs.Refusals.{test, bad_blocks}
use Rattle.rules.specs.Commands.{by, mode, refusals, effect}
use Rattle.rules.specs.Step.{step, Result}
use Rattle.rules.proofs.Laws.{good_blocks, mode_first}
use Rattle.properties.specs.Steps.{Accepted, list_of}
use Rattle.properties.proofs.Steps.{reply-first, next, not_false, put-own}
use Rattle.properties.proofs.Demand1.{demand_1}
use Rattle.properties.specs.Calls.{vector_of, held}
use Rattle.properties.proofs.Calls.{conditions, accepted, left_world, key_stays, vector_there, vector-left, some_bytes}
use Rattle.properties.proofs.Texts.{text, written}
use Rattle.properties.proofs.Joined.{good, joined-text, joined_world}
use Rattle.properties.specs.TwoCalls.{reply}

-- ---- the vector afterwards

-- u, who holds h, has called the mode m: the side's vector is the last cipher block, which E gave and D took; ECB left it (`vector_after`)
pub last-cipher-block : (w : World) (u : ℕ) (m : Mode) (d out : Bytes) (h : Holdings) → find u w.facility.places ≡ Some h
    → Octets (mode_side m h).vector.value.0 → Below 256 d → Accepted w u (mode m d) out
    → (find u (step w (by u (mode m d)) out).world.facility.places ≡ Some (held m h d))
    × ((mode_side m (held m h d)).vector.value.0
    ≡ vector_after m (mode_side m h).vector.value.0 d (take (length d) (step w (by u (mode m d)) out).answered.output))
unfolding text
last-cipher-block w u m d out h active o bytes done =
    let c = conditions w u m d out h active done in
    let all : Whole d = record { blocks = good_blocks (length d) c.blocks; small = bytes } in
    let v = (mode_side m h).vector.value.0 in
    let some_data = some_bytes (length d) c.blocks in (
      ap (λ (x : World). find u x.facility.places) (left_world w u m d out h active c) ∙ put-own u h (held m h d) w.facility.places active,
      vector-left h d all (omega (arith, some_data)) m o
          ∙ mode_vector-after (mode_side m h).key.value.0 v d o all (omega (arith, some_data)) m
          ∙ ap (vector_after m v d) (sym (written w u m d out h active done)),
    )

-- ---- a call whose data and output are in order: its reply is decided by the user and his side alone

side_number : World → ℕ → Mode → ℕ
side_number w u m =
    let seat = (own u w).seat in
    let side = mode_side m seat.holdings in
    test (big u) 1 (test (not seat.active) 3 (test (not side.key.present) 10 (test (lacks_vector m side.vector.present) 11 0)))

module _ (w : World) (u : ℕ) (m : Mode) (d out : Bytes) (blocks : bad_blocks (length d) ≡ false) (room : length d ≤ length out) where
  by_side : list_of w u (mode m d) out ≡ side_number w u m
  unfolding refusals side_number test
  by_side = mode_first m u d (length out) (shut_for u w) (own u w) ∙ rw (blocks, le-ltb (length out) (length d) room)

  reply_by_side : reply (step w (by u (mode m d)) out) ≡ side_number w u m
  unfolding effect
  reply_by_side = reply-first w u (mode m d) out refl ∙ by_side

-- ---- two calls, and one

-- who is active holds something
holdings_of : (s : Option Holdings) → (seat_of s).active ≡ true → (h : Holdings) × (s ≡ Some h)
unfolding seat_of
holdings_of None a = absurd (false≢true a)
holdings_of (Some h) a = (h, refl)

-- u calls the mode m with the data d, then with e; or once with both. Each is some whole blocks, each output has room for what it gets, and both together
-- are at most 32768 bytes. (That a vector is eight bytes is by its type.)
module _ (w : World) (u : ℕ) (m : Mode) (d e out₁ out₂ out : Bytes) (d-blocks : Whole d) (d-some : 0 < length d) (e-blocks : Whole e) (e-some : 0 < length e)
    (room₁ : length d ≤ length out₁) (room₂ : length e ≤ length out₂) (room : length (d ++ e) ≤ length out) (limit : length (d ++ e) ≤ 32768)
    (eight : Octets (mode_side m (own u w).seat.holdings).vector.value.0) where
  abbrev pub first : Result
  first = step w (by u (mode m d)) out₁

  abbrev pub second : Result
  second = step first.world (by u (mode m e)) out₂

  abbrev pub joined : Result
  joined = step w (by u (mode m (d ++ e))) out

  both : length (d ++ e) ≡ length d + length e
  both = length-append d e

  good₁ : bad_blocks (length d) ≡ false
  good₁ = good (length d) (λ q. omega arith) (omega (arith, both)) d-blocks.blocks

  good₂ : bad_blocks (length e) ≡ false
  good₂ = good (length e) (λ q. omega arith) (omega (arith, both)) e-blocks.blocks

  good_joined : bad_blocks (length (d ++ e)) ≡ false
  good_joined = good (length (d ++ e)) (λ q. omega (arith, both)) limit (omega (arith, both, d-blocks.blocks, e-blocks.blocks))

  reply-first_call : reply first ≡ side_number w u m
  reply-first_call = reply_by_side w u m d out₁ good₁ room₁

  reply-second_call : reply second ≡ side_number first.world u m
  reply-second_call = reply_by_side first.world u m e out₂ good₂ room₂

  reply-joined : reply joined ≡ side_number w u m
  reply-joined = reply_by_side w u m (d ++ e) out good_joined room

  -- ---- refused: nothing is altered

  module _ (n : side_number w u m ≡ 0 → ⊥) where
    first_unaltered : first.world ≡ w
    first_unaltered = ap (λ (r : Result). r.world) ((demand_1 w (by u (mode m d)) out₁).unaltered (λ z. n (sym reply-first_call ∙ z)))

    second_as_first : reply second ≡ side_number w u m
    second_as_first = reply-second_call ∙ ap (λ (x : World). side_number x u m) first_unaltered

    refused_world : second.world ≡ joined.world
    refused_world =
        ap (λ (r : Result). r.world) ((demand_1 first.world (by u (mode m e)) out₂).unaltered (λ z. n (sym second_as_first ∙ z)))
        ∙ first_unaltered
        ∙ sym (ap (λ (r : Result). r.world) ((demand_1 w (by u (mode m (d ++ e))) out).unaltered (λ z. n (sym reply-joined ∙ z))))

  -- ---- accepted

  module _ (z : side_number w u m ≡ 0) where
    active_then : (h : Holdings) × (find u w.facility.places ≡ Some h)
    unfolding side_number
    active_then =
        let a = next (big u) 1 _ (λ q. omega arith) z in
        let b = next _ 3 _ (λ q. omega arith) a.1 in
        holdings_of (find u w.facility.places) (not_false _ b.0)

    abbrev holds : Holdings
    holds = active_then.0

    one : Accepted w u (mode m d) out₁
    one = reply-first_call ∙ z

    octets : Octets (mode_side m holds).vector.value.0
    unfolding seat_of
    octets = subst (λ (s : Option Holdings). Octets (mode_side m (seat_of s).holdings).vector.value.0) active_then.1 eight

    still : find u first.world.facility.places ≡ Some (held m holds d)
    still = (last-cipher-block w u m d out₁ holds active_then.1 octets d-blocks.small one).0

    two : Accepted first.world u (mode m e) out₂
    two =
        let c = conditions w u m d out₁ holds active_then.1 one in
        accepted first.world u m e out₂ (held m holds d) still (record {
          small = c.small;
          key = ap (λ k. not k.present) (key_stays holds (vector_of m holds d) m) ∙ c.key;
          vector = vector_there holds (vector_of m holds d) m c.vector;
          blocks = good₂;
          room = le-ltb (length out₂) (length e) room₂;
        })

  same-reply : (reply first ≡ reply joined) × (reply second ≡ reply joined)
  same-reply = (
    reply-first_call ∙ sym reply-joined,
    by_test (eqb (side_number w u m) 0)
        (λ t. let z = eqb-true (side_number w u m) 0 t in two z ∙ sym (reply-joined ∙ z))
        (λ f. second_as_first (eqb-false (side_number w u m) 0 f) ∙ sym reply-joined),
  )

  same_world : second.world ≡ joined.world
  same_world =
      by_test (eqb (side_number w u m) 0)
      (λ t. let z = eqb-true (side_number w u m) 0 t in
      sym (joined_world w u m d e out₁ out₂ (holds z) (active_then z).1 (octets z) d-blocks.small (one z) (two z) out limit room))
      (λ f. refused_world (eqb-false (side_number w u m) 0 f))

  same_text : reply joined ≡ 0
      → take (length d) first.answered.output ++ take (length e) second.answered.output ≡ take (length (d ++ e)) joined.answered.output
  same_text done =
      let z = sym reply-joined ∙ done in
      sym (joined-text w u m d e out₁ out₂ (holds z) (active_then z).1 (octets z) d-blocks.small (one z) (two z) out limit room)

  -- two calls equal one: they have its reply, so that both are accepted exactly if the one is; they leave its world; and where they are, what they wrote,
  -- joined, is what it wrote
  pub two_equal_one : (reply first ≡ reply joined) × (reply second ≡ reply joined) × (second.world ≡ joined.world)
      × (reply joined ≡ 0
      → take (length d) first.answered.output ++ take (length e) second.answered.output ≡ take (length (d ++ e)) joined.answered.output)
  two_equal_one = (same-reply.0, same-reply.1, same_world, same_text)
