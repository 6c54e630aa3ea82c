-- A mode's call by an active user: its conditions, and the world and the side that it leaves.
use Rattle.std.specs.Prelude.{◌≡◌, Bool, true, false, cond, ℕ, ◌%◌, ◌<◌, eqb, ltb, length}
use Rattle.std.proofs.Math.Path.{refl, sym, ap}
use Rattle.std.proofs.Common.{◌∙◌, true≢false, arith}
use Rattle.std.proofs.Math.Bool.{not}
use Rattle.std.specs.Prelude.{Some}
use Rattle.ground.specs.Search.{by_test}
use Rattle.cipher.specs.Cipher.{Octets, Whole, vector_after}
use Rattle.cipher.specs.declared.keys.Vector.{Vector}
use Rattle.cipher.specs.declared.modes.Mode.{Mode}
use Rattle.cipher.specs.declared.modes.Mode.TheVariants.{Ecbe, Ecbd, Cbce, Cbcd, Cfbe, Cfbd}
use Rattle.cipher.proofs.Promise.{mode_vector-after}
use Rattle.state.specs.declared.Holdings.{Holdings}
use Rattle.state.specs.State.{Bytes, seat, find, put, give, with_places}
use Rattle.table.specs.Passwords.{big}
use Rattle.state.specs.State.{seat_of}
use Rattle.rules.specs.World.{World, over, shut_for, own}
use Rattle.rules.specs.Sides.{mode_side, after_mode, with_vector, lacks_vector}
use Rattle.rules.specs.Refusals.{bad_length, bad_blocks}
use Rattle.rules.specs.Commands.{by, mode, refusals, effect}
use Rattle.rules.specs.Step.{step, number_of}
use Rattle.rules.proofs.Laws.{good_length, mode_first}
use Rattle.properties.specs.Steps.{Accepted, list_of}
use Rattle.properties.proofs.Steps.{accepted_first, done-step, next, fails}
use Rattle.properties.specs.Calls.{vector_of, held}

module _ (w : World) (u : ℕ) (m : Mode) (d out : Bytes) (h : Holdings) (active : find u w.facility.places ≡ Some h) where
  -- its conditions: those about the user and his side, those about the data
  pub record Conditions : Type 0 where
    pub small : big u ≡ false
    pub key : not (mode_side m h).key.present ≡ false
    pub vector : lacks_vector m (mode_side m h).vector.present ≡ false
    pub blocks : bad_blocks (length d) ≡ false
    pub room : ltb (length out) (length d) ≡ false

  pub conditions : Accepted w u (mode m d) out → Conditions
  unfolding refusals seat_of
  conditions done =
      let a = next _ 1 _ (λ q. omega arith) (sym (mode_first m u d (length out) (shut_for u w) (own u w)) ∙ accepted_first w u (mode m d) out done) in
      let b = next _ 3 _ (λ q. omega arith) a.1 in
      let c = next _ 10 _ (λ q. omega arith) b.1 in
      let e = next _ 11 _ (λ q. omega arith) c.1 in
      let f = next (bad_blocks (length d)) 12 _ (λ q. omega arith) e.1 in
      let g = next _ 13 0 (λ q. omega arith) f.1 in
      record {
        small = a.0;
        key = ap (λ s. not (mode_side m (seat_of s).holdings).key.present) (sym active) ∙ c.0;
        vector = ap (λ s. lacks_vector m (mode_side m (seat_of s).holdings).vector.present) (sym active) ∙ e.0;
        blocks = f.0;
        room = g.0;
      }

  verdict : Conditions → list_of w u (mode m d) out ≡ 0
  unfolding refusals seat_of
  verdict c =
      mode_first m u d (length out) (shut_for u w) (own u w)
      ∙ fails (big u) 1 _ c.small
      (fails _ 3 _ (ap (λ s. not (seat_of s).active) active)
      (fails _ 10 _ (ap (λ s. not (mode_side m (seat_of s).holdings).key.present) active ∙ c.key)
      (fails _ 11 _ (ap (λ s. lacks_vector m (mode_side m (seat_of s).holdings).vector.present) active ∙ c.vector)
      (fails _ 12 _ c.blocks
      (fails _ 13 0 c.room refl)))))

  -- done, it is accepted, and the world is as it was but for the holdings
  pub accepted : Conditions → Accepted w u (mode m d) out
  unfolding effect
  accepted c = ap (λ r. number_of r.answered.answer) (done-step w u (mode m d) out (verdict c))

  pub left_world : Conditions → (step w (by u (mode m d)) out).world ≡ over (with_places w.facility (put u (seat u (held m h d)) w.facility.places)) w.table
  unfolding effect seat_of give
  left_world c =
      ap (λ r. r.world) (done-step w u (mode m d) out (verdict c))
      ∙ rw active

-- ---- the side after it

module _ (h : Holdings) (x : Vector) where
  pub key_stays : (m : Mode) → (mode_side m (after_mode m x h)).key ≡ (mode_side m h).key
  unfolding mode_side after_mode with_vector
  key_stays Ecbe = refl
  key_stays Ecbd = refl
  key_stays Cbce = refl
  key_stays Cbcd = refl
  key_stays Cfbe = refl
  key_stays Cfbd = refl

  -- a vector that is there stays there
  pub vector_there : (m : Mode) → lacks_vector m (mode_side m h).vector.present ≡ false → lacks_vector m (mode_side m (after_mode m x h)).vector.present ≡ false
  unfolding mode_side after_mode with_vector lacks_vector
  vector_there Ecbe p = refl
  vector_there Ecbd p = refl
  vector_there Cbce p = refl
  vector_there Cbcd p = refl
  vector_there Cfbe p = refl
  vector_there Cfbd p = refl

-- its vector is the one that the call leaves
module _ (h : Holdings) (d : Bytes) (w : Whole d) (n : 0 < length d) where
  pub vector-left : (m : Mode) → Octets (mode_side m h).vector.value.0 → (mode_side m (held m h d)).vector.value.0 ≡ (vector_of m h d).0
  unfolding mode_side after_mode with_vector vector_after
  vector-left Ecbe o = sym (mode_vector-after h.transmit.key.value.0 h.transmit.vector.value.0 d o w n Ecbe)
  vector-left Ecbd o = sym (mode_vector-after h.receive.key.value.0 h.receive.vector.value.0 d o w n Ecbd)
  vector-left Cbce o = refl
  vector-left Cbcd o = refl
  vector-left Cfbe o = refl
  vector-left Cfbd o = refl

-- ---- its data: one byte at least

not_bad : (n : ℕ) → bad_blocks n ≡ false → bad_length n ≡ false
unfolding bad_blocks
not_bad n h =
    by_test (bad_length n)
    (λ e. absurd (true≢false (sym (ap (λ (b : Bool). cond b true (not (eqb (n % 8) 0))) e) ∙ h)))
    (λ e. e)

pub some_bytes : (n : ℕ) → bad_blocks n ≡ false → (n ≡ 0 → ⊥)
some_bytes n h = good_length n (not_bad n h)
