-- Runs from fresh facilities, by EIK, IPW and RAS, so that no one takes demand 2 for empty: the premises of `Delivered`, `OneFacility` and `Oneself` are met.
use Rattle.std.specs.Prelude.{◌≡◌, ℕ, ◌≤◌, T, length}
use Rattle.std.proofs.Math.Path.{refl, sym, ap}
use Rattle.std.proofs.Common.{◌∙◌, subst, arith, lit<}
use mathlib.Core.List.{[]}
use Rattle.std.proofs.Math.Dec.{lit≤}
use Rattle.ground.specs.Tests.{within, at_most}
use Rattle.ground.specs.Rows.{row, digits}
use Rattle.ground.specs.Lists.{Below, listed}
use Rattle.cipher.specs.declared.modes.Mode.{Mode}
use Rattle.cipher.specs.declared.modes.Mode.TheVariants.{Ecbe, Ecbd, Cbce, Cbcd, Cfbe, Cfbd}
use Rattle.keys.specs.Keys.{odd, parity_of}
use Rattle.state.specs.State.{Bytes, bare, find, give, with_places, named, key_at, rekeyed}
use Rattle.table.specs.Entries.{fits, id_of, entry_in, entry_of, enrol_in, enrolled}
use Rattle.table.specs.Passwords.{big, same, sealed}
use Rattle.table.proofs.Laws.{sealed_eight}
use Rattle.state.specs.State.{seat_of}
use Rattle.rules.specs.World.{World, over, key1}
use Rattle.rules.specs.Refusals.{first_of, test, of_own, lacks_entry}
use Rattle.rules.specs.Commands.{by, EIK, IPW, RAS, tests, effect, keyed}
use Rattle.rules.specs.Step.{step}
use Rattle.properties.specs.Steps.{Performed}
use Rattle.properties.proofs.Steps.{accepted_first, done-step, settled-first, settled-done}
use Rattle.properties.specs.Passwords.{Inactive, Room}
use Rattle.properties.proofs.Passwords.{ipw_stands, ras-done}
use Rattle.properties.specs.Held.{Brought}
use Rattle.properties.specs.Others.{holding}
use Rattle.properties.specs.Delivered.{Premises, Delivered}
use Rattle.properties.proofs.Delivered.{delivered}
use Rattle.properties.proofs.OneFacility.{Through as InOneRun, in_one_run}
use Rattle.properties.proofs.Oneself.{Premises as Alone, Kept, kept}
use Rattle.properties.specs.Readied.{own, interchange, password₅, password₆, bits, seed, text, keyed₁}

-- ---- u's password is entered, and u comes

module _ (w : World) (u : ℕ) (password : Bytes) where
  abbrev ipw : World
  ipw = (step w (IPW u password) []).world

  abbrev ras : World
  ras = (step ipw (by u (RAS password)) []).world

  -- the world as it then is
  abbrev with_user : World
  with_user = over (with_places w.facility (give u bare w.facility.places)) (enrolled u (sealed (key1 w) u password) w.table)

  ipw_is : Performed w (IPW u password) [] → ipw ≡ over w.facility (enrolled u (sealed (key1 w) u password) w.table)
  unfolding step
  ipw_is done =
      let n = first_of (tests (IPW u password) w []) in
      ap (λ r. r.world) (settled-done n w _ [] (settled-first n w _ [] done))

  comes : Performed w (IPW u password) [] → Inactive u w → Room w → ras ≡ with_user
  unfolding effect
  comes done away room =
      let e = ipw_is done in
      let came = ras-done ipw u password [] (ipw_stands w u password [] done) (ap (λ x. find u x.facility.places) e ∙ away) (subst Room (sym e) room) in
      ap (λ r. r.world) (done-step ipw u (RAS password) [] (accepted_first ipw u (RAS password) [] came.0)) ∙ ap (λ x. holding x u bare) e

small_bytes : (b : Bytes) → T (within 0 255 b) → Below 256 b
small_bytes b s n = let z = at_most 0 255 b s n in omega arith

-- two of them, with the interchange's key, called 2 at the one and 3 at the other; 5 comes to the one, 6 to the other
abbrev pub F : World
F = ras (step keyed₁ (EIK 2 interchange) []).world 5 password₅

abbrev pub G : World
G = ras (step keyed₁ (EIK 3 interchange) []).world 6 password₆

F_is : F ≡ with_user (step keyed₁ (EIK 2 interchange) []).world 5 password₅
unfolding step tests test named key_at of_own keyed rekeyed same parity_of odd digits fits big lacks_entry entry_of entry_in id_of row
F_is = comes (step keyed₁ (EIK 2 interchange) []).world 5 password₅ refl refl refl

G_is : G ≡ with_user (step keyed₁ (EIK 3 interchange) []).world 6 password₆
unfolding step tests test named key_at of_own keyed rekeyed same parity_of odd digits fits big lacks_entry entry_of entry_in id_of row
G_is = comes (step keyed₁ (EIK 3 interchange) []).world 6 password₆ refl refl refl

-- one of them, to which both come
abbrev pub H : World
H = ras (ras keyed₁ 5 password₅) 6 password₆

H₅_is : ras keyed₁ 5 password₅ ≡ with_user keyed₁ 5 password₅
unfolding step tests test named key_at of_own keyed rekeyed same parity_of odd digits fits big lacks_entry entry_of entry_in id_of row
H₅_is = comes keyed₁ 5 password₅ refl refl refl

H_is : H ≡ with_user (with_user keyed₁ 5 password₅) 6 password₆
unfolding step tests test named key_at of_own keyed rekeyed same parity_of odd digits fits big lacks_entry entry_of entry_in enrol_in enrolled id_of row give seat_of
H_is =
    ap (λ x. ras x 6 password₆) H₅_is
    ∙ comes (with_user keyed₁ 5 password₅) 6 password₆ (rw (listed 8 (sealed own 5 password₅) (sealed_eight own 5 password₅))) refl refl

-- ---- the premises

module _ (out out' : Bytes) (room : 16 ≤ length out) (room' : 16 ≤ length out') where
  brought : Brought bits seed text out out'
  brought =
      record {
        bits_eight = record { eight = refl; small = small_bytes bits tt };
        seed_eight = record { eight = refl; small = small_bytes seed tt };
        good_text = record { whole = record { blocks = refl; small = small_bytes text tt }; some_bytes = lit< tt; limit = lit≤ tt };
        room = room;
        room' = room';
      }

  -- 5 at F and 6 at G
  two_facilities : Premises F G 5 6 2 3 bits seed text out out'
  unfolding step tests test named key_at of_own keyed rekeyed same parity_of odd digits give seat_of
  two_facilities =
      record {
        sender = ap (λ x. (seat_of (find 5 x.facility.places)).active) F_is;
        receiver = ap (λ x. (seat_of (find 6 x.facility.places)).active) G_is;
        two = λ z. omega arith;
        small_i = lit≤ tt;
        small_j = lit≤ tt;
        current = ap (λ x. (key_at 2 x.facility.current_keys).present) F_is;
        shared =
            record {
              current = ap (λ x. (key_at 3 x.facility.current_keys).present) G_is;
              alike =
                  ap (λ x. parity_of (key_at 3 x.facility.current_keys).value.0) G_is
                  ∙ sym (ap (λ x. parity_of (key_at 2 x.facility.current_keys).value.0) F_is);
            };
        brought = brought;
      }

  -- 5 and 6 at H
  one_facility : Premises H H 5 6 1 1 bits seed text out out'
  unfolding step tests test named key_at of_own keyed rekeyed same parity_of odd digits give seat_of
  one_facility =
      record {
        sender = ap (λ x. (seat_of (find 5 x.facility.places)).active) H_is;
        receiver = ap (λ x. (seat_of (find 6 x.facility.places)).active) H_is;
        two = λ z. omega arith;
        small_i = lit≤ tt;
        small_j = lit≤ tt;
        current = ap (λ x. (key_at 1 x.facility.current_keys).present) H_is;
        shared = record { current = ap (λ x. (key_at 1 x.facility.current_keys).present) H_is; alike = refl };
        brought = brought;
      }

  -- 5 by himself
  himself : Alone F 5 2 bits seed text out out'
  himself = let x = two_facilities in record { user = x.sender; small_i = x.small_i; current = x.current; brought = brought }

  -- ---- so these runs go through

  pub from-F-to-G :
      let Through : Mode → Mode → Type 0 = Delivered F G 5 6 2 3 bits seed text out out' in
      Through Ecbe Ecbd × Through Cbce Cbcd × Through Cfbe Cfbd
  from-F-to-G = delivered F G 5 6 2 3 bits seed text out out' two_facilities

  pub within-H :
      let Through : Mode → Mode → Type 0 = InOneRun H 5 6 1 1 bits seed text out out' in
      Through Ecbe Ecbd × Through Cbce Cbcd × Through Cfbe Cfbd
  within-H = in_one_run H 5 6 1 1 bits seed text out out' one_facility

  pub for-himself :
      let Back : Mode → Mode → Type 0 = Kept F 5 2 bits seed text out out' in
      Back Ecbe Ecbd × Back Cbce Cbcd × Back Cfbe Cfbd
  for-himself = kept F 5 2 bits seed text out out' himself
