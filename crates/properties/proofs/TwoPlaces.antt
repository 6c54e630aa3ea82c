-- "Where a state is handed in that has one identifier in two places, the first of them counts and the other is not altered while the first is there."
use Rattle.std.specs.Prelude.{◌≡◌, true, false, cond, ℕ, zero, suc, eqb, take}
use Rattle.std.proofs.Math.Path.{refl, sym, ap, ap₂}
use Rattle.std.proofs.Common.{◌∙◌, arith}
use Rattle.std.proofs.Math.Bool.{Bool, not}
use Rattle.std.proofs.lemmas.Bool.{false≢true}
use Rattle.std.specs.Prelude.{Option, None, Some}
use mathlib.Core.List.{List, [], ◌∷◌, ◌++◌}
use Rattle.std.proofs.Math.ListN.{get_or}
use Rattle.ground.specs.Search.{by_test}
use Rattle.state.specs.declared.Holdings.{Holdings}
use Rattle.state.specs.declared.Place.{Place}
use Rattle.state.specs.State.{Bytes, has, seat, vacant, find, put, admit, give, give_to, leave, shut_to, key_at, rekeyed}
use Rattle.table.specs.Entries.{enrolled}
use Rattle.table.specs.Passwords.{big, sealed, moved}
use Rattle.state.specs.State.{seat_of}
use Rattle.rules.specs.World.{World, Own, own, over}
use Rattle.rules.specs.Refusals.{first_of}
use Rattle.rules.specs.Commands.{UserCommand, LAU, Command, by, EIK, IPW, RPW, logout, Effect, refused, gives, keeps, leaves, enters, writes, refusals, effect, tests, undue, keyed}
use Rattle.rules.specs.Step.{Done, Refused, carry, rule, rule_in, result, told, plain, number_of, step, step_by, settled}
use Rattle.properties.proofs.Steps.{done-step, fails, none_not_some}
use Rattle.properties.specs.Single.{count}
use Rattle.properties.proofs.Single.{has_same}
use Rattle.properties.specs.TwoPlaces.{housing, before}

module _ (u : ℕ) (h : Holdings) (qs : List Place) where
  find-front : (ps : List Place) → find u ps ≡ Some h → find u (ps ++ qs) ≡ Some h
  find-front [] e = absurd (none_not_some e)
  find-front (p ∷ ps) e =
      by_test (has u p)
      (λ t. ap (λ (b : Bool). cond b (Some p.holdings) (find u (ps ++ qs))) t ∙ sym (ap (λ (b : Bool). cond b (Some p.holdings) (find u ps)) t) ∙ e)
      (λ f.
      ap (λ (b : Bool). cond b (Some p.holdings) (find u (ps ++ qs))) f
      ∙ find-front ps (sym (ap (λ (b : Bool). cond b (Some p.holdings) (find u ps)) f) ∙ e))

  put_front : (x : Place) (ps : List Place) → find u ps ≡ Some h → put u x (ps ++ qs) ≡ put u x ps ++ qs
  put_front x [] e = absurd (none_not_some e)
  put_front x (p ∷ ps) e =
      by_test (has u p)
      (λ t.
      ap (λ (b : Bool). cond b (x ∷ (ps ++ qs)) (p ∷ put u x (ps ++ qs))) t
      ∙ sym (ap (λ (b : Bool). cond b (x ∷ ps) (p ∷ put u x ps) ++ qs) t))
      (λ f.
      ap (λ (b : Bool). cond b (x ∷ (ps ++ qs)) (p ∷ put u x (ps ++ qs))) f
      ∙ ap (λ (l : List Place). p ∷ l) (put_front x ps (sym (ap (λ (b : Bool). cond b (Some p.holdings) (find u ps)) f) ∙ e))
      ∙ sym (ap (λ (b : Bool). cond b (x ∷ ps) (p ∷ put u x ps) ++ qs) f))

  module _ (w : World) (ps : List Place) (first : find u ps ≡ Some h) where
    give-front : (g : Holdings) → give u g (ps ++ qs) ≡ give u g ps ++ qs
    unfolding give
    give-front g = rw (find-front ps first, first) (put_front (seat u g) ps first)

    carry-front : (e : Effect) → carry u e (housing w (ps ++ qs)) ≡ housing (carry u e (housing w ps)) ((carry u e (housing w ps)).facility.places ++ qs)
    unfolding leave
    carry-front (refused n) = refl
    carry-front (gives n b) = refl
    carry-front (keeps g) = ap (housing w) (give-front g)
    carry-front leaves = ap (housing w) (put_front vacant ps first)
    carry-front (enters password) = refl
    carry-front (writes b g) = ap (housing w) (give-front g)

    sees : (c : UserCommand) (out : Bytes) → rule_in (housing w (ps ++ qs)) u c out ≡ rule_in (housing w ps) u c out
    unfolding shut_to
    sees c out =
        let world : Option Holdings → Own = λ s. record { current = w.facility.current_keys; old = w.facility.old_keys; due = w.facility.due; fits = (own u w).fits; entry = (own u w).entry; seat = seat_of s } in
        ap₂ (λ (b : Bool) (s : Option Holdings). rule u c out b (world s))
        (ap (λ (s : Option Holdings). shut_to s (ps ++ qs)) (find-front ps first) ∙ sym (ap (λ (s : Option Holdings). shut_to s ps) first))
        (find-front ps first ∙ sym first)

    steps : (c : UserCommand) (out : Bytes) → step_by (housing w (ps ++ qs)) u c out ≡ before qs (step_by (housing w ps) u c out)
    steps c out =
        ap (λ (e : Effect). result (told e out) (carry u e (housing w (ps ++ qs)))) (sees c out)
        ∙ ap (result (told (rule_in (housing w ps) u c out) out)) (carry-front (rule_in (housing w ps) u c out))

-- u has a place among ps: every command of u's does what it does where the places behind are not there, and those stay as they are
pub first_counts : (w : World) (u : ℕ) (h : Holdings) (ps qs : List Place) → find u ps ≡ Some h → (c : UserCommand) (out : Bytes)
    → step (housing w (ps ++ qs)) (by u c) out ≡ before qs (step (housing w ps) (by u c) out)
unfolding step
first_counts w u h ps qs first c out = steps u h qs w ps first c out

-- and so does u's logout by the host
pub first_logged_out : (w : World) (u : ℕ) (h : Holdings) (ps qs : List Place) → find u ps ≡ Some h → (out : Bytes)
    → step (housing w (ps ++ qs)) (logout u) out ≡ before qs (step (housing w ps) (logout u) out)
unfolding step
first_logged_out w u h ps qs first out = steps u h qs w ps first LAU out

-- ---- the other is not altered

-- place number i is u's, and x is stored in the first place of v's, or in the first free place
module _ (u : ℕ) (x : Place) where
  put_other : (v : ℕ) → eqb v u ≡ false → (i : ℕ) (ps : List Place) → has u (get_or ps i vacant) ≡ true → get_or (put v x ps) i vacant ≡ get_or ps i vacant
  put_other v n i [] m = refl
  put_other v n zero (p ∷ ps) m = ap (λ (b : Bool). get_or (cond b (x ∷ ps) (p ∷ put v x ps)) 0 vacant) (has_same u v p m ∙ n)
  put_other v n (suc i) (p ∷ ps) m =
      by_test (has v p)
      (λ t. ap (λ (b : Bool). get_or (cond b (x ∷ ps) (p ∷ put v x ps)) (suc i) vacant) t)
      (λ f. ap (λ (b : Bool). get_or (cond b (x ∷ ps) (p ∷ put v x ps)) (suc i) vacant) f ∙ put_other v n i ps m)

  put_second : (h : Holdings) (v i : ℕ) (ps : List Place) → find u (take i ps) ≡ Some h → has u (get_or ps i vacant) ≡ true → get_or (put v x ps) i vacant ≡ get_or ps i vacant
  put_second h v i [] e m = refl
  put_second h v zero (p ∷ ps) e m = absurd (none_not_some e)
  put_second h v (suc i) (p ∷ ps) e m =
      by_test (has v p)
      (λ t. ap (λ (b : Bool). get_or (cond b (x ∷ ps) (p ∷ put v x ps)) (suc i) vacant) t)
      (λ f.
      ap (λ (b : Bool). get_or (cond b (x ∷ ps) (p ∷ put v x ps)) (suc i) vacant) f
      ∙ by_test (has u p)
      (λ t. put_other v (sym (has_same u v p t) ∙ f) i ps m)
      (λ g. put_second h v i ps (sym (ap (λ (b : Bool). cond b (Some p.holdings) (find u (take i ps))) g) ∙ e) m))

  admit_other : (i : ℕ) (ps : List Place) → has u (get_or ps i vacant) ≡ true → get_or (admit x ps) i vacant ≡ get_or ps i vacant
  admit_other i [] m = refl
  admit_other zero (p ∷ ps) m =
      by_test p.taken
      (λ t. ap (λ (b : Bool). get_or (cond b (p ∷ admit x ps) (x ∷ ps)) 0 vacant) t)
      (λ f. absurd (false≢true (sym (ap (λ (b : Bool). cond b (eqb u p.user) false) f) ∙ m)))
  admit_other (suc i) (p ∷ ps) m =
      by_test p.taken
      (λ t. ap (λ (b : Bool). get_or (cond b (p ∷ admit x ps) (x ∷ ps)) (suc i) vacant) t ∙ admit_other i ps m)
      (λ f. ap (λ (b : Bool). get_or (cond b (p ∷ admit x ps) (x ∷ ps)) (suc i) vacant) f)

-- place number i is u's, and so is one before it
module _ (w : World) (u i : ℕ) (h : Holdings) (first : find u (take i w.facility.places) ≡ Some h) (second : has u (get_or w.facility.places i vacant) ≡ true) where
  Stays : World → Type 0
  Stays w' = get_or w'.facility.places i vacant ≡ get_or w.facility.places i vacant

  given : (o : Option Holdings) (v : ℕ) (g : Holdings) → get_or (give_to o v g w.facility.places) i vacant ≡ get_or w.facility.places i vacant
  given None v g = admit_other u (seat v g) i w.facility.places second
  given (Some a) v g = put_second u (seat v g) h v i w.facility.places first second

  carried : (v : ℕ) (e : Effect) → Stays (carry v e w)
  unfolding Stays give leave
  carried v (refused n) = refl
  carried v (gives n b) = refl
  carried v (keeps g) = given (find v w.facility.places) v g
  carried v leaves = put_second u vacant h v i w.facility.places first second
  carried v (enters password) = refl
  carried v (writes b g) = given (find v w.facility.places) v g

  officers : (n : ℕ) (w' : World) (out : Bytes) → w'.facility.places ≡ w.facility.places → Stays (settled n w out w').world
  unfolding Stays
  officers n w' out e =
      let at : Bool → List Place = λ b. (cond b (result (plain Done out) w') (result (plain (Refused n) out) w)).world.facility.places in
      by_test (eqb n 0)
      (λ t. ap (λ (b : Bool). get_or (at b) i vacant) t ∙ ap (λ (l : List Place). get_or l i vacant) e)
      (λ f. ap (λ (b : Bool). get_or (at b) i vacant) f)

  -- no command, whoever issues it, alters the other
  pub not_altered : (c : Command) (out : Bytes) → get_or (step w c out).world.facility.places i vacant ≡ get_or w.facility.places i vacant
  unfolding step Stays keyed rekeyed
  not_altered (by v c) out = carried v (rule_in w v c out)
  not_altered (EIK n k) out = officers (first_of (tests (EIK n k) w out)) (over (keyed n k w.facility) w.table) out refl
  not_altered (IPW v p) out = officers (first_of (tests (IPW v p) w out)) (over w.facility (enrolled v (sealed (key_at 1 w.facility.current_keys).value.0 v p) w.table)) out refl
  not_altered RPW out =
      officers (first_of (tests RPW w out)) (over (undue w.facility) (moved (key_at 1 w.facility.old_keys).value.0 (key_at 1 w.facility.current_keys).value.0 w.table)) out refl
  not_altered (logout v) out = carried v (rule_in w v LAU out)

-- ---- logged out of the first, u is in the second

module _ (u : ℕ) (p : Place) (qs : List Place) (second : has u p ≡ true) where
  here : find u (p ∷ qs) ≡ Some p.holdings
  here = ap (λ (b : Bool). cond b (Some p.holdings) (find u qs)) second

  -- u has no place among ps
  find-second : (ps : List Place) → count u ps ≡ 0 → find u (ps ++ (p ∷ qs)) ≡ Some p.holdings
  find-second [] n = here
  find-second (a ∷ ps) n =
      by_test (has u a)
      (λ t. absurd (let z : suc (count u ps) ≡ 0 = sym (ap (λ (b : Bool). cond b (suc (count u ps)) (count u ps)) t) ∙ n in omega arith))
      (λ f.
      ap (λ (b : Bool). cond b (Some a.holdings) (find u (ps ++ (p ∷ qs)))) f
      ∙ find-second ps (sym (ap (λ (b : Bool). cond b (suc (count u ps)) (count u ps)) f) ∙ n))

  -- u has one, which is freed
  find-next : (ps : List Place) → count u ps ≡ 1 → find u (put u vacant (ps ++ (p ∷ qs))) ≡ Some p.holdings
  find-next [] n = absurd (omega arith)
  find-next (a ∷ ps) n =
      by_test (has u a)
      (λ t.
      let z : suc (count u ps) ≡ 1 = sym (ap (λ (b : Bool). cond b (suc (count u ps)) (count u ps)) t) ∙ n in
      let y : count u ps ≡ 0 = omega arith in
      ap (λ (b : Bool). find u (cond b (vacant ∷ (ps ++ (p ∷ qs))) (a ∷ put u vacant (ps ++ (p ∷ qs))))) t ∙ find-second ps y)
      (λ f.
      ap (λ (b : Bool). find u (cond b (vacant ∷ (ps ++ (p ∷ qs))) (a ∷ put u vacant (ps ++ (p ∷ qs))))) f
      ∙ ap (λ (b : Bool). cond b (Some a.holdings) (find u (put u vacant (ps ++ (p ∷ qs))))) f
      ∙ find-next ps (sym (ap (λ (b : Bool). cond b (suc (count u ps)) (count u ps)) f) ∙ n))

  active : (ps : List Place) → (seat_of (find u (ps ++ (p ∷ qs)))).active ≡ true
  unfolding seat_of
  active [] = ap (λ (s : Option Holdings). (seat_of s).active) here
  active (a ∷ ps) =
      by_test (has u a)
      (λ t. ap (λ (b : Bool). (seat_of (cond b (Some a.holdings) (find u (ps ++ (p ∷ qs))))).active) t)
      (λ f. ap (λ (b : Bool). (seat_of (cond b (Some a.holdings) (find u (ps ++ (p ∷ qs))))).active) f ∙ active ps)

  -- u has one place among ps, and p is u's second
  pub second_counts : (w : World) (ps : List Place) (out : Bytes) → big u ≡ false → count u ps ≡ 1
      → let r = step (housing w (ps ++ (p ∷ qs))) (logout u) out in
      (number_of r.answered.answer ≡ 0) × (find u r.world.facility.places ≡ Some p.holdings)
  unfolding step refusals effect leave
  second_counts w ps out s n =
      let d = done-step (housing w (ps ++ (p ∷ qs))) u LAU out (fails (big u) 1 _ s (fails _ 3 0 (ap not (active ps)) refl)) in
      (ap (λ r. number_of r.answered.answer) d, ap (λ r. find u r.world.facility.places) d ∙ find-next ps n)
