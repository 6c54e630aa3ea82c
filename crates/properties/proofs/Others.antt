-- What a user's command leaves to the others: what they hold, the interchange keys, DUE.
use Rattle.std.specs.Prelude.{◌≡◌, refl, Bool, true, false, cond, List, [], ◌∷◌, ℕ, eqb}
use Rattle.std.proofs.Common.{sym, ◌∙◌, ne_eqb}
use Rattle.std.proofs.Math.Path.{ap}
use Rattle.std.proofs.lemmas.Bool.{false≢true}
use Rattle.std.specs.Prelude.{Option, None, Some}
use Rattle.ground.specs.Search.{by_test}
use Rattle.state.specs.declared.Holdings.{Holdings}
use Rattle.state.specs.declared.Place.{Place}
use Rattle.state.specs.State.{Bytes, vacant, seat, has, find, put, admit, give, give_to, leave}
use Rattle.state.specs.State.{seat_of}
use Rattle.rules.specs.World.{World}
use Rattle.rules.specs.Commands.{UserCommand, Effect, refused, gives, keeps, leaves, enters, writes, by}
use Rattle.rules.specs.Step.{step, carry, rule_in}
use Rattle.properties.proofs.Steps.{give-own}
use Rattle.properties.proofs.Single.{has_same}
use Rattle.properties.specs.Held.{IsActive, sides_of, RestAsItWas}
use Rattle.properties.specs.Others.{holding}

-- ---- another user's place: v's, where u's is altered

pub put_other : (v u : ℕ) (x : Place) (ps : List Place) → eqb v u ≡ false → has v x ≡ false → find v (put u x ps) ≡ find v ps
put_other v u x [] d n = refl
put_other v u x (p ∷ ps) d n =
    by_test (has u p)
    (λ t.
    ap (λ (b : Bool). find v (cond b (x ∷ ps) (p ∷ put u x ps))) t
    ∙ ap (λ (b : Bool). cond b (Some x.holdings) (find v ps)) n
    ∙ sym (ap (λ (b : Bool). cond b (Some p.holdings) (find v ps)) (has_same u v p t ∙ d)))
    (λ f.
    ap (λ (b : Bool). find v (cond b (x ∷ ps) (p ∷ put u x ps))) f
    ∙ ap (λ (o : Option Holdings). cond (has v p) (Some p.holdings) o) (put_other v u x ps d n))

admit_other : (v : ℕ) (x : Place) (ps : List Place) → has v x ≡ false → find v (admit x ps) ≡ find v ps
admit_other v x [] n = refl
admit_other v x (p ∷ ps) n =
    by_test p.taken
    (λ t. rw t (ap (λ (o : Option Holdings). cond (eqb v p.user) (Some p.holdings) o) (admit_other v x ps n)))
    (λ f. rw (f, n))

given_to : (v u : ℕ) (o : Option Holdings) (h : Holdings) (ps : List Place) → eqb v u ≡ false → find v (give_to o u h ps) ≡ find v ps
given_to v u None h ps d = admit_other v (seat u h) ps d
given_to v u (Some g) h ps d = put_other v u (seat u h) ps d d

pub give_other : (v u : ℕ) (h : Holdings) (ps : List Place) → eqb v u ≡ false → find v (give u h ps) ≡ find v ps
unfolding give
give_other v u h ps d = given_to v u (find u ps) h ps d

pub leave_other : (v u : ℕ) (ps : List Place) → eqb v u ≡ false → find v (leave u ps) ≡ find v ps
unfolding leave
leave_other v u ps d = put_other v u vacant ps d refl

-- ---- any command of u

pub carry_other : (v u : ℕ) → eqb v u ≡ false → (e : Effect) (w : World) → find v (carry u e w).facility.places ≡ find v w.facility.places
carry_other v u d (refused n) w = refl
carry_other v u d (gives n b) w = refl
carry_other v u d (keeps h) w = give_other v u h w.facility.places d
carry_other v u d leaves w = leave_other v u w.facility.places d
carry_other v u d (enters password) w = refl
carry_other v u d (writes b h) w = give_other v u h w.facility.places d

pub carry_keys : (u : ℕ) (e : Effect) (w : World) → (carry u e w).facility.current_keys ≡ w.facility.current_keys
carry_keys u (refused n) w = refl
carry_keys u (gives n b) w = refl
carry_keys u (keeps h) w = refl
carry_keys u leaves w = refl
carry_keys u (enters password) w = refl
carry_keys u (writes b h) w = refl

pub carry-old : (u : ℕ) (e : Effect) (w : World) → (carry u e w).facility.old_keys ≡ w.facility.old_keys
carry-old u (refused n) w = refl
carry-old u (gives n b) w = refl
carry-old u (keeps h) w = refl
carry-old u leaves w = refl
carry-old u (enters password) w = refl
carry-old u (writes b h) w = refl

pub carry_due : (u : ℕ) (e : Effect) (w : World) → (carry u e w).facility.due ≡ w.facility.due
carry_due u (refused n) w = refl
carry_due u (gives n b) w = refl
carry_due u (keeps h) w = refl
carry_due u leaves w = refl
carry_due u (enters password) w = refl
carry_due u (writes b h) w = refl

module _ (w : World) (u : ℕ) (c : UserCommand) (out : Bytes) where
  -- it leaves what v holds
  pub others_stay : (v : ℕ) → (v ≡ u → ⊥) → find v (step w (by u c) out).world.facility.places ≡ find v w.facility.places
  unfolding step
  others_stay v n = carry_other v u (ne_eqb v u n) (rule_in w u c out) w

  -- and the current interchange keys
  pub keys_stay : (step w (by u c) out).world.facility.current_keys ≡ w.facility.current_keys
  unfolding step
  keys_stay = carry_keys u (rule_in w u c out) w

pub has_place : (o : Option Holdings) → (seat_of o).active ≡ true → o ≡ Some (seat_of o).holdings
unfolding seat_of
has_place None a = absurd (false≢true a)
has_place (Some h) a = refl

module _ (w : World) (u : ℕ) (h : Holdings) (active : IsActive u w) where
  pub holding_place : find u (holding w u h).facility.places ≡ Some h
  holding_place = give-own u _ h w.facility.places (has_place (find u w.facility.places) active)

  pub holding_sides : sides_of u (holding w u h) ≡ h
  unfolding seat_of
  holding_sides = ap (λ o. (seat_of o).holdings) holding_place

  pub holding_active : IsActive u (holding w u h)
  unfolding seat_of
  holding_active = ap (λ o. (seat_of o).active) holding_place

  -- and the rest is as it was
  pub holding_rest : RestAsItWas u w (holding w u h)
  holding_rest = record { others = λ v n. give_other v u h w.facility.places (ne_eqb v u n); current = refl; old = refl; due = refl; table = refl }
