-- "ECB and DAUT alter nothing held": done or refused, the world after them is the world before.
use Rattle.std.specs.Prelude.{◌≡◌, refl, true, false, cond, ℕ, eqb, length}
use Rattle.std.proofs.Common.{sym, ap₂, ◌∙◌, arith, eqb-true}
use Rattle.std.proofs.Math.Path.{ap}
use Rattle.std.proofs.Math.Bool.{Bool}
use Rattle.std.proofs.lemmas.Bool.{false≢true}
use Rattle.std.specs.Prelude.{Option, None, Some}
use mathlib.Core.List.{List, [], ◌∷◌}
use Rattle.ground.specs.Search.{by_test}
use Rattle.cipher.specs.declared.keys.Vector.{Vector}
use Rattle.cipher.specs.declared.modes.Mode.{Mode}
use Rattle.cipher.specs.declared.modes.Mode.TheVariants.{Ecbe, Ecbd}
use Rattle.state.specs.declared.Holdings.{Holdings}
use Rattle.state.specs.declared.Place.{Place}
use Rattle.state.specs.State.{Bytes, has, seat, find, put, give, give_to, with_places}
use Rattle.state.specs.State.{seat_of}
use Rattle.rules.specs.World.{World, over, own, shut_for}
use Rattle.rules.specs.Sides.{after_mode}
use Rattle.rules.specs.Commands.{UserCommand, by, mode, DAUT, refused, refusals, effect}
use Rattle.rules.specs.Step.{step, carry, rule}
use Rattle.rules.proofs.Laws.{mode_first}
use Rattle.properties.specs.Steps.{list_of}
use Rattle.properties.proofs.Steps.{next, not_false}

-- ---- what u holds, given to u again

own-seat : (u : ℕ) (p : Place) → has u p ≡ true → seat u p.holdings ≡ p
own-seat u p h =
    by_test p.taken
    (λ t.
    let e : u ≡ p.user = eqb-true u p.user (sym (ap (λ (b : Bool). cond b (eqb u p.user) false) t) ∙ h) in
    ap₂ (λ (b : Bool) (i : ℕ). record { taken = b; user = i; holdings = p.holdings }) (sym t) e)
    (λ f. absurd (false≢true (sym (ap (λ (b : Bool). cond b (eqb u p.user) false) f) ∙ h)))

put_still : (u : ℕ) (ps : List Place) → put u (seat u (seat_of (find u ps)).holdings) ps ≡ ps
unfolding seat_of
put_still u [] = refl
put_still u (p ∷ ps) =
    let again : Bool → List Place = λ b. let x = seat u (seat_of (cond b (Some p.holdings) (find u ps))).holdings in cond b (x ∷ ps) (p ∷ put u x ps) in
    by_test (has u p)
    (λ t. ap again t ∙ ap (λ (x : Place). x ∷ ps) (own-seat u p t))
    (λ f. ap again f ∙ ap (λ (l : List Place). p ∷ l) (put_still u ps))

to_active : (o : Option Holdings) (u : ℕ) (h : Holdings) (ps : List Place) → (seat_of o).active ≡ true → give_to o u h ps ≡ put u (seat u h) ps
unfolding seat_of
to_active None u h ps a = absurd (false≢true a)
to_active (Some g) u h ps a = refl

give_still : (u : ℕ) (ps : List Place) → (seat_of (find u ps)).active ≡ true → give u (seat_of (find u ps)).holdings ps ≡ ps
unfolding give
give_still u ps a = to_active (find u ps) u (seat_of (find u ps)).holdings ps a ∙ put_still u ps

-- ---- the commands

-- refused, all is as it was; it is left to say what the effect does
module _ (w : World) (u : ℕ) (c : UserCommand) (out : Bytes) where
  either : (list_of w u c out ≡ 0 → carry u (effect u c (own u w)) w ≡ w) → (step w (by u c) out).world ≡ w
  unfolding step rule
  either h =
      let n = list_of w u c out in
      let after : Bool → World = λ b. carry u (cond b (effect u c (own u w)) (refused n)) w in
      by_test (eqb n 0) (λ t. ap after t ∙ h (eqb-true n 0 t)) (λ f. ap after f)

-- a mode that leaves the holdings
module _ (w : World) (u : ℕ) (m : Mode) (d out : Bytes) (leaves : (v : Vector) (h : Holdings) → after_mode m v h ≡ h) where
  is_active : list_of w u (mode m d) out ≡ 0 → (seat_of (find u w.facility.places)).active ≡ true
  unfolding refusals
  is_active z =
      let a = next _ 1 _ (λ q. omega arith) (sym (mode_first m u d (length out) (shut_for u w) (own u w)) ∙ z) in
      not_false _ (next _ 3 _ (λ q. omega arith) a.1).0

  mode_still : (step w (by u (mode m d)) out).world ≡ w
  unfolding effect
  mode_still =
      either w u (mode m d) out (λ z.
      ap (λ (h : Holdings). over (with_places w.facility (give u h w.facility.places)) w.table) (leaves _ (seat_of (find u w.facility.places)).holdings)
      ∙ ap (λ (ps : List Place). over (with_places w.facility ps) w.table) (give_still u w.facility.places (is_active z)))

module _ (w : World) (u : ℕ) (d out : Bytes) where
  pub ecbe_still : (step w (by u (mode Ecbe d)) out).world ≡ w
  unfolding after_mode
  ecbe_still = mode_still w u Ecbe d out (λ v h. refl)

  pub ecbd_still : (step w (by u (mode Ecbd d)) out).world ≡ w
  unfolding after_mode
  ecbd_still = mode_still w u Ecbd d out (λ v h. refl)

  pub daut_still : (f : ℕ) → (step w (by u (DAUT f d)) out).world ≡ w
  unfolding effect
  daut_still f = either w u (DAUT f d) out (λ z. refl)
