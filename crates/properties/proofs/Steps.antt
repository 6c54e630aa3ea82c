-- A user's command that is not refused: its conditions all fail, and its step is its effect.
use Rattle.std.specs.Prelude.{◌≡◌, refl, true, false, cond, not, List, [], ◌∷◌, eqb}
use Rattle.std.proofs.Math.Path.{sym, ap}
use Rattle.std.proofs.Common.{◌∙◌, subst, true≢false, arith}
use Rattle.std.proofs.Math.Bool.{Bool}
use Rattle.std.specs.Prelude.{None, Some}
use Prim.Native.Nat.{ℕ}
use borrow.Author.Tests.{eqb-true, eqb-false, eq-eqb}
use Rattle.ground.specs.Search.{by_test}
use Rattle.state.specs.declared.Holdings.{Holdings}
use Rattle.state.specs.declared.Place.{Place}
use Rattle.state.specs.State.{Bytes, has, seat, find, put, give}
use Rattle.table.specs.Passwords.{big}
use Rattle.rules.specs.World.{World, own}
use Rattle.rules.specs.Refusals.{test, big_pair}
use Rattle.rules.specs.Commands.{UserCommand, by, refused, effect}
use Rattle.rules.specs.Step.{Done, Refused, result, told, plain, carry, number_of, rule, step, settled}
use Rattle.rules.proofs.Laws.{passed}
use Rattle.properties.specs.Steps.{list_of, Accepted}

module _ (w : World) (u : ℕ) (c : UserCommand) (out : Bytes) where
  pub accepted_first : Accepted w u c out → list_of w u c out ≡ 0
  unfolding step rule
  accepted_first h =
      by_test (eqb (list_of w u c out) 0)
      (λ e. eqb-true (list_of w u c out) 0 e)
      (λ e. absurd (eqb-false (list_of w u c out) 0 e (subst (λ (b : Bool). number_of (told (cond b (effect u c (own u w)) (refused (list_of w u c out))) out).answer ≡ 0) e h)))

  pub done-step : list_of w u c out ≡ 0 → step w (by u c) out ≡ result (told (effect u c (own u w)) out) (carry u (effect u c (own u w)) w)
  unfolding step rule
  done-step z =
      ap (λ (b : Bool). result (told (cond b (effect u c (own u w)) (refused (list_of w u c out))) out) (carry u (cond b (effect u c (own u w)) (refused (list_of w u c out))) w))
      (eq-eqb (list_of w u c out) 0 z)

  -- its reply is the first of its list
  pub reply-first : number_of (told (effect u c (own u w)) out).answer ≡ 0 → number_of (step w (by u c) out).answered.answer ≡ list_of w u c out
  unfolding step rule
  reply-first d =
      let n = list_of w u c out in
      let told-as : Bool → ℕ = λ b. number_of (told (cond b (effect u c (own u w)) (refused n)) out).answer in
      by_test (eqb n 0) (λ e. ap told-as e ∙ d ∙ sym (eqb-true n 0 e)) (λ e. ap told-as e)

-- an officer's command that was done: none of its conditions holds, and the world is as its effect says
module _ (n : ℕ) (w w' : World) (out : Bytes) where
  pub settled-first : number_of (settled n w out w').answered.answer ≡ 0 → n ≡ 0
  settled-first h =
      by_test (eqb n 0)
      (λ e. eqb-true n 0 e)
      (λ e. absurd (eqb-false n 0 e (subst (λ (b : Bool). number_of (cond b (result (plain Done out) w') (result (plain (Refused n) out) w)).answered.answer ≡ 0) e h)))

  pub settled-done : n ≡ 0 → settled n w out w' ≡ result (plain Done out) w'
  settled-done z = ap (λ (b : Bool). cond b (result (plain Done out) w') (result (plain (Refused n) out) w)) (eq-eqb n 0 z)

-- the first condition fails, and so do the others
pub next : (b : Bool) (n m : ℕ) → (n ≡ 0 → ⊥) → test b n m ≡ 0 → (b ≡ false) × (m ≡ 0)
next b n m h z = passed (test b n m) b n m refl z h

-- and where all fail, the verdict is 0
pub fails : (b : Bool) (n m : ℕ) → b ≡ false → m ≡ 0 → test b n m ≡ 0
unfolding test
fails true n m e z = absurd (true≢false e)
fails false n m e z = z

pub not_false : (b : Bool) → not b ≡ false → b ≡ true
not_false true e = refl
not_false false e = absurd (true≢false e)

pub pair_small : (i j : ℕ) → big_pair i j ≡ false → (big i ≡ false) × (big j ≡ false)
unfolding big_pair
pair_small i j h =
    by_test (big i)
    (λ e. absurd (true≢false (sym (ap (λ (b : Bool). cond b true (big j)) e) ∙ h)))
    (λ e. (e, sym (ap (λ (b : Bool). cond b true (big j)) e) ∙ h))

pub small_pair : (i j : ℕ) → big i ≡ false → big j ≡ false → big_pair i j ≡ false
unfolding big_pair
small_pair i j a b = ap (λ (x : Bool). cond x true (big j)) a ∙ b

-- none is not some
pub none_not_some : {A : Type 0} {a : A} → None ≡ Some a → ⊥
none_not_some q = let z : ◌≡◌ {A = ℕ} 0 1 = cc in omega arith

-- ---- what a user holds after it was given to him

has-seat : (u : ℕ) (h : Holdings) → has u (seat u h) ≡ true
has-seat u h = eq-eqb u u refl

pub put-own : (u : ℕ) (h h' : Holdings) (ps : List Place) → find u ps ≡ Some h → find u (put u (seat u h') ps) ≡ Some h'
put-own u h h' [] e = absurd (none_not_some e)
put-own u h h' (p ∷ ps) e =
    by_test (has u p)
    (λ t.
    ap (λ (b : Bool). find u (cond b (seat u h' ∷ ps) (p ∷ put u (seat u h') ps))) t
    ∙ ap (λ (b : Bool). cond b (Some h') (find u ps)) (has-seat u h'))
    (λ f.
    ap (λ (b : Bool). find u (cond b (seat u h' ∷ ps) (p ∷ put u (seat u h') ps))) f
    ∙ ap (λ (b : Bool). cond b (Some p.holdings) (find u (put u (seat u h') ps))) f
    ∙ put-own u h h' ps (sym (ap (λ (b : Bool). cond b (Some p.holdings) (find u ps)) f) ∙ e))

pub give-own : (u : ℕ) (h h' : Holdings) (ps : List Place) → find u ps ≡ Some h → find u (give u h' ps) ≡ Some h'
unfolding give
give-own u h h' ps e = rw e (put-own u h h' ps e)
