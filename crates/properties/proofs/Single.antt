-- No command gives one identifier two places; nor, where a state is handed in that has it so, one more.
use Rattle.std.specs.Prelude.{◌≡◌, Bool, true, false, cond, List, [], ◌∷◌, ℕ, suc, ◌≤◌, eqb}
use Rattle.std.proofs.Math.Path.{refl}
use Rattle.std.proofs.Common.{sym, ap, ◌∙◌, subst, arith, eqb-true}
use Rattle.std.proofs.lemmas.Bool.{false≢true}
use Rattle.std.specs.Prelude.{Option, None, Some}
use Rattle.ground.specs.Search.{by_test}
use Rattle.state.specs.declared.Holdings.{Holdings}
use Rattle.state.specs.declared.Place.{Place}
use Rattle.state.specs.State.{Bytes, has, seat, vacant, find, put, admit, give, give_to, leave, rekeyed, key_at, fresh, bare}
use Rattle.rules.specs.World.{World, over}
use Rattle.rules.specs.Refusals.{first_of}
use Rattle.rules.specs.Commands.{Command, by, EIK, IPW, RPW, logout, LAU, Effect, refused, gives, keeps, leaves, enters, writes, tests, keyed, undue}
use Rattle.rules.specs.Step.{Done, Refused, carry, rule_in, result, plain, step, settled}
use Rattle.table.specs.Entries.{enrolled}
use Rattle.table.specs.Passwords.{sealed, moved}
use Rattle.properties.specs.Single.{count, Single}

-- ---- places put, admitted and freed

pub has_same : (u v : ℕ) (p : Place) → has u p ≡ true → has v p ≡ eqb v u
has_same u v p h =
    by_test p.taken
    (λ t.
    let e : u ≡ p.user = eqb-true u p.user (sym (ap (λ (b : Bool). cond b (eqb u p.user) false) t) ∙ h) in
    ap (λ (b : Bool). cond b (eqb v p.user) false) t ∙ ap (eqb v) (sym e))
    (λ f. absurd (false≢true (sym (ap (λ (b : Bool). cond b (eqb u p.user) false) f) ∙ h)))

count-put : (v u : ℕ) (h : Holdings) (ps : List Place) → count v (put u (seat u h) ps) ≡ count v ps
count-put v u h [] = refl
count-put v u h (p ∷ ps) =
    by_test (has u p)
    (λ t.
    ap (λ (b : Bool). count v (cond b (seat u h ∷ ps) (p ∷ put u (seat u h) ps))) t
    ∙ ap (λ (b : Bool). cond b (suc (count v ps)) (count v ps)) (sym (has_same u v p t)))
    (λ f.
    ap (λ (b : Bool). count v (cond b (seat u h ∷ ps) (p ∷ put u (seat u h) ps))) f
    ∙ ap (λ (n : ℕ). cond (has v p) (suc n) n) (count-put v u h ps))

more : (b : Bool) (m n : ℕ) → m ≤ n → cond b (suc m) m ≤ cond b (suc n) n
more true m n h = omega arith
more false m n h = h

fewer : (b : Bool) (n : ℕ) → n ≤ cond b (suc n) n
fewer true n = omega arith
fewer false n = omega arith

count-leave : (v u : ℕ) (ps : List Place) → count v (put u vacant ps) ≤ count v ps
count-leave v u [] = omega arith
count-leave v u (p ∷ ps) =
    by_test (has u p)
    (λ t. subst (λ (b : Bool). count v (cond b (vacant ∷ ps) (p ∷ put u vacant ps)) ≤ count v (p ∷ ps)) (sym t) (fewer (has v p) (count v ps)))
    (λ f. subst (λ (b : Bool). count v (cond b (vacant ∷ ps) (p ∷ put u vacant ps)) ≤ count v (p ∷ ps)) (sym f) (more (has v p) (count v (put u vacant ps)) (count v ps) (count-leave v u ps)))

one_more : (a b : Bool) (m n : ℕ) → m ≤ cond a (suc n) n → cond b (suc m) m ≤ cond a (suc (cond b (suc n) n)) (cond b (suc n) n)
one_more true true m n h = omega arith
one_more true false m n h = omega arith
one_more false true m n h = omega arith
one_more false false m n h = omega arith

count-admit : (v : ℕ) (x : Place) (ps : List Place) → count v (admit x ps) ≤ cond (has v x) (suc (count v ps)) (count v ps)
count-admit v x [] = fewer (has v x) 0
count-admit v x (p ∷ ps) =
    by_test p.taken
    (λ t.
    subst (λ (b : Bool). count v (cond b (p ∷ admit x ps) (x ∷ ps)) ≤ cond (has v x) (suc (count v (p ∷ ps))) (count v (p ∷ ps))) (sym t)
    (one_more (has v x) (has v p) (count v (admit x ps)) (count v ps) (count-admit v x ps)))
    (λ f.
    let n : has v p ≡ false = ap (λ (b : Bool). cond b (eqb v p.user) false) f in
    let e : count v (p ∷ ps) ≡ count v ps = ap (λ (b : Bool). cond b (suc (count v ps)) (count v ps)) n in
    subst (λ (b : Bool). count v (cond b (p ∷ admit x ps) (x ∷ ps)) ≤ cond (has v x) (suc (count v (p ∷ ps))) (count v (p ∷ ps))) (sym f)
    (subst (λ (k : ℕ). count v (x ∷ ps) ≤ cond (has v x) (suc k) k) (sym e) (omega arith)))

nowhere : (u : ℕ) (ps : List Place) → find u ps ≡ None → count u ps ≡ 0
nowhere u [] e = refl
nowhere u (p ∷ ps) e =
    by_test (has u p)
    (λ t. absurd (let z : ◌≡◌ {A = ℕ} 0 1 = never (sym (ap (λ (b : Bool). cond b (Some p.holdings) (find u ps)) t) ∙ e) in omega arith))
    (λ f. ap (λ (b : Bool). cond b (suc (count u ps)) (count u ps)) f ∙ nowhere u ps (sym (ap (λ (b : Bool). cond b (Some p.holdings) (find u ps)) f) ∙ e))
  where
    never : Some p.holdings ≡ None → ◌≡◌ {A = ℕ} 0 1
    never q = cc

-- ---- every command

-- an identifier v, and a number of places n, one at least
module _ (v n : ℕ) (one : 1 ≤ n) where
  -- v holds at most n places
  abbrev AtMost : List Place → Type 0
  AtMost ps = count v ps ≤ n

  given : (o : Option Holdings) (u : ℕ) (h : Holdings) (ps : List Place) → find u ps ≡ o → AtMost ps → AtMost (give_to o u h ps)
  given None u h ps e s =
      by_test (eqb v u)
      (λ t.
      let z : count v ps ≡ 0 = ap (λ (i : ℕ). count i ps) (eqb-true v u t) ∙ nowhere u ps e in
      let a : count v (admit (seat u h) ps) ≤ suc (count v ps) = subst (λ (b : Bool). count v (admit (seat u h) ps) ≤ cond b (suc (count v ps)) (count v ps)) t (count-admit v (seat u h) ps) in
      omega arith)
      (λ f.
      let a : count v (admit (seat u h) ps) ≤ count v ps = subst (λ (b : Bool). count v (admit (seat u h) ps) ≤ cond b (suc (count v ps)) (count v ps)) f (count-admit v (seat u h) ps) in
      omega arith)
  given (Some g) u h ps e s = subst (λ (k : ℕ). k ≤ n) (sym (count-put v u h ps)) s

  carried : (u : ℕ) (e : Effect) (w : World) → AtMost w.facility.places → AtMost (carry u e w).facility.places
  unfolding give leave
  carried u (refused k) w s = s
  carried u (gives k b) w s = s
  carried u (keeps h) w s = given (find u w.facility.places) u h w.facility.places refl s
  carried u leaves w s = omega (arith, count-leave v u w.facility.places)
  carried u (enters password) w s = s
  carried u (writes b h) w s = given (find u w.facility.places) u h w.facility.places refl s

  -- an officer's command, done or refused
  officers : (k : ℕ) (w w' : World) (out : Bytes) → AtMost w.facility.places → w'.facility.places ≡ w.facility.places → AtMost (settled k w out w').world.facility.places
  officers k w w' out s e =
      by_test (eqb k 0)
      (λ t. subst (λ (b : Bool). AtMost (cond b (result (plain Done out) w') (result (plain (Refused k) out) w)).world.facility.places) (sym t) (subst AtMost (sym e) s))
      (λ f. subst (λ (b : Bool). AtMost (cond b (result (plain Done out) w') (result (plain (Refused k) out) w)).world.facility.places) (sym f) s)

  -- who holds at most n places before a command holds at most n after it, whatever places others hold
  pub at_most : (w : World) (c : Command) (out : Bytes) → count v w.facility.places ≤ n → count v (step w c out).world.facility.places ≤ n
  unfolding step keyed rekeyed
  at_most w (by u c) out s = carried u (rule_in w u c out) w s
  at_most w (EIK i k) out s = officers (first_of (tests (EIK i k) w out)) w (over (keyed i k w.facility) w.table) out s refl
  at_most w (IPW u p) out s =
      officers (first_of (tests (IPW u p) w out)) w (over w.facility (enrolled u (sealed (key_at 1 w.facility.current_keys).value.0 u p) w.table)) out s refl
  at_most w RPW out s =
      officers (first_of (tests RPW w out)) w
      (over (undue w.facility) (moved (key_at 1 w.facility.old_keys).value.0 (key_at 1 w.facility.current_keys).value.0 w.table)) out s refl
  at_most w (logout u) out s = carried u (rule_in w u LAU out) w s

-- one place at most stays one at most
pub single_each : (w : World) (c : Command) (out : Bytes) (v : ℕ) → count v w.facility.places ≤ 1 → count v (step w c out).world.facility.places ≤ 1
single_each w c out v s = at_most v 1 (omega arith) w c out s

pub single : (w : World) (c : Command) (out : Bytes) → Single w.facility.places → Single (step w c out).world.facility.places
single w c out s v = single_each w c out v (s v)

-- whatever a user's request does
pub single_carried : (u : ℕ) (e : Effect) (w : World) → Single w.facility.places → Single (carry u e w).facility.places
single_carried u e w s v = carried v 1 (omega arith) u e w (s v)

-- a fresh facility has no users
pub single_fresh : Single fresh.places
unfolding bare
single_fresh u = omega arith
