-- "The password of IPW is accepted by RAS and by CPW"; the one that CPW gives is accepted afterwards.
use Rattle.std.specs.Prelude.{◌≡◌, refl, Bool, false, List, [], ◌∷◌, ℕ, ◌<◌, eqb}
use Rattle.std.proofs.Common.{sym, ap₂, ◌∙◌, true≢false, arith, eqb-true, eq-eqb, ltb-false}
use Rattle.std.proofs.Math.Path.{ap, subst}
use Rattle.std.proofs.Math.Bool.{true, cond, not}
use Rattle.std.proofs.lemmas.Bool.{false≢true}
use Rattle.std.specs.Prelude.{None, Some}
use Rattle.ground.specs.Search.{by_test}
use Rattle.cipher.specs.Cipher.{Octets, deciphered}
use Rattle.cipher.proofs.Promise.{deciphered-enciphered}
use Rattle.keys.specs.Keys.{notarized}
use Rattle.state.specs.declared.Holdings.{Holdings}
use Rattle.state.specs.declared.Place.{Place}
use Rattle.state.specs.State.{Bytes, bare, seat, has, find, all_taken, admit, give, shut_to}
use Rattle.table.specs.Entries.{fits, entry_of, enrolled}
use Rattle.table.specs.Passwords.{big, sealed, same, authentic}
use Rattle.table.proofs.Laws.{sealed_eight}
use Rattle.state.specs.State.{seat_of}
use Rattle.rules.specs.World.{World, over, key1}
use Rattle.rules.specs.Refusals.{lacks_entry, first_of}
use Rattle.rules.specs.Commands.{RAS, CPW, by, IPW, tests, refusals, effect}
use Rattle.rules.specs.Step.{number_of, step}
use Rattle.properties.specs.Steps.{Performed, list_of}
use Rattle.properties.proofs.Steps.{done-step, settled-first, settled-done, next, fails, not_false, none_not_some}
use Rattle.properties.specs.Tables.{become}
use Rattle.properties.proofs.Tables.{enter_size, enter-own, enrolled_size, enrolled-own}
use Rattle.properties.proofs.Demand1.{not-given}
use Rattle.properties.specs.Passwords.{authenticates, Stands, Active, Inactive, Room}

-- ---- the same bytes

pub same-own : (a : Bytes) → same a a ≡ true
unfolding same
same-own [] = refl
same-own (x ∷ xs) = ap (λ (b : Bool). cond b (same xs xs) false) (eq-eqb x x refl) ∙ same-own xs

pub same_equal : (a b : Bytes) → same a b ≡ true → a ≡ b
unfolding same
same_equal [] [] h = refl
same_equal [] (y ∷ ys) h = absurd (false≢true h)
same_equal (x ∷ xs) [] h = absurd (false≢true h)
same_equal (x ∷ xs) (y ∷ ys) h =
    by_test (eqb x y)
    (λ e. ap₂ (λ (z : ℕ) (zs : Bytes). z ∷ zs) (eqb-true x y e) (same_equal xs ys (sym (ap (λ (b : Bool). cond b (same xs ys) false) e) ∙ h)))
    (λ e. absurd (false≢true (sym (ap (λ (b : Bool). cond b (same xs ys) false) e) ∙ h)))

-- where the password p stands, it authenticates, and no other does
pub stands_authentic : (w : World) (u : ℕ) (p : Bytes) → Stands w u p → authenticates w u p ≡ true
unfolding authentic
stands_authentic w u p s = ap (authentic (key1 w) u p) s.entry ∙ same-own (sealed (key1 w) u p)

pub stands_only : (w : World) (u : ℕ) (p q : Bytes) → Stands w u p → Octets p → Octets q → authenticates w u q ≡ true → q ≡ p
unfolding authentic sealed
stands_only w u p q s o o' e =
    let k = notarized (key1 w) u u in
    let alike : sealed (key1 w) u p ≡ sealed (key1 w) u q = same_equal _ _ (sym (ap (authentic (key1 w) u q) s.entry) ∙ e) in
    sym (deciphered-enciphered k q o') ∙ ap (deciphered k) (sym alike) ∙ deciphered-enciphered k p o

pub small_number : (u : ℕ) → big u ≡ false → u < 4294967295
unfolding big
small_number u h = omega (arith, ltb-false 268435455 u h)

-- ---- after IPW

pub ipw_stands : (w : World) (u : ℕ) (p out : Bytes) → Performed w (IPW u p) out → Stands (step w (IPW u p) out).world u p
unfolding step tests
ipw_stands w u p out done =
    let b = sealed (key1 w) u p in
    let n = first_of (tests (IPW u p) w out) in
    let w' = over w.facility (enrolled u b w.table) in
    let z : n ≡ 0 = settled-first n w w' out done in
    let c1 = next (big u) 1 _ (λ q. omega arith) z in
    let c2 = next _ 2 _ (λ q. omega arith) c1.1 in
    let c6 = next _ 6 _ (λ q. omega arith) c2.1 in
    let c7 = next _ 7 _ (λ q. omega arith) c6.1 in
    let c15 = next (lacks_entry u w.table) 15 0 (λ q. omega arith) c7.1 in
    let e = sealed_eight (key1 w) u p in
    let s = small_number u c1.0 in
    subst (λ r. Stands r.world u p) (sym (settled-done n w w' out z)) (record {
      small = c1.0;
      table = ap fits (enrolled_size u b w.table e s) ∙ not_false _ c2.0;
      key = not_false _ c6.0;
      turn = c7.0;
      entry = enrolled-own u b w.table e s c15.0;
    })

-- ---- RAS and CPW where a password stands

admit-own : (u : ℕ) (h : Holdings) (ps : List Place) → find u ps ≡ None → all_taken ps ≡ false → find u (admit (seat u h) ps) ≡ Some h
admit-own u h [] e f = absurd (true≢false f)
admit-own u h (p ∷ ps) e f =
    by_test p.taken
    (λ t. by_test (has u p)
    (λ m. absurd (none_not_some (sym e ∙ ap (λ (b : Bool). cond b (Some p.holdings) (find u ps)) m)))
    (λ m.
    ap (λ (b : Bool). find u (cond b (p ∷ admit (seat u h) ps) (seat u h ∷ ps))) t
    ∙ ap (λ (b : Bool). cond b (Some p.holdings) (find u (admit (seat u h) ps))) m
    ∙ admit-own u h ps (sym (ap (λ (b : Bool). cond b (Some p.holdings) (find u ps)) m) ∙ e) (sym (ap (λ (b : Bool). cond b (all_taken ps) false) t) ∙ f)))
    (λ t.
    ap (λ (b : Bool). find u (cond b (p ∷ admit (seat u h) ps) (seat u h ∷ ps))) t
    ∙ ap (λ (b : Bool). cond b (Some h) (find u ps)) (eq-eqb u u refl))

module _ (w : World) (u : ℕ) (p out : Bytes) (stands : Stands w u p) where
  wrong_no_more : not (authenticates w u p) ≡ false
  wrong_no_more = ap not (stands_authentic w u p stands)

  -- neither is ever answered 9
  pub ras-not_9 : number_of (step w (by u (RAS p)) out).answered.answer ≡ 9 → ⊥
  unfolding tests refusals
  ras-not_9 = not-given w (by u (RAS p)) out 9 (λ q. omega arith) (ap (λ (b : Bool). cond b true false) wrong_no_more)

  pub cpw_not_9 : (new : Bytes) → number_of (step w (by u (CPW p new)) out).answered.answer ≡ 9 → ⊥
  unfolding tests refusals
  cpw_not_9 new = not-given w (by u (CPW p new)) out 9 (λ q. omega arith) (ap (λ (b : Bool). cond b true false) wrong_no_more)

  -- RAS is done where u is not active and a place is free: u is then active with nothing loaded, and the password stands
  ras-first : Inactive u w → Room w → list_of w u (RAS p) out ≡ 0
  unfolding refusals seat_of shut_to
  ras-first i r =
      fails (big u) 1 _ stands.small
      (fails _ 2 _ (ap not stands.table)
      (fails _ 4 _ (ap (λ s. (seat_of s).active) i)
      (fails _ 6 _ (ap not stands.key)
      (fails _ 7 _ stands.turn
      (fails _ 8 _ (ap (λ s. shut_to s w.facility.places) i ∙ r)
      (fails _ 9 0 wrong_no_more refl))))))

  pub ras-done : Inactive u w → Room w → Performed w (by u (RAS p)) out × Active u bare (step w (by u (RAS p)) out).world × Stands (step w (by u (RAS p)) out).world u p
  unfolding effect give
  ras-done i r =
      let d = done-step w u (RAS p) out (ras-first i r) in (
        ap (λ x. number_of x.answered.answer) d,
        ap (λ x. find u x.world.facility.places) d ∙ rw i (admit-own u bare w.facility.places i r),
        subst (λ x. Stands x.world u p) (sym d)
            (record { small = stands.small; table = stands.table; key = stands.key; turn = stands.turn; entry = stands.entry }),
      )

  -- CPW is done where u is active: the new password stands
  cpw_first : (h : Holdings) (new : Bytes) → Active u h w → list_of w u (CPW p new) out ≡ 0
  unfolding refusals seat_of
  cpw_first h new a =
      fails (big u) 1 _ stands.small
      (fails _ 2 _ (ap not stands.table)
      (fails _ 3 _ (ap (λ s. not (seat_of s).active) a)
      (fails _ 6 _ (ap not stands.key)
      (fails _ 7 _ stands.turn
      (fails _ 9 0 wrong_no_more refl)))))

  pub cpw_done : (h : Holdings) (new : Bytes) → Active u h w
      → Performed w (by u (CPW p new)) out × Active u h (step w (by u (CPW p new)) out).world × Stands (step w (by u (CPW p new)) out).world u new
  unfolding effect
  cpw_done h new a =
      let d = done-step w u (CPW p new) out (cpw_first h new a) in
      let b = sealed (key1 w) u new in
      let e = sealed_eight (key1 w) u new in (
        ap (λ x. number_of x.answered.answer) d,
        ap (λ x. find u x.world.facility.places) d ∙ a,
        subst (λ x. Stands x.world u new) (sym d)
            (record {
              small = stands.small;
              table = ap fits (enter_size u b w.table e) ∙ stands.table;
              key = stands.key;
              turn = stands.turn;
              entry = enter-own u b w.table e ∙ ap (become b) stands.entry;
            }),
      )

-- ---- in a row: IPW, RAS, CPW

module _ (w : World) (u : ℕ) (p out : Bytes) (done : Performed w (IPW u p) out) where
  -- the world after IPW
  abbrev pub after : World
  after = (step w (IPW u p) out).world

  -- u's entry is the password enciphered under current key 1 notarized with (u, u)
  pub ipw-entry : entry_of u after.table ≡ Some (sealed (key1 after) u p)
  ipw-entry = (ipw_stands w u p out done).entry

  -- with it neither RAS nor CPW is ever answered 9
  pub never_9 : (new out' : Bytes)
      → (number_of (step after (by u (RAS p)) out').answered.answer ≡ 9 → ⊥) × (number_of (step after (by u (CPW p new)) out').answered.answer ≡ 9 → ⊥)
  never_9 new out' = (ras-not_9 after u p out' (ipw_stands w u p out done), cpw_not_9 after u p out' (ipw_stands w u p out done) new)

  -- RAS accepts it, where u is not active and a place is free
  pub ras-after-ipw : (out' : Bytes) → Inactive u after → Room after → Performed after (by u (RAS p)) out'
  ras-after-ipw out' i r = (ras-done after u p out' (ipw_stands w u p out done) i r).0

  -- CPW accepts it, where u is active, and the new password then authenticates
  pub cpw_after_ipw : (h : Holdings) (new out' : Bytes) → Active u h after
      → Performed after (by u (CPW p new)) out' × (authenticates (step after (by u (CPW p new)) out').world u new ≡ true)
  cpw_after_ipw h new out' a =
      let c = cpw_done after u p out' (ipw_stands w u p out done) h new a in
      (c.0, stands_authentic (step after (by u (CPW p new)) out').world u new c.2)

  -- CPW accepts it too after RAS
  pub cpw_after_ras : (new out' out'' : Bytes) → Inactive u after → Room after → Performed (step after (by u (RAS p)) out').world (by u (CPW p new)) out''
  cpw_after_ras new out' out'' i r =
      let d = ras-done after u p out' (ipw_stands w u p out done) i r in
      (cpw_done (step after (by u (RAS p)) out').world u p out'' d.2 bare new d.1).0
