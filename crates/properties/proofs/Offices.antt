-- The officer's and the host's commands, where they are done: what each alters, and that it alters nothing else.
use Rattle.std.specs.Prelude.{◌≡◌, Bool, true, false, cond, not, List, ℕ, ◌-◌, ◌≤◌, ltb, length, get_or, set}
use Rattle.std.proofs.Common.{sym, ◌∙◌, arith, get_or-set_same, get_or-set_other}
use Rattle.std.proofs.Math.Path.{ap}
use Rattle.std.proofs.lemmas.Bool.{false≢true}
use borrow.Author.Tests.{ltb-false, eq-eqb, ne_eqb}
use Rattle.ground.specs.Search.{by_test}
use Rattle.cipher.specs.declared.keys.InterchangeKey.{InterchangeKey}
use Rattle.state.specs.declared.Held.{Held}
use Rattle.state.specs.State.{held, Bytes, past_keys, named, key_at, rekeyed, find}
use Rattle.table.specs.Entries.{entry_of}
use Rattle.table.specs.Passwords.{big, sealed}
use Rattle.table.proofs.Laws.{sealed_eight}
use Rattle.rules.specs.World.{World, key1}
use Rattle.rules.specs.Refusals.{first_of, of_own}
use Rattle.rules.specs.Commands.{EIK, IPW, RPW, logout, LAU, tests, keyed, key_entered, password_entered, passwords_moved}
use Rattle.rules.specs.Step.{step, rule_in}
use Rattle.properties.specs.Steps.{Performed}
use Rattle.properties.proofs.Steps.{settled-first, settled-done, next, not_false}
use Rattle.properties.specs.Held.{IsSmall}
use Rattle.properties.proofs.Others.{carry_other, carry_keys, carry-old, carry_due}
use Rattle.properties.proofs.Tables.{enrolled_other}

-- ---- names: 1 to 15

pub at_fifteen : (p : ℕ) → named p ≡ true → (1 ≤ p) × (p ≤ 15)
unfolding named
at_fifteen p h =
    by_test (ltb p 1)
    (λ z. absurd (false≢true (sym (ap (λ (b : Bool). cond b false (cond (ltb 15 p) false true)) z) ∙ h)))
    (λ y. by_test (ltb 15 p)
    (λ z. absurd (false≢true (sym (ap (λ (b : Bool). cond b false true) z) ∙ sym (ap (λ (b : Bool). cond b false (cond (ltb 15 p) false true)) y) ∙ h)))
    (λ z. (ltb-false p 1 y, ltb-false 15 p z)))

-- another name's key, where one is set
key_other : (n i : ℕ) (x : Held InterchangeKey) (ks : List (Held InterchangeKey)) → named i ≡ true → (n ≡ i → ⊥)
    → key_at n (set ks (i - 1) x) ≡ key_at n ks
unfolding key_at
key_other n i x ks h d =
    by_test (named n)
    (λ e.
    let a = at_fifteen n e in
    let b = at_fifteen i h in
    rw e (get_or-set_other ks (i - 1) (n - 1) x past_keys (λ q. d (omega (arith, a.0, b.0)))))
    (λ e. rw e)

key-own : (i : ℕ) (x : Held InterchangeKey) (ks : List (Held InterchangeKey)) → named i ≡ true → length ks ≡ 15 → key_at i (set ks (i - 1) x) ≡ x
unfolding key_at
key-own i x ks h l =
    let b = at_fifteen i h in
    rw h (get_or-set_same ks (i - 1) x past_keys (omega (arith, b.0, b.1)))

-- ---- EIK

module _ (w : World) (i : ℕ) (k out : Bytes) (done : Performed w (EIK i k) out) where
  abbrev entered : World
  entered = (step w (EIK i k) out).world

  entered_is : entered ≡ key_entered i k w
  unfolding step
  entered_is =
      let n = first_of (tests (EIK i k) w out) in
      ap (λ r. r.world) (settled-done n w _ out (settled-first n w _ out done))

  name : named i ≡ true
  unfolding step tests
  name =
      let n = first_of (tests (EIK i k) w out) in
      not_false _ (next (not (named i)) 6 _ (λ q. omega arith) (settled-first n w _ out done)).0

  former : get_or w.facility.current_keys (i - 1) past_keys ≡ key_at i w.facility.current_keys
  unfolding key_at
  former = rw name

  -- "current, even a missing one, becomes old; given key becomes current"; every other name's keys, the places and the table are as they were.
  -- "EIK of name 1 sets DUE where that name already had a current key; EIK of another name never does"
  pub record KeyEntered : Type 0 where
    pub current : key_at i entered.facility.current_keys ≡ held (record { 0 = k })
    pub old : key_at i entered.facility.old_keys ≡ key_at i w.facility.current_keys
    pub other_current : (n : ℕ) → (n ≡ i → ⊥) → key_at n entered.facility.current_keys ≡ key_at n w.facility.current_keys
    pub other_old : (n : ℕ) → (n ≡ i → ⊥) → key_at n entered.facility.old_keys ≡ key_at n w.facility.old_keys
    pub due_own : i ≡ 1 → entered.facility.due ≡ (key_at 1 w.facility.current_keys).present
    pub due_other : (i ≡ 1 → ⊥) → entered.facility.due ≡ w.facility.due
    pub places : entered.facility.places ≡ w.facility.places
    pub table : entered.table ≡ w.table

  -- the arrays of the record have fifteen keys each, by its type
  pub key-entered : length w.facility.current_keys ≡ 15 → length w.facility.old_keys ≡ 15 → KeyEntered
  unfolding keyed rekeyed of_own
  key-entered all all_old =
      record {
        current = ap (λ x. key_at i x.facility.current_keys) entered_is ∙ rw name (key-own i _ w.facility.current_keys name all);
        old =
            ap (λ x. key_at i x.facility.old_keys) entered_is ∙ rw name (key-own i _ w.facility.old_keys name all_old)
            ∙ former;
        other_current = λ n d. ap (λ x. key_at n x.facility.current_keys) entered_is ∙ rw name (key_other n i _ w.facility.current_keys name d);
        other_old = λ n d. ap (λ x. key_at n x.facility.old_keys) entered_is ∙ rw name (key_other n i _ w.facility.old_keys name d);
        due_own = λ e. ap (λ x. x.facility.due) entered_is ∙ rw (eq-eqb i 1 e);
        due_other = λ d. ap (λ x. x.facility.due) entered_is ∙ rw (ne_eqb i 1 d);
        places = ap (λ x. x.facility.places) entered_is;
        table = ap (λ x. x.table) entered_is;
      }

-- ---- IPW

module _ (w : World) (u : ℕ) (p out : Bytes) (done : Performed w (IPW u p) out) where
  abbrev enrolled : World
  enrolled = (step w (IPW u p) out).world

  enrolled_is : enrolled ≡ password_entered u p w
  unfolding step
  enrolled_is =
      let n = first_of (tests (IPW u p) w out) in
      ap (λ r. r.world) (settled-done n w _ out (settled-first n w _ out done))

  small : big u ≡ false
  unfolding step tests
  small =
      let n = first_of (tests (IPW u p) w out) in
      (next (big u) 1 _ (λ q. omega arith) (settled-first n w _ out done)).0

  -- every other user's entry, and the facility, are as they were
  pub record PasswordEntered : Type 0 where
    pub others : (v : ℕ) → IsSmall v → (v ≡ u → ⊥) → entry_of v enrolled.table ≡ entry_of v w.table
    pub facility : enrolled.facility ≡ w.facility

  pub password-entered : PasswordEntered
  unfolding big
  password-entered =
      record {
        others = λ v s d.
            ap (λ x. entry_of v x.table) enrolled_is
            ∙ enrolled_other u (sealed (key1 w) u p) w.table (sealed_eight (key1 w) u p) (let l = ltb-false 268435455 u small in omega arith)
            v (ne_eqb v u d) (ne_eqb v 4294967295 (λ q. omega arith));
        facility = ap (λ x. x.facility) enrolled_is;
      }

-- ---- RPW

module _ (w : World) (out : Bytes) (done : Performed w RPW out) where
  abbrev moved : World
  moved = (step w RPW out).world

  moved_is : moved ≡ passwords_moved w
  unfolding step
  moved_is =
      let n = first_of (tests RPW w out) in
      ap (λ r. r.world) (settled-done n w _ out (settled-first n w _ out done))

  -- "DUE cleared"; all keys, the old ones too, and the places are as they were
  pub record PasswordsMoved : Type 0 where
    pub due : moved.facility.due ≡ false
    pub current : moved.facility.current_keys ≡ w.facility.current_keys
    pub old : moved.facility.old_keys ≡ w.facility.old_keys
    pub places : moved.facility.places ≡ w.facility.places

  pub passwords_moved_lem : PasswordsMoved
  passwords_moved_lem =
      record {
        due = ap (λ x. x.facility.due) moved_is;
        current = ap (λ x. x.facility.current_keys) moved_is;
        old = ap (λ x. x.facility.old_keys) moved_is;
        places = ap (λ x. x.facility.places) moved_is;
      }

-- ---- host logout: "as LAU for the named user"

module _ (w : World) (u : ℕ) (out : Bytes) where
  abbrev left : World
  left = (step w (logout u) out).world

  -- every other user's holdings, the keys and DUE are as they were
  pub record LoggedOut : Type 0 where
    pub others : (v : ℕ) → (v ≡ u → ⊥) → find v left.facility.places ≡ find v w.facility.places
    pub current : left.facility.current_keys ≡ w.facility.current_keys
    pub old : left.facility.old_keys ≡ w.facility.old_keys
    pub due : left.facility.due ≡ w.facility.due

  pub logged_out : LoggedOut
  unfolding step
  logged_out =
      record {
        others = λ v d. carry_other v u (ne_eqb v u d) (rule_in w u LAU out) w;
        current = carry_keys u (rule_in w u LAU out) w;
        old = carry-old u (rule_in w u LAU out) w;
        due = carry_due u (rule_in w u LAU out) w;
      }
