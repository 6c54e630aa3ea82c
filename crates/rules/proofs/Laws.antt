-- From the verdict 0 to what each condition then says.
use mathlib.Core.Path.{◌≡◌, refl, sym, ap, ◌∙◌}
use mathlib.Core.Bool.{Bool, true, false, cond, not, true≢false}
use mathlib.Core.List.{[], ◌∷◌}
use Prim.Native.Nat.{ℕ, ◌%◌, ◌≤◌}
use native.Mathlib.Omega.{arith}
use lib.Dec.{eqb}
use lib.ListN.{length}
use borrow.Author.Tests.{eqb-true, eqb-false, ne_eqb, ltb-false}
use Rattle.std.specs.Prelude.{IsErrAnd}
use Rattle.std.proofs.lemmas.Result.{err_from_is_err_and}
use Rattle.ground.specs.Search.{by_test}
use Rattle.cipher.specs.declared.modes.Mode.{Mode}
use Rattle.cipher.specs.declared.modes.Mode.TheVariants.{Ecbe, Ecbd, Cbce, Cbcd, Cfbe, Cfbd}
use Rattle.state.specs.declared.Facility.{Facility}
use Rattle.state.specs.State.{Bytes}
use Rattle.table.specs.Passwords.{big}
use Rattle.rules.specs.declared.Refusal.{Refusal}
use Rattle.rules.specs.declared.Refusal.TheVariants.{Identifier, TableLength, NotActive, AlreadyActive, KeyFunction, Interchange, OutOfTurn, AllTaken, NotAuthenticated}
use Rattle.rules.specs.declared.Refusal.TheVariants.{KeyMissing, VectorMissing, DataLength, OutputLength, EvenParity, NoEntry, Form, Cut}
use Rattle.rules.specs.World.{World, over, Own, own, shut_for, mine}
use Rattle.rules.specs.Sides.{mode_side, lacks_vector}
use Rattle.rules.specs.Refusals.{on, r1, r3, r10, r12⁸, r13, number, test, first_of, bad_length, bad_blocks}
use Rattle.rules.specs.Commands.{mode, DAUT, refusals, LAU, Command, by, EIK, IPW, RPW, logout, tests, Effect, refused, effect}
use Rattle.rules.specs.Step.{Refused, rule, carry, plain, told, Result, result, effected, step}
use Rattle.rules.specs.declared.Outcome.{Outcome}
use Rattle.rules.specs.Outcomes.{left}

-- where the verdict is 0, the test fails, and so do those after it
pub passed : (r : ℕ) (t : Bool) (n m : ℕ) → r ≡ test t n m → r ≡ 0 → (n ≡ 0 → ⊥) → (t ≡ false) × (m ≡ 0)
unfolding test
passed r true n m e z h = absurd (h (sym e ∙ z))
passed r false n m e z h = (refl, sym e ∙ z)

pub good_length : (n : ℕ) → bad_length n ≡ false → (n ≡ 0 → ⊥)
unfolding bad_length
good_length n h =
    by_test (eqb n 0)
    (λ e. absurd (true≢false (sym (ap (λ (b : Bool). cond b true (lib.Dec.ltb 32768 n)) e) ∙ h)))
    (λ e. eqb-false n 0 e)

pub good_blocks : (n : ℕ) → bad_blocks n ≡ false → n % 8 ≡ 0
unfolding bad_blocks
good_blocks n h =
    by_test (bad_length n)
    (λ a. absurd (true≢false (sym (ap (λ (b : Bool). cond b true (not (eqb (n % 8) 0))) a) ∙ h)))
    (λ a. by_test (eqb (n % 8) 0) (λ e. eqb-true (n % 8) 0 e)
    (λ e. absurd (true≢false (sym (ap not e) ∙ sym (ap (λ (b : Bool). cond b true (not (eqb (n % 8) 0))) a) ∙ h))))

-- the modes' lists, as one
pub mode_first : (m : Mode) (u : ℕ) (d : Bytes) (room : ℕ) (shut : Bool) (o : Own)
    → first_of (refusals u (mode m d) room shut o)
    ≡ first_of (r1 u ∷ r3 o ∷ r10 (mode_side m (mine o)) ∷ on 11 (lacks_vector m (mode_side m (mine o)).vector.present) ∷ r12⁸ d ∷ r13 d room ∷ [])
unfolding refusals lacks_vector test
mode_first Ecbe u d room shut o = refl
mode_first Ecbd u d room shut o = refl
mode_first Cbce u d room shut o = refl
mode_first Cbcd u d room shut o = refl
mode_first Cfbe u d room shut o = refl
mode_first Cfbd u d room shut o = refl

-- a mode that nothing refuses: its data is whole blocks and finds room
pub mode_passed : (m : Mode) (u : ℕ) (d : Bytes) (w : World) (out : Bytes) → first_of (tests (by u (mode m d)) w out) ≡ 0
    → (length d % 8 ≡ 0) × (length d ≤ length out)
unfolding tests
mode_passed m u d w out z =
    let p1 = passed _ _ 1 _ (mode_first m u d (length out) (shut_for u w) (own u w)) z (λ q. omega arith) in
    let p3 = passed _ _ 3 _ refl p1.1 (λ q. omega arith) in
    let p10 = passed _ _ 10 _ refl p3.1 (λ q. omega arith) in
    let p11 = passed _ _ 11 _ refl p10.1 (λ q. omega arith) in
    let p12 = passed _ _ 12 _ refl p11.1 (λ q. omega arith) in
    let p13 = passed _ _ 13 _ refl p12.1 (λ q. omega arith) in
    (good_blocks (length d) p12.0, ltb-false (length out) (length d) p13.0)

-- a record whose value nothing refuses has bytes
pub daut_passed : (u f : ℕ) (d : Bytes) (w : World) (out : Bytes) → first_of (tests (by u (DAUT f d)) w out) ≡ 0 → (length d ≡ 0 → ⊥)
unfolding tests refusals
daut_passed u f d w out z =
    let p1 = passed _ (big u) 1 _ refl z (λ q. omega arith) in
    let p3 = passed _ _ 3 _ refl p1.1 (λ q. omega arith) in
    let p5 = passed _ _ 5 _ refl p3.1 (λ q. omega arith) in
    let p10 = passed _ _ 10 _ refl p5.1 (λ q. omega arith) in
    let p11 = passed _ _ 11 _ refl p10.1 (λ q. omega arith) in
    let p12 = passed _ _ 12 _ refl p11.1 (λ q. omega arith) in
    good_length (length d) p12.0

-- ---- a command in its two halves

by_number : (b : Bool) (n u : ℕ) (e : Effect) (w : World) (out : Bytes)
    → result (told (cond b e (refused n)) out) (carry u (cond b e (refused n)) w)
    ≡ cond b (result (told e out) (carry u e w)) (result (plain (Refused n) out) w)
by_number true n u e w out = refl
by_number false n u e w out = refl

-- refused by the first number that applies; none: what it comes to
pub halves : (w : World) (c : Command) (out : Bytes)
    → step w c out ≡ cond (eqb (first_of (tests c w out)) 0) (effected w c out) (result (plain (Refused (first_of (tests c w out))) out) w)
unfolding step rule tests effected
halves w (by u c) out = let n = first_of (tests (by u c) w out) in by_number (eqb n 0) n u (effect u c (own u w)) w out
halves w (EIK i k) out = refl
halves w (IPW u p) out = refl
halves w RPW out = refl
halves w (logout u) out = let n = first_of (tests (logout u) w out) in by_number (eqb n 0) n u (effect u LAU (own u w)) w out

-- no number is 0
pub number_above : (e : Refusal) → number e ≡ 0 → ⊥
number_above Identifier h = omega (arith, h)
number_above TableLength h = omega (arith, h)
number_above NotActive h = omega (arith, h)
number_above AlreadyActive h = omega (arith, h)
number_above KeyFunction h = omega (arith, h)
number_above Interchange h = omega (arith, h)
number_above OutOfTurn h = omega (arith, h)
number_above AllTaken h = omega (arith, h)
number_above NotAuthenticated h = omega (arith, h)
number_above KeyMissing h = omega (arith, h)
number_above VectorMissing h = omega (arith, h)
number_above DataLength h = omega (arith, h)
number_above OutputLength h = omega (arith, h)
number_above EvenParity h = omega (arith, h)
number_above NoEntry h = omega (arith, h)
number_above Form h = omega (arith, h)
number_above Cut h = omega (arith, h)

module _ (f : Facility) (c : Command) (t out : Bytes) where
  -- some condition holds: refused
  pub by_refusal : (n : ℕ) → n ≡ first_of (tests c (over f t) out) → (n ≡ 0 → ⊥) → result (plain (Refused n) out) (over f t) ≡ step (over f t) c out
  by_refusal n e z = rw (halves (over f t) c out, ← e, ne_eqb n 0 z)

  -- left where a step answered with a refusal
  pub at_exit : (r : Rattle.std.specs.Prelude.Result Outcome Refusal) (P : Type 0) (x why : Refusal) → IsErrAnd r (λ y. y ≡ x) → P × (x ≡ why)
      → first_of (tests c (over f t) out) ≡ number why → left f r t out ≡ step (over f t) c out
  at_exit r P x why h w z = let p = err_from_is_err_and r h in rw (p.1, p.2, w.1) (by_refusal (number why) (sym z) (number_above why))

  -- none holds: the effect
  pub by_effect : first_of (tests c (over f t) out) ≡ 0 → (a : Result) → a ≡ effected (over f t) c out → a ≡ step (over f t) c out
  by_effect z a d = rw (halves (over f t) c out, z) d
