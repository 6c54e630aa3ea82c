-- "8 all 16 places taken", as the page prints it. The definition's condition is "the issuer has no place, and all are taken" (`shut_to`): its further words
-- never decide, since for an issuer who has a place 4 comes before 8.
use Rattle.std.specs.Prelude.{◌≡◌, Bool, not, List, [], ◌∷◌, ℕ, suc, ◌≤◌, eqb, length}
use Rattle.std.proofs.Math.Path.{refl, ap, subst}
use Rattle.std.proofs.Common.{sym, ◌∙◌, arith, eqb-true, eq-eqb, ne_eqb}
use Rattle.std.specs.Prelude.{Option, None, Some}
use Rattle.std.proofs.lemmas.Bool.{eqb-false}
use Rattle.ground.specs.Search.{by_test}
use Rattle.state.specs.declared.Holdings.{Holdings}
use Rattle.state.specs.declared.Place.{Place}
use Rattle.state.specs.State.{Bytes, holders, find, all_taken, shut_to, key_at}
use Rattle.table.specs.Entries.{fits}
use Rattle.table.specs.Passwords.{big}
use Rattle.state.specs.State.{seat_of}
use Rattle.rules.specs.World.{World, own, shut_for}
use Rattle.rules.specs.Refusals.{Test, test, first_of}
use Rattle.rules.specs.Commands.{RAS, by, refusals, effect}
use Rattle.rules.specs.Step.{number_of, step}
use Rattle.properties.proofs.Steps.{reply-first}
use Rattle.properties.specs.Demand1.{Lowest}
use Rattle.properties.proofs.Demand1.{is_lowest}
use Rattle.properties.specs.Passwords.{authenticates}
use Rattle.properties.specs.AllTaken.{sixteen_taken}

no_more : (ps : List Place) → length (holders ps) ≤ length ps
no_more [] = omega arith
no_more (p ∷ ps) =
    let l = no_more ps in
    by_test p.taken
    (λ t. rw t (omega arith))
    (λ f. rw f (omega arith))

next-taken : (a b : ℕ) → eqb a b ≡ eqb (suc a) (suc b)
next-taken a b =
    by_test (eqb a b)
    (λ e. e ∙ sym (eq-eqb (suc a) (suc b) (ap suc (eqb-true a b e))))
    (λ e. e ∙ sym (ne_eqb (suc a) (suc b) (λ q. eqb-false a b e (omega arith))))

taken-counted : (ps : List Place) → all_taken ps ≡ eqb (length (holders ps)) (length ps)
taken-counted [] = refl
taken-counted (p ∷ ps) =
    let l = no_more ps in
    by_test p.taken
    (λ t. rw t (taken-counted ps ∙ next-taken (length (holders ps)) (length ps)))
    (λ f. rw f (sym (ne_eqb (length (holders ps)) (suc (length ps)) (λ q. omega arith))))

sixteen_taken_lem : (w : World) → length w.facility.places ≡ 16 → all_taken w.facility.places ≡ sixteen_taken w
sixteen_taken_lem w n = taken-counted w.facility.places ∙ ap (eqb (length (holders w.facility.places))) n

-- ---- RAS's list

-- where the issuer has a place, it is 4 either way
four_first : (o : Option Holdings) (ps : List Place) (later : Bool → ℕ)
    → test (seat_of o).active 4 (later (shut_to o ps)) ≡ test (seat_of o).active 4 (later (all_taken ps))
unfolding seat_of shut_to test
four_first None ps later = refl
four_first (Some h) ps later = refl

module _ (w : World) (u : ℕ) (password out : Bytes) where
  -- RAS's list with the condition `b` of 8
  abbrev list_with : Bool → List Test
  list_with b = refusals u (RAS password) (length out) b (own u w)

  -- with or without "the issuer has no place" the first number is the same
  pub same_first : first_of (list_with (shut_for u w)) ≡ first_of (list_with (all_taken w.facility.places))
  unfolding refusals
  same_first =
      let key = (key_at 1 w.facility.current_keys).present in
      ap (λ (n : ℕ). test (big u) 1 (test (not (fits (length w.table))) 2 n))
      (four_first (find u w.facility.places) w.facility.places
      (λ b. test (not key) 6 (test w.facility.due 7 (test b 8 (test (not (authenticates w u password)) 9 0)))))

  -- the reply to RAS is the lowest number of its list, 8 with the condition as the page prints it
  pub eight_as_printed : length w.facility.places ≡ 16 → Lowest (list_with (sixteen_taken w)) (number_of (step w (by u (RAS password)) out).answered.answer)
  unfolding refusals effect
  eight_as_printed n =
      let e = reply-first w u (RAS password) out refl ∙ same_first ∙ ap (λ (b : Bool). first_of (list_with b)) (sixteen_taken_lem w n) in
      subst (Lowest (list_with (sixteen_taken w))) (sym e) (is_lowest 1 (list_with (sixteen_taken w)) (omega arith) refl)
