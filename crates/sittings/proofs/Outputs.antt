-- An answer shows at most the eight bytes of a reply, or as many as the output has; and the output stays as long as it is.
use Rattle.std.specs.Prelude.{◌≡◌, refl, Bool, cond, [], ◌∷◌, eqb, length, take, drop}
use Rattle.std.proofs.Common.{sym}
use Rattle.std.proofs.Math.Path.{subst}
use Rattle.std.specs.Prelude.{Option, None, Some}
use Prim.Native.Nat.{ℕ, zero, suc, ◌≤◌}
use native.Mathlib.Omega.{arith}
use Rattle.ground.specs.Search.{by_test}
use Rattle.cipher.specs.Cipher.{mode_text}
use Rattle.stream.specs.Fields.{Bytes}
use Rattle.stream.specs.Commands.{decoded}
use Rattle.rules.specs.Commands.{UserCommand, RAS, LAU, CPW, GDK, LDK, GIV, LIV, EIV, RDK, mode, DAUT, Command, by, EIK, IPW, RPW, logout, refusals, refused, effect, tests}
use Rattle.rules.specs.World.{World, Own, own, shut_for}
use Rattle.rules.specs.Sides.{mode_side}
use Rattle.rules.specs.Refusals.{first_of}
use Rattle.rules.specs.Step.{told, rule, settled, step_by, step}
use Rattle.facility.specs.Requests.{command_of, carried_out, performed}
use Rattle.properties.proofs.Demand1.{demand_1}
use Rattle.stream.specs.declared.Reading.{Reading}
use Rattle.session.specs.Run.{obeyed, answer_to}
use Rattle.readings.specs.Shown.{shown_in}
use Rattle.sittings.specs.Outputs.{Kept}

pub take_short : (k : ℕ) (xs : Bytes) → (length (take k xs) ≤ k) × (length (take k xs) ≤ length xs)
take_short zero xs = (omega arith, omega arith)
take_short (suc k) [] = (omega arith, omega arith)
take_short (suc k) (x ∷ xs) = let h = take_short k xs in (omega (arith, h.0), omega (arith, h.1))

-- what is shown finds room in n bytes, where the output does
module _ (n : ℕ) (eight : 8 ≤ n) where
  reply-shown : (b : Bytes) → length (take 8 b) ≤ n
  reply-shown b = omega (arith, (take_short 8 b).0)

  output-shown : (k : ℕ) (xs : Bytes) → length xs ≤ n → length (take k xs) ≤ n
  output-shown k xs h = omega (arith, h, (take_short k xs).1)

  effect-shown : (u : ℕ) (c : UserCommand) (o : Own) (out : Bytes) → length (told (effect u c o) out).output ≤ n → length (shown_in (told (effect u c o) out)) ≤ n
  unfolding effect
  effect-shown u (RAS p) o out h = omega arith
  effect-shown u LAU o out h = omega arith
  effect-shown u (CPW p x) o out h = omega arith
  effect-shown u (GDK p i b) o out h = reply-shown (told (effect u (GDK p i b) o) out).block
  effect-shown u (LDK p i f b) o out h = omega arith
  effect-shown u (GIV b) o out h = reply-shown (told (effect u (GIV b) o) out).block
  effect-shown u (LIV f b) o out h = omega arith
  effect-shown u (EIV b) o out h = reply-shown (told (effect u (EIV b) o) out).block
  effect-shown u (RDK p i f b) o out h = reply-shown (told (effect u (RDK p i f b) o) out).block
  effect-shown u (mode m d) o out h =
      let side = mode_side m o.seat.holdings in
      output-shown (length (mode_text m side.key.value.0 side.vector.value.0 d)) (told (effect u (mode m d) o) out).output h
  effect-shown u (DAUT f d) o out h = reply-shown (told (effect u (DAUT f d) o) out).block

  user_shown : (w : World) (u : ℕ) (c : UserCommand) (out : Bytes) → length (step_by w u c out).answered.output ≤ n → length (shown_in (step_by w u c out).answered) ≤ n
  unfolding rule
  user_shown w u c out =
      by_test (eqb k 0)
      (λ e. subst Room (sym e) (effect-shown u c (own u w) out))
      (λ e. subst Room (sym e) (λ h. omega arith))
    where
      k : ℕ
      k = first_of (refusals u c (length out) (shut_for u w) (own u w))

      Room : Bool → Type 0
      Room b = let after = told (cond b (effect u c (own u w)) (refused k)) out in length after.output ≤ n → length (shown_in after) ≤ n

  settled-shown : (k : ℕ) (w w' : World) (out : Bytes) → length (shown_in (settled k w out w').answered) ≤ n
  settled-shown k w w' out = by_test (eqb k 0) (λ e. rw e (omega arith)) (λ e. rw e (omega arith))

  step-shown : (w : World) (c : Command) (out : Bytes) → length (step w c out).answered.output ≤ n → length (shown_in (step w c out).answered) ≤ n
  unfolding step
  step-shown w (by u c) out h = user_shown w u c out h
  step-shown w (EIK i b) out h = settled-shown (first_of (tests (EIK i b) w out)) w _ out
  step-shown w (IPW u p) out h = settled-shown (first_of (tests (IPW u p) w out)) w _ out
  step-shown w RPW out h = settled-shown (first_of (tests RPW w out)) w _ out
  step-shown w (logout u) out h = user_shown w u LAU out h

carried : (w : World) (c : Option Command) (out : Bytes) → Kept out (carried_out w c out)
carried w None out = (refl, λ n e h. omega arith)
carried w (Some c) out = let size = (demand_1 w c out).size in (size, λ n e h. step-shown n e w c out (omega (arith, size, h)))

module _ (w : World) (t : ℕ) (v out : Bytes) where
  answer_kept : Kept out (answer_to w t v out)
  unfolding answer_to performed
  answer_kept = read (decoded t v)
    where
      read : (r : Option Reading) → Kept out (obeyed w r v out)
      read None = carried w None out
      read (Some r) = carried w (command_of r.asked (drop r.text v)) out

  -- the output is as long as it was
  pub same-output : length (answer_to w t v out).answered.output ≡ length out
  same-output = answer_kept.0

  pub shown_short : (n : ℕ) → 8 ≤ n → length out ≤ n → length (shown_in (answer_to w t v out).answered) ≤ n
  shown_short = answer_kept.1
