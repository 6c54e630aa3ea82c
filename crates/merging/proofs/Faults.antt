-- Three faults that the demand rules out. Each is `step` but for one thing, and of each it is proved that the demand does not hold.
use Rattle.std.specs.Prelude.{◌≡◌, refl, true, ℕ, ◌≤◌, length, replicate}
use Rattle.std.proofs.Common.{sym, ap, ◌∙◌, arith, lit≤}
use mathlib.Core.List.{List, [], ◌∷◌, head-eq_of_cons-eq}
use Rattle.ground.specs.Rows.{row}
use Rattle.state.specs.declared.Place.{Place}
use Rattle.state.specs.State.{vacant, seat, bare, holders, leave, shut_to, key_at, named}
use Rattle.table.specs.Entries.{fits, id_of, entry_in, entry_of}
use Rattle.table.specs.Passwords.{big, same, authentic}
use Rattle.rules.specs.Commands.{UserCommand, LAU, CPW, refusals, effect}
use Rattle.state.specs.State.{seat_of}
use Rattle.rules.specs.World.{shut_for}
use Rattle.rules.specs.Refusals.{test}
use Rattle.rules.specs.Step.{carry, rule, step}
use Rattle.merging.specs.Ids.{distinct, different}
use Rattle.merging.specs.Demand3.{Request, Lists, alone, here, there, Finished, Merge, done, next, Step, gets, Undisturbed}
use Rattle.merging.proofs.Theorem.{demand_3}
use Rattle.merging.proofs.Places.{single_by}
use Rattle.merging.specs.Examples.{first, second, start, ask, numbers}
use Rattle.merging.proofs.Examples.{password_of, entry_first, entry-second, comes}
use Rattle.merging.specs.Faults.{step_by, frees_first, enters_first, looks_at_first, faultless}

pub no_fault : Undisturbed faultless
unfolding step
no_fault = demand_3

-- ---- what rules them out: 5 and 6 each ask for one thing, 6 is served first, and 5 does not get what he gets alone

end : Merge UserCommand ((5, []) ∷ (6, []) ∷ []) []
end = let f : Finished ((5, []) ∷ (6, []) ∷ []) = (refl, (refl, tt)) in done f

ruled_out : (fault : Step UserCommand) (ps : List Place) → length ps ≡ 16 → distinct (holders ps) ≡ true → different (5 ∷ 6 ∷ holders ps) ≤ 16 → (of5 of6 : Request UserCommand) (merged by_himself : ℕ)
    → numbers (gets fault (start ps) ((6, of6) ∷ (5, of5) ∷ []) 5) ≡ merged ∷ []
    → numbers (gets fault (start ps) (alone 5 (of5 ∷ [])) 5) ≡ by_himself ∷ []
    → (merged ≡ by_himself → ⊥) → Undisturbed fault → ⊥
ruled_out fault ps sixteen single few of5 of6 n k p q d h =
    let lists : Lists UserCommand = (5, of5 ∷ []) ∷ (6, of6 ∷ []) ∷ [] in
    let same-answers = (h (start ps) sixteen (single_by ps single) lists (refl, (refl, tt)) few ((6, of6) ∷ (5, of5) ∷ []) (next (there here) (next here end))).0 5 in
    d (head-eq_of_cons-eq (sym p ∙ ap numbers same-answers ∙ q))

pub lau : Undisturbed (step_by shut_for frees_first) → ⊥
unfolding rule refusals effect test shut_to seat_of big
lau = ruled_out (step_by shut_for frees_first) (seat 5 bare ∷ seat 6 bare ∷ replicate 14 vacant) refl refl (lit≤ tt) (ask LAU) (ask LAU) 3 0 refl refl (λ e. omega arith)

pub cpw : Undisturbed (step_by shut_for enters_first) → ⊥
unfolding rule refusals effect test shut_to seat_of key_at named fits id_of entry_in entry_of big row same authentic
cpw =
    ruled_out (step_by shut_for enters_first) (seat 5 bare ∷ seat 6 bare ∷ replicate 14 vacant) refl refl (lit≤ tt)
    (ask (CPW (password_of 5 first) (password_of 5 second))) (ask (CPW (password_of 6 first) (password_of 6 second))) 9 0
    (rw (entry_first 6, entry-second 6, entry_first 5)) (rw (entry_first 5)) (λ e. omega arith)

pub ras : Undisturbed (step_by looks_at_first carry) → ⊥
unfolding rule refusals effect test leave seat_of key_at named fits id_of entry_in entry_of big row same authentic
ras = ruled_out (step_by looks_at_first carry) (seat 6 bare ∷ replicate 15 vacant) refl refl (lit≤ tt) (comes 5) (ask LAU) 0 8 (rw (entry_first 5)) refl (λ e. omega arith)
