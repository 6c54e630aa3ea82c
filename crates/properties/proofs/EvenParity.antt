-- "14 some byte of the entered key has even parity": what EIK tests is this, with the ones of a byte counted bit by bit (`Keys.ones`).
use Rattle.std.specs.Prelude.{◌≡◌, refl, Bool, not, [], ◌∷◌, ℕ, ◌/◌, ◌%◌, eqb}
use Rattle.std.proofs.Common.{◌∙◌, subst, arith, eqb-true, eq-eqb, ne_eqb}
use Rattle.std.proofs.lemmas.Bool.{eqb-false}
use Rattle.ground.specs.Search.{by_test}
use Rattle.keys.specs.Keys.{odd, ones, parity_of}
use Rattle.keys.proofs.Laws.{odd-kept}
use Rattle.state.specs.State.{Bytes}
use Rattle.table.specs.Passwords.{same}
use Rattle.rules.specs.World.{World}
use Rattle.rules.specs.Refusals.{on, r6ᵉ, r7ᵉ}
use Rattle.rules.specs.Commands.{EIK, tests}
use Rattle.rules.specs.Step.{number_of, step}
use Rattle.properties.specs.Demand1.{Lowest}
use Rattle.properties.proofs.Demand1.{demand_1}
use Rattle.properties.specs.EvenParity.{some_even}

-- a byte is as setting parity leaves it exactly where its number of ones is not even
kept : (x : ℕ) → eqb x (odd (x / 2)) ≡ not (eqb (ones x % 2) 0)
kept x =
    odd-kept x
    ∙ by_test (eqb (ones x % 2) 0)
    (λ e. rw e (ne_eqb (ones x % 2) 1 (λ q. omega (arith, eqb-true (ones x % 2) 0 e))))
    (λ e. rw e (eq-eqb (ones x % 2) 1 (omega (arith, eqb-false (ones x % 2) 0 e))))

-- the key is not itself with parity set exactly if some byte of it has an even number of ones
pub even_found : (k : Bytes) → not (same k (parity_of k)) ≡ some_even k
unfolding same parity_of
even_found [] = refl
even_found (x ∷ xs) =
    by_test (eqb (ones x % 2) 0)
    (λ e. rw (kept x, e))
    (λ e. rw (kept x, e) (even_found xs))

-- the reply to EIK is the lowest number of its list, 14 with the condition as the page prints it
pub fourteen_as_printed : (w : World) (i : ℕ) (k out : Bytes)
    → Lowest (r6ᵉ i ∷ r7ᵉ i w.facility ∷ on 14 (some_even k) ∷ []) (number_of (step w (EIK i k) out).answered.answer)
unfolding tests
fourteen_as_printed w i k out =
    let reply = number_of (step w (EIK i k) out).answered.answer in
    subst (λ (b : Bool). Lowest (r6ᵉ i ∷ r7ᵉ i w.facility ∷ on 14 b ∷ []) reply) (even_found k) (demand_1 w (EIK i k) out).lowest
