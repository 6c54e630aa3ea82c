-- Any two outcomes that a command's contract allows are identical: one law for the three forms of contract.
use Rattle.std.specs.Prelude.{◌≡◌, refl, List, [], ◌∷◌, ℕ, ◌-◌, get_or, Result, Ok, Err}
use Rattle.std.proofs.Common.{sym, ap, ◌∙◌}
use Rattle.state.specs.declared.Facility.{Facility}
use Rattle.rules.specs.declared.Refusal.{Refusal}
use Rattle.rules.specs.declared.Refusal.TheVariants.{Identifier, TableLength, NotActive, AlreadyActive, KeyFunction, Interchange, OutOfTurn, AllTaken, NotAuthenticated}
use Rattle.rules.specs.declared.Refusal.TheVariants.{KeyMissing, VectorMissing, DataLength, OutputLength, EvenParity, NoEntry, Form, Cut}
use Rattle.rules.specs.declared.Reply.{Reply}
use Rattle.rules.specs.declared.Reply.TheVariants.{Plain, Block, Output}
use Rattle.rules.specs.declared.Outcome.{Outcome}
use Rattle.state.specs.State.{Bytes}
use Rattle.rules.specs.Refusals.{number}
use Rattle.rules.specs.Commands.{Command}
use Rattle.rules.specs.Step.{Answer, Done, Gave, Wrote, Refused}
use Rattle.rules.specs.Step.{Result as Stepped}
use Rattle.rules.specs.Outcomes.{left, Steps, StepsTable, StepsOutput}

-- ---- from what is told back to what the code returned

-- a number, and what it refuses
numbers : List Refusal
numbers = Identifier ∷ TableLength ∷ NotActive ∷ AlreadyActive ∷ KeyFunction ∷ Interchange ∷ OutOfTurn ∷ AllTaken ∷ NotAuthenticated ∷ KeyMissing ∷ VectorMissing ∷ DataLength ∷ OutputLength ∷ EvenParity ∷ NoEntry ∷ Form ∷ []

refusal : ℕ → Refusal
refusal n = get_or numbers (n - 1) Cut

-- each refusal has a number of its own
numbered : (e : Refusal) → refusal (number e) ≡ e
unfolding refusal numbers
numbered Identifier = refl
numbered TableLength = refl
numbered NotActive = refl
numbered AlreadyActive = refl
numbered KeyFunction = refl
numbered Interchange = refl
numbered OutOfTurn = refl
numbered AllTaken = refl
numbered NotAuthenticated = refl
numbered KeyMissing = refl
numbered VectorMissing = refl
numbered DataLength = refl
numbered OutputLength = refl
numbered EvenParity = refl
numbered NoEntry = refl
numbered Form = refl
numbered Cut = refl

answered : Answer → Bytes → Facility → Result Outcome Refusal
answered Done b f = Ok (record { state = f; reply = Plain })
answered (Gave n) b f = Ok (record { state = f; reply = Block b })
answered (Wrote n) b f = Ok (record { state = f; reply = Output n })
answered (Refused n) b f = Err (refusal n)

returned : Stepped → Result Outcome Refusal
returned x = answered x.answered.answer x.answered.block x.world.facility

done : (o : Outcome) (reply : Reply) → o.reply ≡ reply → (f : Facility) (t out : Bytes) → returned (left f (Ok (record { state = o.state; reply = reply })) t out) ≡ Ok (record { state = o.state; reply = reply })
unfolding returned answered
done o Plain e f t out = refl
done o (Block b) e f t out = refl
done o (Output n) e f t out = refl

back : (f : Facility) (r : Result Outcome Refusal) (t out : Bytes) → returned (left f r t out) ≡ r
unfolding returned answered
back f (Ok o) t out = done o o.reply refl f t out
back f (Err e) t out = ap (λ (x : Refusal). Err x) (numbered e)

-- reply, state, table and output
pub same : (f : Facility) (r r' : Result Outcome Refusal) (t t' out out' : Bytes) → left f r t out ≡ left f r' t' out' → (r ≡ r') × (t ≡ t') × (out ≡ out')
same f r r' t t' out out' e = (
  sym (back f r t out) ∙ ap returned e ∙ back f r' t' out',
  ap (λ (x : Stepped). x.world.table) e,
  ap (λ (x : Stepped). x.answered.output) e,
)

pub determined : (f : Facility) (c : Command) (r r' : Result Outcome Refusal) → Steps f c r → Steps f c r' → r ≡ r'
determined f c r r' p q = (same f r r' [] [] [] [] (p [] [] ∙ sym (q [] []))).0

pub determined_table : (f : Facility) (t : Bytes) (c : Command) (r r' : Result Outcome Refusal) (a b : Bytes) → StepsTable f t c r a → StepsTable f t c r' b → (r ≡ r') × (a ≡ b)
determined_table f t c r r' a b p q = let s = same f r r' a b [] [] (p [] ∙ sym (q [])) in (s.0, s.1)

pub determined_output : (f : Facility) (out : Bytes) (c : Command) (r r' : Result Outcome Refusal) (a b : Bytes) → StepsOutput f out c r a → StepsOutput f out c r' b
    → (r ≡ r') × (a ≡ b)
determined_output f out c r r' a b p q = let s = same f r r' [] [] a b (p [] ∙ sym (q [])) in (s.0, s.2)
