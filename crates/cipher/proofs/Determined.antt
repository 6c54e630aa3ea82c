-- Any two outcomes that the contract of a public operation allows are identical.
use Rattle.std.proofs.Common.{◌≡◌, sym, ap, ◌∙◌, refl, List, ℕ, Result, Ok, Err}
use Rattle.cipher.specs.declared.modes.Mode.{Mode}
use Rattle.cipher.specs.declared.modes.Misfit.{Misfit}
use Rattle.cipher.specs.declared.keys.Vector.{Vector}
use Rattle.cipher.specs.Cipher.{Verdict, Outcome, Value, outcome_of, value_of, applied, valued}

-- `encipher`, `decipher`, `seal`, `unseal`, `bytes_of`, `word_of`: the contract is an equation for the result
pub determined : {A : Type 0} (x r r' : A) → r ≡ x → r' ≡ x → r ≡ r'
determined x r r' p q = p ∙ sym q

-- a verdict, with what comes where it is done
answer : {A : Type 0} → Verdict → A → Result A Misfit
answer (Ok d) x = Ok x
answer (Err e) x = Err e

outcome_back : (r : Result Vector Misfit) (v o : List ℕ)
    → answer (outcome_of r v o).verdict (record { 0 = (outcome_of r v o).vector }) ≡ r
unfolding answer
outcome_back (Ok w) v o = refl
outcome_back (Err e) v o = refl

outcome_output : (r : Result Vector Misfit) (v o : List ℕ) → (outcome_of r v o).output ≡ o
outcome_output (Ok w) v o = refl
outcome_output (Err e) v o = refl

value_back : (r : Result (List ℕ) Misfit) → answer (value_of r).verdict (value_of r).value ≡ r
unfolding answer
value_back (Ok b) = refl
value_back (Err e) = refl

-- `apply`: the result, and what the lent output holds afterwards
pub determined_apply : (m : Mode) (k v t out : List ℕ) (r r' : Result Vector Misfit) (o o' : List ℕ)
    → outcome_of r v o ≡ applied m k v t out → outcome_of r' v o' ≡ applied m k v t out → (r ≡ r') × (o ≡ o')
determined_apply m k v t out r r' o o' p q =
    let e = determined (applied m k v t out) (outcome_of r v o) (outcome_of r' v o') p q in (
      sym (outcome_back r v o) ∙ ap (λ (x : Outcome). answer x.verdict (record { 0 = x.vector })) e ∙ outcome_back r' v o',
      sym (outcome_output r v o) ∙ ap (λ (x : Outcome). x.output) e ∙ outcome_output r' v o',
    )

-- `fixity_of`
pub determined_fixity : (k v t : List ℕ) (r r' : Result (List ℕ) Misfit)
    → value_of r ≡ valued k v t → value_of r' ≡ valued k v t → r ≡ r'
determined_fixity k v t r r' p q =
    let e = determined (valued k v t) (value_of r) (value_of r') p q in
    sym (value_back r) ∙ ap (λ (x : Value). answer x.verdict x.value) e ∙ value_back r'
