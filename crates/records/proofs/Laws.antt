-- What a mode answered, where its text is whole blocks: done, or no room for it. And what the two effects come to, opened apart from what refuses them.
use Rattle.std.proofs.Common.{◌≡◌, refl, ap, ◌∙◌, List, ℕ, ◌%◌, ◌<◌, ◌≤◌, ◌⊎◌, inl, inr, length, Ok, Err}
use Rattle.std.proofs.lemmas.Bool.{cases_lt}
use Rattle.cipher.specs.declared.modes.Mode.{Mode}
use Rattle.cipher.specs.declared.keys.Vector.{Vector}
use Rattle.cipher.specs.declared.modes.Misfit.{Misfit}
use Rattle.cipher.specs.declared.modes.Misfit.TheVariants.{NoRoom}
use Rattle.cipher.specs.Cipher.{Outcome, outcome_of, onto, applied, mode_text, mode_vector, fixity, Value, value_of, valued}
use Rattle.cipher.proofs.Promise.{applied-done, applied_room, valued-done}
use Rattle.state.specs.State.{Bytes}
use Rattle.rules.specs.World.{World, own, mine, key_of, vector_of, as_vector}
use Rattle.rules.specs.Sides.{function_of, side_for, mode_side, after_mode}
use Rattle.rules.specs.Commands.{effect, by, mode, DAUT, gives, writes}
use Rattle.rules.specs.Step.{carry, told, result, effected}

-- refused: for want of room, and the output stays
pub no_room : (m : Mode) (k v t out o : List ℕ) (x : Misfit) → outcome_of (Err x) v o ≡ applied m k v t out → length t % 8 ≡ 0
    → (length out < length t) × (x ≡ NoRoom) × (o ≡ out)
no_room m k v t out o x e h = told_by (cases_lt (length out) (length t))
  where
    told_by : (length out < length t) ⊎ (length t ≤ length out) → (length out < length t) × (x ≡ NoRoom) × (o ≡ out)
    told_by (inl l) =
        let q = e ∙ applied_room m k v t out h l in
        let z : Err x ≡ Err NoRoom = ap (λ (y : Outcome). y.verdict) q in
        (l, cc z, ap (λ (y : Outcome). y.output) q)
    told_by (inr l) = absurd (cc (ap (λ (y : Outcome). y.verdict) (e ∙ applied-done m k v t out h l)))

-- done: there was room for it
pub mode_done : (m : Mode) (k v t out o : List ℕ) (w : Vector) → outcome_of (Ok w) v o ≡ applied m k v t out → length t % 8 ≡ 0
    → (length t ≤ length out) × (w ≡ as_vector (mode_vector m k v t)) × (o ≡ onto (mode_text m k v t) out)
mode_done m k v t out o w e h = told_by (cases_lt (length out) (length t))
  where
    told_by : (length out < length t) ⊎ (length t ≤ length out)
        → (length t ≤ length out) × (w ≡ as_vector (mode_vector m k v t)) × (o ≡ onto (mode_text m k v t) out)
    told_by (inl l) = absurd (cc (ap (λ (y : Outcome). y.verdict) (e ∙ applied_room m k v t out h l)))
    told_by (inr l) =
        let q = e ∙ applied-done m k v t out h l in
        (l, ap (λ (y : Outcome). as_vector y.vector) q, ap (λ (y : Outcome). y.output) q)

-- a record with bytes, done
pub value_done : (k v t b : List ℕ) → value_of (Ok b) ≡ valued k v t → (length t ≡ 0 → ⊥) → b ≡ fixity k v t
value_done k v t b e n = ap (λ (y : Value). y.value) (e ∙ valued-done k v t n)

pub mode_does : (u : ℕ) (m : Mode) (d : Bytes) (w : World) (out : Bytes)
    → effected w (by u (mode m d)) out
    ≡ (let key = key_of (mode_side m (mine (own u w))) in
    let vector = vector_of (mode_side m (mine (own u w))) in
    let e = writes (mode_text m key vector d) (after_mode m (as_vector (mode_vector m key vector d)) (mine (own u w))) in
    result (told e out) (carry u e w))
unfolding effected effect
mode_does u m d w out = refl

pub daut_does : (u f : ℕ) (d : Bytes) (w : World) (out : Bytes)
    → effected w (by u (DAUT f d)) out
    ≡ (let side = side_for (function_of f) (mine (own u w)) in
    let e = gives 8 (fixity (key_of side) (vector_of side) d) in
    result (told e out) (carry u e w))
unfolding effected effect
daut_does u f d w out = refl
