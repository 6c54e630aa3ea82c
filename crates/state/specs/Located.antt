-- What a search of the places tells of an index, or of finding none.
use Rattle.std.specs.Prelude.{◌≡◌, Bool, true, false, Option, None, Some, List, ℕ, ◌<◌, length, get_or}
use Rattle.state.specs.declared.Place.{Place}
use Rattle.state.specs.State.{has, spare}

-- no place before i passes the test
abbrev pub Before : (Place → Bool) → List Place → ℕ → Type 0
Before f ps i = (j : ℕ) → j < i → f (get_or ps j spare) ≡ false

abbrev pub Located : ℕ → List Place → Option ℕ → Type 0
Located u ps (Some i) = (i < 16) × (has u (get_or ps i spare) ≡ true) × Before (has u) ps i
Located u ps None = (length ps ≡ 16) × Before (has u) ps 16

-- the first free place, as a search tells it
abbrev pub Free : List Place → Option ℕ → Type 0
Free ps (Some i) =
    (i < 16) × (length ps ≡ 16) × ((get_or ps i spare).taken ≡ false)
    × ((j : ℕ) → j < i → (get_or ps j spare).taken ≡ true)
Free ps None = (length ps ≡ 16) × ((j : ℕ) → j < 16 → (get_or ps j spare).taken ≡ true)
