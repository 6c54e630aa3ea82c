-- No command gives one identifier two places; nor, where a state is handed in that has it so, one more.
use Rattle.std.specs.Prelude.{cond, List, [], ◌∷◌, ℕ, suc, ◌≤◌}
use Rattle.state.specs.declared.Place.{Place}
use Rattle.state.specs.State.{has}

-- how many places u has
abbrev pub count : ℕ → List Place → ℕ
count u [] = 0
count u (p ∷ ps) = cond (has u p) (suc (count u ps)) (count u ps)

-- no identifier holds two places
abbrev pub Single : List Place → Type 0
Single ps = (u : ℕ) → count u ps ≤ 1
