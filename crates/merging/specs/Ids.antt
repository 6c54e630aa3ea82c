-- Lists of identifiers: who stands in one, whether anyone does twice, and how many different ones there are.
use Rattle.std.specs.Prelude.{◌≡◌, Bool, true, false, cond, List, [], ◌∷◌, ℕ, eqb, length}

-- u stands in the list
abbrev pub mem : ℕ → List ℕ → Bool
mem u [] = false
mem u (x ∷ xs) = cond (eqb u x) true (mem u xs)

-- nobody stands in the list twice
abbrev pub Distinct : List ℕ → Type 0
Distinct [] = Unit {0}
Distinct (x ∷ xs) = (mem x xs ≡ false) × Distinct xs

-- the list with each identifier once
abbrev pub once : List ℕ → List ℕ
once [] = []
once (x ∷ xs) = cond (mem x xs) (once xs) (x ∷ once xs)

-- how many different identifiers the list has
abbrev pub different : List ℕ → ℕ
different xs = length (once xs)

-- the same as a test
abbrev pub distinct : List ℕ → Bool
distinct [] = true
distinct (x ∷ xs) = cond (mem x xs) false (distinct xs)
