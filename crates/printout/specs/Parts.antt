-- A text with a part for each element of a list.
use Rattle.std.specs.Prelude.{◌≡◌, List, [], ◌∷◌, ◌++◌, ℕ, ◌+◌, ◌<◌, length, get_or, take, flat_map}
use Rattle.std.proofs.lemmas.List.{take_more, append-nil}
use Rattle.std.proofs.lemmas.List.Concat.{flat_map-cons}
use Rattle.std.proofs.lemmas.List.Recursion.{same_from_clauses}
use Rattle.std.proofs.lemmas.Grind.{flat_map-append}

module _ {X : Type 0} (part : X → List ℕ) (all : List X → List ℕ) (none : all [] ≡ []) (first : (x : X) (xs : List X) → all (x ∷ xs) ≡ part x ++ all xs) where
  parts : (xs : List X) → all xs ≡ flat_map part xs
  parts = same_from_clauses all (flat_map part) (λ x r. part x ++ r) none first (flat_map-cons part)

  -- one part more, as a loop over the elements puts it
  pub parts_more : (xs : List X) (i : ℕ) (d : X) → i < length xs → all (take i xs) ++ part (get_or xs i d) ≡ all (take (i + 1) xs)
  parts_more xs i d h = rw (parts (take i xs), parts (take (i + 1) xs), take_more xs i d h, flat_map-append part (take i xs) (get_or xs i d ∷ []), append-nil (part (get_or xs i d)))
