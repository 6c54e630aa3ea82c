-- Two names compared letter by letter.
use Rattle.std.proofs.Common.{◌≡◌, refl, ℕ, Bool, true, false, List, [], ◌∷◌, cond, length, ◌&&◌, eqb, arith}
use Rattle.std.specs.List.{list_all, zip}
use Rattle.names.specs.Names.{capital, same_name}

-- a letter of a word, and the capital letter that a name has there
abbrev pub same_letter : ℕ × ℕ → Bool
same_letter p = eqb (capital p.0) p.1

pub all_same : (w n : List ℕ) → length w ≡ length n → list_all same_letter (zip w n) ≡ same_name w n
unfolding same_name
all_same [] [] e = refl
all_same [] (n ∷ ns) e = absurd (omega (arith, e))
all_same (c ∷ cs) [] e = absurd (omega (arith, e))
all_same (c ∷ cs) (n ∷ ns) e = let k : length cs ≡ length ns = omega (arith, e) in rw (all_same cs ns k) (each (eqb (capital c) n) (same_name cs ns))
  where
    each : (a b : Bool) → a && b ≡ cond a b false
    each true b = refl
    each false b = refl
