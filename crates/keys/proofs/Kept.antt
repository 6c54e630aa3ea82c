-- Lemmas of the code as it was before, kept: what it is proved with now is elsewhere.
use Rattle.std.proofs.Common.{◌≡◌, ap, List, [], ◌∷◌, map, ℕ, ◌+◌, ◌-◌, ◌*◌, ◌/◌, ◌%◌, div-one, arith, length, get_or}
use Rattle.ground.specs.Rows.{digits}
use Rattle.ground.specs.Lists.{listed}
use Rattle.keys.specs.Keys.{sum, odd, parity_of}

pub odd_is : (s : ℕ) → s * 2 + (1 - (s / 64 % 2 + s / 32 % 2 + s / 16 % 2 + s / 8 % 2 + s / 4 % 2 + s / 2 % 2 + s % 2) % 2) ≡ odd s
unfolding odd digits
odd_is s =
    let e : s / 64 % 2 + s / 32 % 2 + s / 16 % 2 + s / 8 % 2 + s / 4 % 2 + s / 2 % 2 + s % 2
    ≡ sum (s / 64 % 2 ∷ s / 32 % 2 ∷ s / 16 % 2 ∷ s / 8 % 2 ∷ s / 4 % 2 ∷ s / 2 % 2 ∷ s % 2 ∷ []) = omega arith in
    rw (e, div-one)

pub parity_is : (b : List ℕ) → length b ≡ 8
    → parity_of b
    ≡ odd (get_or b 0 0 / 2) ∷ odd (get_or b 1 0 / 2) ∷ odd (get_or b 2 0 / 2) ∷ odd (get_or b 3 0 / 2)
    ∷ odd (get_or b 4 0 / 2) ∷ odd (get_or b 5 0 / 2) ∷ odd (get_or b 6 0 / 2) ∷ odd (get_or b 7 0 / 2) ∷ []
unfolding parity_of
parity_is b h = ap (map (λ x. odd (x / 2))) (listed 8 b h)
