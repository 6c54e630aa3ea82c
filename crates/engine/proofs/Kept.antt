-- Lemmas of the code as it was before, kept: what it is proved with now is elsewhere.
use Rattle.std.proofs.Common.{◌≡◌, refl, sym, ap, ◌∙◌, List, [], ◌∷◌, map, reverse, ℕ, zero, suc, ◌≤◌, ◌<◌, arith, length, get_or, take, take_all}
use Rattle.std.proofs.Math.Nat.{not-suc-le-zero, le_of_suc-le-suc}
use Rattle.std.proofs.Math.Seq.{take-suc}
use Rattle.std.proofs.lemmas.List.{reverse-append}
use Rattle.ground.specs.Tests.{entry}
use Rattle.engine.specs.Tables.{shifts}

pub map_at : (g : ℕ → ℕ) (ns : List ℕ) (i : ℕ) → i < length ns → get_or (map g ns) i 0 ≡ g (get_or ns i 0)
map_at g [] i h = absurd (not-suc-le-zero h)
map_at g (n ∷ ns) zero h = refl
map_at g (n ∷ ns) (suc i) h = map_at g ns i (le_of_suc-le-suc h)

pub shift_small : (i : ℕ) → i < 16 → (1 ≤ get_or shifts i 0) × (get_or shifts i 0 ≤ 2)
shift_small i h = entry 1 2 shifts tt i h

-- the first n of a list, the last of them first
abbrev pub down : List ℕ → ℕ → List ℕ
down xs zero = []
down xs (suc n) = get_or xs n 0 ∷ down xs n

down-reverse : (xs : List ℕ) (n : ℕ) → n ≤ length xs → down xs n ≡ reverse (take n xs)
down-reverse xs zero h = refl
down-reverse xs (suc n) h =
    ap (λ (l : List ℕ). get_or xs n 0 ∷ l) (down-reverse xs n (omega arith))
    ∙ sym (ap reverse (take-suc xs n 0 h) ∙ reverse-append (take n xs) (get_or xs n 0 ∷ []))

pub reversed_is : (xs : List ℕ) (n : ℕ) → length xs ≡ n → down xs n ≡ reverse xs
reversed_is xs n h = down-reverse xs n (omega arith) ∙ ap reverse (take_all n xs (omega arith))
