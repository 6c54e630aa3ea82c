-- "Setting parity" and "Notarizing key K with the pair (i, j)".
use Rattle.std.specs.Prelude.{Bool, true, false, cond, List, [], ◌∷◌, ◌++◌, map, ℕ, ◌+◌, ◌-◌, ◌*◌, ◌/◌, ◌%◌, eqb}
use Rattle.std.specs.Int.Bits.{bit_xor}
use Rattle.ground.specs.Rows.{digits}

abbrev pub sum : List ℕ → ℕ
sum [] = 0
sum (x ∷ xs) = x + sum xs

-- the byte whose leftmost seven bits are s, its last bit such that the number of ones is odd
unfoldable pub odd : ℕ → ℕ
odd s = s * 2 + (1 - sum (digits 2 7 s) % 2)

-- the leftmost seven bits of each byte stay, the last bit is set
unfoldable pub parity_of : List ℕ → List ℕ
parity_of b = map (λ x. odd (x / 2)) b

-- the number of ones in a byte, bit by bit
unfoldable pub ones : ℕ → ℕ
ones b = sum (digits 2 8 b)

-- every byte has an odd number of ones
unfoldable pub all_odd : List ℕ → Bool
all_odd [] = true
all_odd (b ∷ bs) = cond (eqb (ones b % 2) 1) (all_odd bs) false

-- the group g of seven bits exclusive-ored into the leftmost seven bits of the byte b
unfoldable pub mixed : ℕ → ℕ → ℕ
mixed b g = odd (bit_xor (b / 2) g)

-- four groups of seven bits, highest first
unfoldable pub groups : ℕ → List ℕ
groups i = digits 128 4 i

-- each group into the matching byte
unfoldable pub mixed_in : List ℕ → List ℕ → List ℕ
mixed_in [] gs = []
mixed_in (b ∷ bs) [] = []
mixed_in (b ∷ bs) (g ∷ gs) = mixed b g ∷ mixed_in bs gs

-- i, then j
unfoldable pub notarized : List ℕ → ℕ → ℕ → List ℕ
notarized k i j = mixed_in k (groups i ++ groups j)
