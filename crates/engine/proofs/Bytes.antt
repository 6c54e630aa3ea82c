-- The library's words for bytes, the highest first, are the standard's; and a block that a short text begins.
use Rattle.std.proofs.Common.{◌≡◌, ℕ, zero, suc, min, List, [], ◌∷◌, ◌++◌, length, take, drop, replicate, sym, ap, ◌∙◌}
use Rattle.std.proofs.Common.{div-one, arith, w64}
use Rattle.std.specs.Int.{from_be_bytes, to_be_bytes}
use Rattle.ground.specs.Rows.{row, digits}
use Rattle.ground.specs.Lists.{listed, padded}
use Rattle.engine.specs.Bits.{word, bytes}

pub word_is : (b : List ℕ) → length b ≡ 8 → from_be_bytes w64 b ≡ word b
unfolding row
word_is b h = omega arith ∙ sym (ap word (listed 8 b h))

pub bytes_are : (x : ℕ) → to_be_bytes w64 x ≡ bytes x
unfolding digits
bytes_are x = rw div-one

-- what is there over as many zeros
pub padded_over : (k : ℕ) (xs : List ℕ) (n : ℕ) → n ≡ min (length xs) k → padded k xs ≡ take n xs ++ drop n (replicate k 0)
unfolding padded
padded_over zero xs n h = let e : n ≡ 0 = omega arith in rw e
padded_over (suc k) [] n h = let e : n ≡ 0 = omega arith in rw e (ap (λ (l : List ℕ). 0 ∷ l) (padded_over k [] 0 (omega arith)))
padded_over (suc k) (x ∷ xs) zero h = absurd (omega arith)
padded_over (suc k) (x ∷ xs) (suc n) h = ap (λ (l : List ℕ). x ∷ l) (padded_over k xs n (omega arith))
