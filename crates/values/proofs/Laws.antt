-- Eight bytes from a page of eight, and numbers of one byte and of four.
use Rattle.std.proofs.Common.{◌≡◌, refl, ap, false, List, [], ◌∷◌, ℕ, ◌%◌, ◌^◌, ◌≤◌, ◌<◌, ltb, length, replicate, arith, le-ltb}
use Rattle.std.proofs.Math.Nat.{pow-zero, div-one}
use Rattle.ground.specs.Lists.{padded}
use Rattle.ground.specs.Rows.{row, digits, row-digits}
use Rattle.printout.specs.Page.{Page, page, letter, entered}

full : (xs : List ℕ) (p : Page) → length p.letters ≤ p.filled → entered xs p ≡ p
unfolding entered letter
full [] p h = refl
full (x ∷ xs) p h = let e : ltb p.filled (length p.letters) ≡ false = le-ltb _ _ h in rw e (full xs p h)

pub eight_padded : (xs : List ℕ) → (entered xs (page (replicate 8 0) 0)).letters ≡ padded 8 xs
unfolding entered letter padded
eight_padded [] = refl
eight_padded (a ∷ []) = refl
eight_padded (a ∷ b ∷ []) = refl
eight_padded (a ∷ b ∷ c ∷ []) = refl
eight_padded (a ∷ b ∷ c ∷ d ∷ []) = refl
eight_padded (a ∷ b ∷ c ∷ d ∷ e ∷ []) = refl
eight_padded (a ∷ b ∷ c ∷ d ∷ e ∷ f ∷ []) = refl
eight_padded (a ∷ b ∷ c ∷ d ∷ e ∷ f ∷ g ∷ []) = refl
eight_padded (a ∷ b ∷ c ∷ d ∷ e ∷ f ∷ g ∷ h ∷ xs) =
    ap (λ (p : Page). p.letters) (full xs (page (a ∷ b ∷ c ∷ d ∷ e ∷ f ∷ g ∷ h ∷ []) 8) (omega arith))

pub one_byte : (n : ℕ) → digits 256 1 n ≡ n % 256 ∷ []
unfolding digits
one_byte n = rw (pow-zero, div-one)

pub four_bytes : (n : ℕ) → n < 2 ^ 32 → row 256 0 (digits 256 4 n) ≡ n
four_bytes n h = row-digits 256 4 n (omega arith)
