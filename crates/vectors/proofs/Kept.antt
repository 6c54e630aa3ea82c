-- Laws of answers compared byte by byte, and of what one counts, as they were stated before, kept: the code is proved without them.
use Rattle.std.proofs.Common.{◌≡◌, ℕ, Bool, true, false, cond, T, eqb, List, [], ◌∷◌, refl, ap, ap₂, ◌∙◌, arith, eqb→eq, eq-eqb, ◌==◌}
use Rattle.std.specs.Str.{bytes_eq}
use Rattle.ground.specs.Tests.{both, both_left, both_right}
use Rattle.vectors.specs.Answers.{one}

unfoldable pub equal : List ℕ → List ℕ → Bool
equal [] [] = true
equal [] (y ∷ ys) = false
equal (x ∷ xs) [] = false
equal (x ∷ xs) (y ∷ ys) = both (x == y) (equal xs ys)

pub equal_self : (xs : List ℕ) → equal xs xs ≡ true
unfolding equal
equal_self [] = refl
equal_self (x ∷ xs) = rw (eq-eqb x x refl, equal_self xs)

pub equal_same : (xs ys : List ℕ) → T (equal xs ys) → xs ≡ ys
unfolding equal
equal_same [] [] t = refl
equal_same [] (y ∷ ys) t = absurd t
equal_same (x ∷ xs) [] t = absurd t
equal_same (x ∷ xs) (y ∷ ys) t =
    ap₂ (λ (z : ℕ) (zs : List ℕ). z ∷ zs)
    (eqb→eq x y (both_left (eqb x y) (equal xs ys) t))
    (equal_same xs ys (both_right (eqb x y) (equal xs ys) t))

pub counts_none : (b : Bool) → (T b → ⊥) → ◌≡◌ {A = ℕ} (cond b 1 0) 0
counts_none true n = absurd (n tt)
counts_none false n = refl

-- what the code compares by is the same
pub equal_is : (xs ys : List ℕ) → bytes_eq xs ys ≡ equal xs ys
unfolding equal
equal_is [] [] = refl
equal_is [] (y ∷ ys) = refl
equal_is (x ∷ xs) [] = refl
equal_is (x ∷ xs) (y ∷ ys) = ap (both (eqb x y)) (equal_is xs ys)

pub one_right : (xs ys : List ℕ) → xs ≡ ys → one xs ys ≡ 1
unfolding one
one_right xs ys e = rw (equal_is xs ys, e, equal_self ys)

-- by a test b that finds them different
pub one_wrong : (xs ys : List ℕ) {b : Bool} → (xs ≡ ys → b ≡ true) → b ≡ false → one xs ys ≡ 0
unfolding one
one_wrong xs ys h n = rw (equal_is xs ys) (counts_none (equal xs ys) (λ t. let e : ◌≡◌ {A = ℕ} 0 1 = cc (h (equal_same xs ys t)) in omega arith))
