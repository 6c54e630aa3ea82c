-- A page: a buffer, and how far it is filled.
use Rattle.std.specs.Prelude.{◌≡◌, refl, cond, List, [], ◌∷◌, ◌++◌, ℕ, ◌+◌, ltb, length, set}
use Rattle.std.proofs.Common.{sym, ap, ◌∙◌}
use Rattle.std.proofs.lemmas.Grind.{take_at_read}

pub record Page : Type 0 where
  pub letters : List ℕ
  pub filled : ℕ

abbrev pub page : List ℕ → ℕ → Page
page s at = record { letters = s; filled = at }

-- one letter more, where there is room
unfoldable pub letter : ℕ → Page → Page
letter x p = cond (ltb p.filled (length p.letters)) (page (set p.letters p.filled x) (p.filled + 1)) p

unfoldable pub entered : List ℕ → Page → Page
entered [] p = p
entered (x ∷ xs) p = entered xs (letter x p)

-- ---- one text after another

pub then : (xs ys : List ℕ) (p : Page) → entered (xs ++ ys) p ≡ entered ys (entered xs p)
unfolding entered
then [] ys p = refl
then (x ∷ xs) ys p = then xs ys (letter x p)

-- a text entered in two parts
pub two : (xs ys : List ℕ) (p q r : Page) → r ≡ entered ys q → q ≡ entered xs p → r ≡ entered (xs ++ ys) p
two xs ys p q r f e = f ∙ ap (entered ys) e ∙ sym (then xs ys p)

pub none : (p : Page) → entered [] p ≡ p
unfolding entered
none p = refl

pub onto : (xs ys : List ℕ) (p : Page) → entered ys (entered xs p) ≡ entered (xs ++ ys) p
onto xs ys p = sym (then xs ys p)

-- what the code that enters several texts on the letters alone is proved with
pub ruleset parts = (none, onto, take_at_read)
