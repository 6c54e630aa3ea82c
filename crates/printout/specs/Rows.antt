-- A number, and the words that stand beside it.
use Rattle.std.specs.Prelude.{cond, List, [], ◌∷◌, ℕ, eqb}

pub record Row : Type 0 where
  pub number : ℕ
  pub words : List ℕ

infix 6 ◌reads◌
abbrev pub ◌reads◌ : ℕ → List ℕ → Row
n reads ws = record { number = n; words = ws }

-- the words beside n, and others where n has no row
abbrev pub beside : ℕ → List Row → List ℕ → List ℕ
beside n [] others = others
beside n (r ∷ rs) others = cond (eqb n r.number) r.words (beside n rs others)
