-- N1 to N10: the page's notarized keys, one list and one theorem.
use Rattle.std.specs.Prelude.{◌≡◌, refl, List, [], ◌∷◌, ◌++◌, map, ℕ, replicate}
use Rattle.ground.specs.Rows.{digits}
use Rattle.keys.specs.Keys.{odd, mixed, groups, mixed_in, notarized}

pub record Example : Type 0 where
  pub K : List ℕ
  pub i : ℕ
  pub j : ℕ
  pub result : List ℕ

abbrev ex : List ℕ → ℕ → ℕ → List ℕ → Example
ex k i j r = record { K = k; i = i; j = j; result = r }

-- b repeated n times, as the page writes 01x4
infixl 20 ◌x◌
abbrev ◌x◌ : ℕ → ℕ → List ℕ
◌x◌ b n = replicate n b

abbrev pub examples : List Example
examples =
    ex (0x01 x 8) 0 0 (0x01 x 8)
    ∷ ex (0x01 x 8) 1 0 (0x01 ∷ 0x01 ∷ 0x01 ∷ 0x02 ∷ (0x01 x 4))
    ∷ ex (0x01 x 8) 0 1 ((0x01 x 7) ++ 0x02 ∷ [])
    ∷ ex (0x01 x 8) 3 0 (0x01 ∷ 0x01 ∷ 0x01 ∷ 0x07 ∷ (0x01 x 4))
    ∷ ex (0x01 x 8) 128 0 (0x01 ∷ 0x01 ∷ 0x02 ∷ 0x01 ∷ (0x01 x 4))
    ∷ ex (0x01 x 8) 2097152 0 (0x02 ∷ (0x01 x 7))
    ∷ ex (0x01 x 8) 268435455 0 ((0xFE x 4) ++ (0x01 x 4))
    ∷ ex (0x00 x 8) 0 0 (0x01 x 8)
    ∷ ex (0xFE x 8) 268435455 0 ((0x01 x 4) ++ (0xFE x 4))
    ∷ ex (0x01 x 8) 5 5 (0x01 ∷ 0x01 ∷ 0x01 ∷ 0x0B ∷ 0x01 ∷ 0x01 ∷ 0x01 ∷ 0x0B ∷ [])
    ∷ []

pub notarized-examples : map (λ e. notarized e.K e.i e.j) examples ≡ map (λ e. e.result) examples
unfolding notarized groups mixed_in mixed odd digits
notarized-examples = refl
