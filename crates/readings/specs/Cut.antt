-- "A header or value that runs past the input's end is 17, and reading stops": what is cut is answered 17, and nothing else is.
use Rattle.std.specs.Prelude.{◌≡◌, Bool, true, false, cond, eqb, length, get_or, List, [], ◌∷◌, ◌++◌, ℕ, ◌+◌, ◌<◌}
use Rattle.stream.specs.declared.Field.TheVariants.{Whole, Cut}
use Rattle.stream.specs.Fields.{Bytes, length_at, field_at}
use Rattle.rules.specs.Step.{number_of}
use Rattle.session.specs.Run.{Answered}

-- ---- what is cut

-- something stands there, of this tag, and its header or its value runs past the end
abbrev pub PastEnd : Bytes → ℕ → ℕ → Type 0
PastEnd s at tag = (at < length s) × (length s < at + 3 + length_at s at) × (tag ≡ get_or s at 0)

-- ---- and nothing else is answered 17

-- reading from one position, command by command, comes to another
pub data Reaches (s : Bytes) : ℕ → ℕ → Type 0 where
  here : {at : ℕ} → Reaches s at at
  behind : {at tag start end to : ℕ} → field_at s at ≡ Whole tag start end → Reaches s end to → Reaches s at to

-- it comes to what is cut
pub record RunsOut (s : Bytes) (at : ℕ) : Type 0 where
  pub to : ℕ
  pub tag : ℕ
  pub reached : Reaches s at to
  pub cut : field_at s to ≡ Cut tag

-- 17 is among the answers
abbrev pub has17 : List Answered → Bool
has17 [] = false
has17 (a ∷ rest) = cond (eqb (number_of a.told.answer) 17) true (has17 rest)

-- behind an answer 17 comes no other
abbrev pub Last : List Answered → Type 0
Last answers =
    (before : List Answered) (a : Answered) (rest : List Answered) → answers ≡ before ++ a ∷ rest
    → number_of a.told.answer ≡ 17 → rest ≡ []
