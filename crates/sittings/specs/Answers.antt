-- "The desk keeps the bytes of its answers for `$n`: of the first 4096 answers, while they find room in 1048576 bytes."
use Rattle.std.specs.Prelude.{◌≡◌, Bool, cond, List, [], ◌∷◌, ◌++◌, ℕ, suc, ◌+◌, ◌≤◌, ◌<◌, leb, length, get_or}
use Rattle.session.specs.Run.{Answered, shown_of}
use Rattle.counter.specs.Kept.{Books}

abbrev pub bytes_of : Answered → List ℕ
bytes_of a = shown_of a.told.answer a.told.block a.told.output

abbrev pub find_room : (room : ℕ) → (kept bytes : List ℕ) → Bool
find_room room kept bytes = leb (length kept + length bytes) room

-- an answer's bytes behind those kept, if they find room there
unfoldable pub one_kept : (room : ℕ) → (kept bytes : List ℕ) → List ℕ
one_kept room kept bytes = cond (find_room room kept bytes) (kept ++ bytes) kept

unfoldable pub all_kept : (room : ℕ) → List ℕ → List Answered → List ℕ
all_kept room kept [] = kept
all_kept room kept (a ∷ rest) = all_kept room (one_kept room kept (bytes_of a)) rest

-- answer n is among the first, has the bytes b, and found room for them when it was given
pub record Keeps (first room : ℕ) (answers : List Answered) (n : ℕ) (b : List ℕ) : Type 0 where
  pub before : List Answered
  pub answer : Answered
  pub beyond : List Answered
  pub whole : answers ≡ before ++ (answer ∷ beyond)
  pub ordinal : n ≡ suc (length before)
  pub early : n ≤ first
  pub bytes : b ≡ bytes_of answer
  pub some : 0 < length b
  pub found : length (all_kept room [] before) + length b ≤ room

-- books before the first answer: so much room for bytes, and a mark for where each of the first answers ends, with one before them
pub record Fresh (first room : ℕ) (b : Books) : Type 0 where
  pub none : b.count ≡ 0
  pub empty : b.bytes.filled ≡ 0
  pub size : length b.bytes.letters ≡ room
  pub marks : length b.ends ≡ suc first
  pub start : get_or b.ends 0 0 ≡ 0
