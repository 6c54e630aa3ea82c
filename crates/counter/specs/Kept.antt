-- The bytes of the answers, kept for `$n`.
use Rattle.std.specs.Prelude.{cond, List, [], ◌∷◌, ℕ, ◌+◌, ltb, leb, length, set}
use Rattle.printout.specs.Page.{Page, entered}
use Rattle.session.specs.Run.{Answered, shown_of}

-- the bytes of one answer more, while they find room
unfoldable pub kept_bytes : List ℕ → Page → Page
kept_bytes xs p = cond (leb (p.filled + length xs) (length p.letters)) (entered xs p) p

-- where answer n ends
unfoldable pub end_marked : List ℕ → ℕ → ℕ → List ℕ
end_marked ends n to = cond (ltb n (length ends)) (set ends n to) ends

-- ---- the answers so far: how many, their bytes, and where each ends

pub record Books : Type 0 where
  pub count : ℕ
  pub bytes : Page
  pub ends : List ℕ

abbrev pub books : ℕ → Page → List ℕ → Books
books n p ends = record { count = n; bytes = p; ends = ends }

-- the next ordinal; the last number of 64 bits, which no answer has, is its own
unfoldable pub next : ℕ → ℕ
next n = cond (ltb n 0xFFFFFFFFFFFFFFFF) (n + 1) n

abbrev ended : ℕ → Page → List ℕ → Books
ended n p ends = books n p (end_marked ends n p.filled)

-- one answer more, with these bytes
abbrev pub with_bytes : List ℕ → Books → Books
with_bytes xs b = ended (next b.count) (kept_bytes xs b.bytes) b.ends

unfoldable pub booked : Answered → Books → Books
booked a b = with_bytes (shown_of a.told.answer a.told.block a.told.output) b

unfoldable pub all_booked : List Answered → Books → Books
all_booked [] b = b
all_booked (a ∷ rest) b = all_booked rest (booked a b)
