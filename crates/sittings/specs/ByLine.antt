-- A command's line is one whole command of the stream; so NOTARY answers the bytes of all lines at once as the desk answers line after line, where raw bytes are whole too.
use Rattle.std.specs.Prelude.{◌≡◌, false, ℕ}
use mathlib.Core.List.{List, [], ◌∷◌, ◌++◌}
use Rattle.stream.specs.Fields.{Bytes}
use Rattle.grammar.specs.Says.{RawBytes}
use Rattle.rules.specs.World.{World}
use Rattle.session.specs.Run.{Ran, ran, ran_from}
use Rattle.clerk.specs.Spoken.{spoken}
use Rattle.counter.specs.Kept.{Books, all_booked}
use Rattle.counter.specs.Line.{heard_with}
use Rattle.readings.specs.InTurn.{Sent, sent, Short, next}

-- ---- a line that says a command

abbrev pub tagged : ℕ → Bytes → Sent
tagged t v = record { tag = t; value = v }

-- ---- the desk's lines, one after the other

-- the bytes of a line of at most 131072 letters, with these answers before it
unfoldable pub said : Books → List ℕ → Bytes
said b l = spoken (heard_with false l b) l b.bytes.letters

-- each line carried out in the world that the one before it left, with the answers so far
unfoldable pub line_by_line : List (List ℕ) → World → Bytes → Books → Ran
line_by_line [] w out b = ran w out []
line_by_line (l ∷ ls) w out b = next (ran_from (said b l) w out 0) (λ w' out'. line_by_line ls w' out' (all_booked (ran_from (said b l) w out 0).answers b))

-- their bytes, as the scribe writes them
unfoldable pub written : List (List ℕ) → World → Bytes → Books → Bytes
written [] w out b = []
written (l ∷ ls) w out b =
    said b l ++ written ls (ran_from (said b l) w out 0).world (ran_from (said b l) w out 0).output (all_booked (ran_from (said b l) w out 0).answers b)

-- raw bytes, if the line says any, are whole commands
abbrev pub WholeLine : List ℕ → Type 0
WholeLine l = (d : Bytes) → RawBytes l d → (cs : List Sent) × Short cs × (d ≡ sent cs)

abbrev pub Whole : List (List ℕ) → Type 0
Whole [] = Unit {0}
Whole (l ∷ ls) = WholeLine l × Whole ls
