-- "A line is the bytes up to a line feed, without it".
use Rattle.std.specs.Prelude.{Bool, true, false, cond, List, [], ◌∷◌, ℕ, eqb, ltb, length}
use Prim.Native.Char.{code}
use Rattle.printout.specs.Page.{Page, page, letter, entered}
use Rattle.reader.specs.Line.{Line}
use Rattle.clerk.specs.Told.{is_quit}

-- a line as far as it has come: its letters, as many as found room; whether it has more; and whether its line feed has come
pub record Partly : Type 0 where
  pub letters : Page
  pub longer : Bool
  pub complete : Bool

abbrev pub has_room : Page → Bool
has_room p = ltb p.filled (length p.letters)

unfoldable pub one_more : ℕ → Partly → Partly
one_more x p =
    cond (eqb x (code "\n"))
    (record { letters = p.letters; longer = p.longer; complete = true })
    (record { letters = letter x p.letters; longer = cond (has_room p.letters) p.longer true; complete = false })

-- no line feed is among them
unfoldable pub no_feed : List ℕ → Bool
no_feed [] = true
no_feed (x ∷ xs) = cond (eqb x (code "\n")) false (no_feed xs)

-- a line in a buffer, from its start: it has more letters than found room where it is longer than the buffer
abbrev pub line_in : List ℕ → Bool → List ℕ → Partly
line_in buffer complete l = record { letters = entered l (page buffer 0); longer = ltb (length buffer) (length l); complete = complete }

-- "`quit`, or the input's end, ends the desk": the input ends with a line whose line feed has not come
unfoldable pub is_last : Bool → Line → Bool
is_last complete said = cond complete (is_quit said) true
