-- "A line of more than 131072 letters is read as if it ended after these. Where that is wrong before its end, that is said; otherwise it is wrong at column 131073".
use Rattle.std.specs.Prelude.{Bool, false, cond, List, ℕ, ltb, length}
use Rattle.words.specs.declared.Expected.TheVariants.{NothingMore}
use Rattle.reader.specs.Line.{Line, wrong_line}
use Rattle.reader.specs.Reader.{read_line}

unfoldable pub wrong_before : Line → ℕ → Bool
wrong_before r n = cond r.fits false (ltb r.at n)

-- a line that goes on past its first n letters, as they are read
unfoldable pub cut_at : Line → ℕ → Line
cut_at r n = cond (wrong_before r n) r (wrong_line n NothingMore)

unfoldable pub heard : Bool → List ℕ → List ℕ → List ℕ → Line
heard longer l kept ends = cond longer (cut_at (read_line l kept ends) (length l)) (read_line l kept ends)
