-- "One line per command, with single spaces: ordinal from 1, tag (two hex digits), reply number, the bytes returned or, for a mode, written, or "-" for none."
use Rattle.std.specs.Prelude.{List, [], ◌∷◌, ◌++◌, ℕ}
use Rattle.printout.specs.Digits.{hex_byte, hex, decimal}

abbrev pub space : ℕ
space = 32

abbrev pub line_feed : ℕ
line_feed = 10

unfoldable pub shown : List ℕ → List ℕ
shown [] = 45 ∷ []
shown (b ∷ bs) = hex (b ∷ bs)

unfoldable pub line : (ordinal tag reply : ℕ) → List ℕ → List ℕ
line ordinal tag reply bytes =
    decimal ordinal ++ (space ∷ (hex_byte tag ++ (space ∷ (decimal reply ++ (space ∷ (shown bytes ++ (line_feed ∷ [])))))))
