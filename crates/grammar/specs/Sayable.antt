-- What the stream says, a line can say, if the function is t, r or s and the data are at most 65500 bytes.
use Rattle.std.specs.Prelude.{◌≡◌, ◌⊎◌, ℕ, ◌≤◌, eqb, length}
use Rattle.std.proofs.Math.Bool.{true, cond}
use mathlib.Core.List.{List, [], ◌∷◌, ◌++◌}
use Prim.Native.Char.{code}
use Rattle.ground.specs.Lists.{Below}
use Rattle.names.specs.Names.{name}
use Rattle.printout.specs.Digits.{hex, decimal}
use Rattle.printout.specs.Text.{letters}
use Rattle.stream.specs.declared.Request.{Request}
use Rattle.stream.specs.Fields.{Bytes}
use Rattle.stream.specs.Grammar.{argument, among}
use Rattle.grammar.specs.Lines.{Piece, plain, text, spelled}

-- ---- the line of a command

-- data in hex digits; no data as a text without letters
unfoldable pub data_word : Bytes → Piece
data_word [] = text []
data_word (b ∷ bs) = plain (hex (b ∷ bs))

-- the word for the field k
unfoldable pub word_for : ℕ → Request → Bytes → Piece
unfolding data_word
word_for k a d =
    cond (eqb k 0x81) (plain (decimal a.issuer))
    (cond (eqb k 0x82) (plain (decimal a.party))
    (cond (eqb k 0x83) (plain (decimal a.interchange))
    (cond (eqb k 0x84) (plain (a.function ∷ []))
    (cond (eqb k 0x85) (plain (hex a.block))
    (cond (eqb k 0x86) (plain (hex a.second))
    (data_word d))))))

-- each after a space
unfoldable pub spaced : List ℕ → Request → Bytes → List ℕ
spaced [] a d = []
spaced (k ∷ ks) a d = code " " ∷ (spelled (word_for k a d) ++ spaced ks a d)

unfoldable pub written : List ℕ → Request → Bytes → List ℕ
written ks a d = name a.tag ++ spaced ks a d

-- "`t`, `r` or `s`"
abbrev pub OneOf : ℕ → Type 0
OneOf c = (c ∷ [] ≡ letters "t") ⊎ ((c ∷ [] ≡ letters "r") ⊎ (c ∷ [] ≡ letters "s"))

-- a request of the fields ks that a line can say: in bytes, with a function that the page has, and not too much data
pub record Sayable (ks : List ℕ) (a : Request) (d : Bytes) : Type 0 where
  pub bytes : (k : ℕ) → among k ks ≡ true → Below 256 (argument k a d)
  pub function : among 0x84 ks ≡ true → OneOf a.function
  pub short : length d ≤ 65500
