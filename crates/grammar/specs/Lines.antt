-- "A line": its words, written without the reader.
use Rattle.std.specs.Prelude.{◌≡◌, Bool, true, false, cond, List, [], ◌∷◌, ◌++◌, ℕ, eqb}
use Prim.Native.Char.{code}
use Rattle.words.specs.declared.Class.{Class}
use Rattle.words.specs.declared.Class.TheVariants.{Blank, Plain, Text}
use Rattle.words.specs.Letters.{blank_letter, is_in}

-- every letter is of the class
unfoldable pub every : Class → List ℕ → Bool
every k [] = true
every k (c ∷ cs) = cond (is_in k c) (every k cs) false

-- a word, by its letters
pub data Piece : Type 0 where
  plain text : List ℕ → Piece

-- "A word that starts with `"` is a text: it goes on to the next `"`, and what lies between the two is its letters"
abbrev pub spelled : Piece → List ℕ
spelled (plain w) = w
spelled (text w) = code "\"" ∷ (w ++ (code "\"" ∷ []))

-- "A word starts at a letter that is not blank and not `#`." A text has no `"` among its letters; "any other word is plain: it goes on up to a blank letter, `#` or the line's end"
unfoldable pub formed : Piece → Bool
formed (plain []) = false
formed (plain (c ∷ cs)) = cond (eqb c (code "\"")) false (every Plain (c ∷ cs))
formed (text w) = every Text w

-- what may follow a word: "a blank letter, `#` or the line's end"
unfoldable pub stopped : List ℕ → Bool
stopped [] = true
stopped (c ∷ cs) = cond (blank_letter c) true (eqb c (code "#"))

-- "Where a word might start, `#` starts a comment, which is the rest of the line."
unfoldable pub comment : List ℕ → Bool
comment [] = true
comment (c ∷ cs) = eqb c (code "#")

-- blank letters, the word p, and what follows it
pub record Begins (p : Piece) (l rest : List ℕ) : Type 0 where
  pub blanks : List ℕ
  pub whole : l ≡ blanks ++ (spelled p ++ rest)
  pub blank : every Blank blanks ≡ true
  pub word : formed p ≡ true
  pub stop : stopped rest ≡ true

-- blank letters, and perhaps a comment
pub record Wordless (l : List ℕ) : Type 0 where
  pub blanks : List ℕ
  pub rest : List ℕ
  pub whole : l ≡ blanks ++ rest
  pub blank : every Blank blanks ≡ true
  pub remark : comment rest ≡ true

-- the line l has these words, and no others
abbrev pub Lines : List Piece → List ℕ → Type 0
Lines [] l = Wordless l
Lines (p ∷ ps) l = (rest : List ℕ) × Begins p l rest × Lines ps rest
