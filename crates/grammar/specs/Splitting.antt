-- A line has one splitting into words.
use Rattle.std.specs.Prelude.{Bool, true, false, List, [], ℕ}
use Rattle.stream.specs.Fields.{part}
use Rattle.words.specs.declared.Word.{Word}
use Rattle.words.specs.declared.Word.TheVariants.{PlainWord, TextWord, Broken, NoWord}
use Rattle.grammar.specs.Lines.{Piece, plain, text}

-- the letters of the reader's word
abbrev pub piece_of : List ℕ → Word → Piece
piece_of l (PlainWord a z) = plain (part a z l)
piece_of l (TextWord a z) = text (part a z l)
piece_of l (Broken b x) = plain []
piece_of l (NoWord b) = plain []

abbrev pub is_word : Word → Bool
is_word (PlainWord a z) = true
is_word (TextWord a z) = true
is_word (Broken b x) = false
is_word (NoWord b) = false
