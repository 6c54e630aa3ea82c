-- The reader's next word and the grammar's: what stands at a place of a line.
use Rattle.std.specs.Prelude.{◌≡◌}
use mathlib.Core.List.{List}
use Prim.Native.Nat.{ℕ, ◌+◌}
use Rattle.std.proofs.Math.ListN.{length, drop}
use Rattle.words.specs.declared.Expected.{Expected}
use Rattle.words.specs.declared.Word.{Word}
use Rattle.words.specs.declared.Word.TheVariants.{PlainWord, TextWord, Broken}
use Rattle.words.specs.Split.{word_at}
use Rattle.grammar.specs.Lines.{Piece, plain, text, Begins, Wordless}

-- ---- the grammar's word, as the reader's

-- a word that starts at s, as the reader says it
abbrev pub word_from : ℕ → Piece → Word
word_from s (plain w) = PlainWord s (s + length w)
word_from s (text w) = TextWord (s + 1) (s + 1 + length w)

-- ---- the reader's word, as the grammar's

-- what stands next: no word, a word, or a text that is not as it should be
pub data Next (l : List ℕ) (at : ℕ) : Type 0 where
  none : Wordless (drop at l) → Next l at
  found : (p : Piece) (rest : List ℕ) → Begins p (drop at l) rest → Next l at
  broken : (b : ℕ) (x : Expected) → word_at l at ≡ Broken b x → Next l at
