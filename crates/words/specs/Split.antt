-- A line's words: where the next one starts and ends.
use Rattle.std.specs.Prelude.{Bool, cond, List, ℕ, ◌+◌, eqb, leb, length, get_or}
use Prim.Native.Char.{code}
use Rattle.words.specs.declared.Class.TheVariants.{Blank, Plain, Text}
use Rattle.words.specs.declared.Expected.TheVariants.{ClosingQuote, SpaceAfterQuote}
use Rattle.words.specs.declared.Word.{Word}
use Rattle.words.specs.declared.Word.TheVariants.{PlainWord, TextWord, Broken, NoWord}
use Rattle.words.specs.Letters.{run_end}

-- a blank letter, `#` or the line's end stands there: no letter of a plain word
unfoldable pub stops : List ℕ → ℕ → Bool
stops l at = eqb (run_end Plain l at) at

-- the text whose letters start there: "it goes on to the next quote; after it must come a blank letter, # or the line's end"
unfoldable pub text_at : List ℕ → ℕ → Word
text_at l start =
    cond (leb (length l) (run_end Text l start)) (Broken (run_end Text l start) ClosingQuote)
    (cond (stops l (run_end Text l start + 1)) (TextWord start (run_end Text l start))
    (Broken (run_end Text l start + 1) SpaceAfterQuote))

unfoldable pub starts_at : List ℕ → ℕ → Word
starts_at l start =
    cond (leb (length l) start) (NoWord start)
    (cond (eqb (get_or l start 0) (code "#")) (NoWord start)
    (cond (eqb (get_or l start 0) (code "\"")) (text_at l (start + 1))
    (PlainWord start (run_end Plain l start))))

-- the next word from there on
unfoldable pub word_at : List ℕ → ℕ → Word
word_at l at = starts_at l (run_end Blank l at)
