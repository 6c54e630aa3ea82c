-- Raw bytes: "the first word is `!`, and each word after it, of which there is at least one, is plain: hex digits, an even number of them".
use Rattle.std.specs.Prelude.{cond, List, ℕ, zero, suc, ◌-◌, ◌%◌, eqb, ltb, length}
use Rattle.names.specs.declared.Says.TheVariants.{Raw}
use Rattle.values.specs.declared.Origin.TheVariants.{HexWords}
use Rattle.values.specs.Sources.{source}
use Rattle.words.specs.declared.Class.TheVariants.{Hex}
use Rattle.words.specs.declared.Expected.TheVariants.{RawBytes}
use Rattle.words.specs.declared.Word.{Word}
use Rattle.words.specs.declared.Word.TheVariants.{PlainWord, TextWord, Broken, NoWord}
use Rattle.words.specs.Letters.{run_end}
use Rattle.words.specs.Split.{word_at}
use Rattle.reader.specs.Line.{Line, wrong_line, so_far}

-- a plain word from a to z: "hex digits, an even number of them"
unfoldable pub raw_hex : List ℕ → Line → ℕ → ℕ → Line
raw_hex l r a z =
    cond (ltb (run_end Hex l a) z) (wrong_line (run_end Hex l a) RawBytes)
    (cond (eqb ((z - a) % 2) 0) (so_far Raw 0 z r.bytes) (wrong_line z RawBytes))

unfoldable pub raw_word : List ℕ → Line → Word → Line
raw_word l r (PlainWord a z) = raw_hex l r a z
raw_word l r (TextWord a e) = wrong_line (a - 1) RawBytes
raw_word l r (Broken at x) = wrong_line at x
raw_word l r (NoWord at) = so_far Raw 0 at r.bytes

unfoldable pub raw_turn : List ℕ → Line → Line
raw_turn l r = cond r.fits (raw_word l r (word_at l r.at)) r

unfoldable pub raw_turns : List ℕ → ℕ → Line → Line
raw_turns l zero r = r
raw_turns l (suc n) r = raw_turns l n (raw_turn l r)

-- at least one word, and at most as many as the line has letters
unfoldable pub raw_start : List ℕ → ℕ → Word → Line
raw_start l at (PlainWord a e) = raw_turns l (length l) (so_far Raw 0 at (source HexWords at (length l)))
raw_start l at (TextWord a e) = wrong_line (a - 1) RawBytes
raw_start l at (Broken b x) = wrong_line b x
raw_start l at (NoWord b) = wrong_line b RawBytes

unfoldable pub raw_line : List ℕ → ℕ → Line
raw_line l at = raw_start l at (word_at l at)
