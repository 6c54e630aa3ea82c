-- "A line that says none of these is answered with the first column at which it stops being one, and with what was expected there".
use Rattle.std.specs.Prelude.{cond, List, [], ◌∷◌, ◌++◌, ℕ, ◌+◌, ltb}
use Prim.Native.Char.{code}
use Rattle.printout.specs.Text.{letters}
use Rattle.printout.specs.Digits.{decimal}
use Rattle.words.specs.declared.Expected.{Expected}
use Rattle.words.specs.declared.Expected.TheVariants.{Name, Identifier, Interchange, Function, Block, Bytes, RawBytes, FewerBytes, ClosingQuote, SpaceAfterQuote, NothingMore}

unfoldable pub expected_text : Expected → List ℕ
expected_text Name = letters "a command, or help"
expected_text Identifier = letters "an identifier: a decimal number up to 4294967295"
expected_text Interchange = letters "an interchange: a decimal number up to 255"
expected_text Function = letters "a function: t, r or s"
expected_text Block = letters "a block: 16 hex digits, or $n of an answer of 8 bytes"
expected_text Bytes = letters "data: hex digits in pairs, \"text\", or $n of an answer with bytes"
expected_text RawBytes = letters "raw bytes: hex digits in pairs"
expected_text FewerBytes = letters "data of at most 65500 bytes"
expected_text ClosingQuote = letters "a closing quote"
expected_text SpaceAfterQuote = letters "a space after the quote"
expected_text NothingMore = letters "nothing more"

-- columns are counted from 1, places from 0; the last number of 64 bits, which is no line's place, is its own column
unfoldable pub column : ℕ → ℕ
column place = cond (ltb place 0xFFFFFFFFFFFFFFFF) (place + 1) place

unfoldable pub wrong_text : (number place : ℕ) → Expected → List ℕ
wrong_text number place expected =
    letters "line "
    ++ (decimal number
    ++ (letters ", column "
    ++ (decimal (column place)
    ++ (letters ": expected "
    ++ (expected_text expected
    ++ (code "\n" ∷ []))))))
