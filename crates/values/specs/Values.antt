-- The word from a to z of a line l as a field's value, or the first place where it stops being one. Of answers m bytes are kept, and end where `ends` says.
use Rattle.std.specs.Prelude.{Bool, true, false, cond, List, ℕ, ◌+◌, ◌-◌, ◌/◌, ◌%◌, eqb, ltb, leb, get_or}
use Prim.Native.Char.{code}
use Rattle.stream.specs.Fields.{part}
use Rattle.values.specs.declared.Origin.TheVariants.{HexDigits, Letters}
use Rattle.values.specs.declared.Source.{Source}
use Rattle.words.specs.declared.Class.TheVariants.{Digit, Hex}
use Rattle.words.specs.declared.Expected.{Expected}
use Rattle.words.specs.declared.Expected.TheVariants.{Function, Block, Bytes, FewerBytes, NothingMore}
use Rattle.words.specs.Letters.{run_end}
use Rattle.values.specs.Numbers.{Upto, decimal_value, up_to}
use Rattle.values.specs.Sources.{source, answer_source}

-- a word as a field's value, a number or bytes; or where it stops being one
pub record Value : Type 0 where
  pub fits : Bool
  pub at : ℕ
  pub expected : Expected
  pub number : ℕ
  pub bytes : Source

unfoldable pub fitting : ℕ → Source → Value
fitting n s = record { fits = true; at = 0; expected = NothingMore; number = n; bytes = s }

unfoldable pub wrong : ℕ → Expected → Value
wrong at e = record { fits = false; at = at; expected = e; number = 0; bytes = source Letters 0 0 }

abbrev pub numeric : ℕ → Value
numeric n = fitting n (source Letters 0 0)

-- "a number: at its first letter that is not a digit; if all are digits, and the number is too large, at its start"
unfoldable pub number_found : Expected → ℕ → Upto → Value
number_found e a u = cond u.within (numeric u.number) (wrong a e)

unfoldable pub number_value : Expected → ℕ → List ℕ → ℕ → ℕ → Value
number_value e limit l a z = cond (ltb (run_end Digit l a) z) (wrong (run_end Digit l a) e) (number_found e a (up_to limit (decimal_value (part a z l))))

-- "plain: `t`, `r` or `s`"
unfoldable pub function_letter : ℕ → Bool
function_letter c = cond (eqb c (code "t")) true (cond (eqb c (code "r")) true (eqb c (code "s")))

unfoldable pub function_value : List ℕ → ℕ → ℕ → Value
function_value l a z =
    cond (eqb (z - a) 1)
    (cond (function_letter (get_or l a 0)) (numeric (get_or l a 0)) (wrong a Function))
    (wrong a Function)

-- "hex digits: at the first letter that is not a hex digit; a block of more than 16, at its seventeenth letter; where digits are lacking, one past the word's end"
unfoldable pub hex_block : List ℕ → ℕ → ℕ → Value
hex_block l a z =
    cond (ltb (run_end Hex l a - a) 16) (wrong (run_end Hex l a) Block)
    (cond (eqb (z - a) 16) (fitting 0 (source HexDigits a z)) (wrong (a + 16) Block))

-- "At most 65500 bytes": n bytes from s, for the word at a
unfoldable pub data_of : ℕ → ℕ → Source → Value
data_of a n s = cond (leb n 65500) (fitting 0 s) (wrong a FewerBytes)

unfoldable pub hex_data : List ℕ → ℕ → ℕ → Value
hex_data l a z =
    cond (ltb (run_end Hex l a) z) (wrong (run_end Hex l a) Bytes)
    (cond (eqb ((z - a) % 2) 0) (data_of a ((z - a) / 2) (source HexDigits a z)) (wrong z Bytes))

abbrev pub hex_for : Bool → List ℕ → ℕ → ℕ → Value
hex_for true l a z = hex_block l a z
hex_for false l a z = hex_data l a z

-- "`$n`, where answer n has eight bytes" for a block, and "where answer n has bytes" for data
unfoldable pub answer_block : ℕ → Source → Value
answer_block a s = cond (eqb (s.end - s.start) 8) (fitting 0 s) (wrong a Block)

unfoldable pub answer_data : ℕ → Source → Value
answer_data a s = cond (ltb s.start s.end) (data_of a (s.end - s.start) s) (wrong a Bytes)

abbrev pub answer_for : Bool → ℕ → Source → Value
answer_for true a s = answer_block a s
answer_for false a s = answer_data a s

abbrev pub expected_bytes : Bool → Expected
expected_bytes true = Block
expected_bytes false = Bytes

unfoldable pub answer_found : Bool → ℕ → List ℕ → ℕ → Upto → Value
answer_found eight m ends a u = cond u.within (answer_for eight a (answer_source m ends u.number)) (wrong a (expected_bytes eight))

-- "at the first letter after `$` that is not a digit, or one past the word's end if there is none at all; if the number is too large or there is no such answer, at its `$`": b is after the `$`
unfoldable pub answer_value : Bool → ℕ → List ℕ → List ℕ → ℕ → ℕ → ℕ → Value
answer_value eight m ends l a b z =
    cond (ltb (run_end Digit l b) z) (wrong (run_end Digit l b) (expected_bytes eight))
    (cond (leb z b) (wrong b (expected_bytes eight))
    (answer_found eight m ends a (up_to 4294967295 (decimal_value (part b z l)))))

-- a block, which has eight bytes, or data
unfoldable pub bytes_value : Bool → ℕ → List ℕ → List ℕ → ℕ → ℕ → Value
bytes_value eight m ends l a z = cond (eqb (get_or l a 0) (code "$")) (answer_value eight m ends l a (a + 1) z) (hex_for eight l a z)
