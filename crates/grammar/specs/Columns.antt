-- Where a bad line is wrong: "the first column at which it stops being one" lies within the line or just past its end.
use Rattle.std.specs.Prelude.{◌≡◌, get_or}
use Rattle.std.proofs.Math.Bool.{true}
use mathlib.Core.List.{List}
use Prim.Native.Nat.{ℕ, ◌+◌, ◌≤◌, ◌<◌}
use Prim.Native.Char.{code}
use Rattle.std.proofs.Math.ListN.{length}
use Rattle.words.specs.declared.Class.TheVariants.{Plain, Text}
use Rattle.words.specs.declared.Expected.{Expected}
use Rattle.words.specs.declared.Expected.TheVariants.{Name, Identifier, Interchange, Function, Block, Bytes, RawBytes, FewerBytes, ClosingQuote, SpaceAfterQuote, NothingMore}
use Rattle.words.specs.Letters.{is_in, run_end}

-- what is expected of a text, wherever it stands: 1 is its closing quote, and 2 a space after it
abbrev pub of_text : Expected → ℕ
of_text Name = 0
of_text Identifier = 0
of_text Interchange = 0
of_text Function = 0
of_text Block = 0
of_text Bytes = 0
of_text RawBytes = 0
of_text FewerBytes = 0
of_text ClosingQuote = 1
of_text SpaceAfterQuote = 2
of_text NothingMore = 0

-- after the closing quote of a text, "the next" after its opening one, and at a letter: there "must come a blank letter, `#` or the line's end"
pub record AfterQuote (l : List ℕ) (at : ℕ) : Type 0 where
  pub quote : ℕ
  pub opened : get_or l quote 0 ≡ code "\""
  pub closed : get_or l (run_end Text l (quote + 1)) 0 ≡ code "\""
  pub next : at ≡ run_end Text l (quote + 1) + 1
  pub there : at < length l
  pub more : is_in Plain (get_or l at 0) ≡ true

-- the place at which something is expected
pub record Placed (l : List ℕ) (at : ℕ) (x : Expected) : Type 0 where
  pub within : at ≤ length l
  pub closing : x ≡ ClosingQuote → at ≡ length l
  pub spaced : x ≡ SpaceAfterQuote → AfterQuote l at
