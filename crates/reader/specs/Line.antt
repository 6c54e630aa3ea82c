-- How far a line has been read: what it says so far, or where it stops being one.
use Rattle.std.specs.Prelude.{Bool, true, false, ℕ}
use Rattle.names.specs.declared.Says.{Says}
use Rattle.names.specs.declared.Says.TheVariants.{Nothing}
use Rattle.stream.specs.declared.Request.{Request}
use Rattle.stream.specs.Commands.{blank}
use Rattle.values.specs.declared.Origin.TheVariants.{Letters}
use Rattle.values.specs.declared.Source.{Source}
use Rattle.values.specs.Sources.{source}
use Rattle.words.specs.declared.Expected.{Expected}
use Rattle.words.specs.declared.Expected.TheVariants.{NothingMore}

-- what it says, or, where it does not fit, the place and what was expected there. A column is the place and one
pub record Line : Type 0 where
  pub fits : Bool
  pub at : ℕ
  pub expected : Expected
  pub says : Says
  pub asked : Request
  pub bytes : Source

unfoldable pub wrong_line : ℕ → Expected → Line
wrong_line at e = record { fits = false; at = at; expected = e; says = Nothing; asked = blank 0; bytes = source Letters 0 0 }

unfoldable pub so_far : Says → ℕ → ℕ → Source → Line
so_far s t at b = record { fits = true; at = at; expected = NothingMore; says = s; asked = blank t; bytes = b }
