-- What the code returns, as the definitions have it.
use Rattle.std.specs.Prelude.{true, false, ℕ, Option, None, Some, Result, Ok, Err}
use Rattle.words.specs.declared.Wrong.{Wrong}
use Rattle.values.specs.declared.Source.{Source}
use Rattle.values.specs.declared.Value.{Value as Fit}
use Rattle.values.specs.declared.Origin.TheVariants.{Answered}
use Rattle.values.specs.Numbers.{Upto}
use Rattle.values.specs.Sources.{source}
use Rattle.values.specs.Values.{Value, fitting, wrong}

abbrev pub upto_as : Option ℕ → Upto
upto_as None = record { within = false; number = 0 }
upto_as (Some n) = record { within = true; number = n }

abbrev pub value_as : Result Fit Wrong → Value
value_as (Ok v) = fitting v.number v.bytes
value_as (Err w) = wrong w.at w.expected

-- an answer that is not there has no bytes
abbrev pub source_as : Option Source → Source
source_as None = source Answered 0 0
source_as (Some s) = s
