-- Writing and decoding undo one another: what is written is read back, and what is read is written to the same bytes.
use Rattle.std.specs.Prelude.{◌≡◌, ℕ, ◌+◌, length, drop, Some}
use Rattle.stream.specs.declared.Field.TheVariants.{Whole}
use Rattle.stream.specs.declared.Request.{Request}
use Rattle.stream.specs.declared.Reading.{Reading}
use Rattle.stream.specs.Fields.{Bytes, field_at, value_at}
use Rattle.stream.specs.Commands.{decoded}

-- at this position of a stream the reader finds the whole field of the tag t with the value v, and the decoder finds in it the request a with the data d
pub record ReadBack (s : Bytes) (at t : ℕ) (v : Bytes) (a : Request) (d : Bytes) : Type 0 where
  pub whole : field_at s at ≡ Whole t (at + 3) (at + 3 + length v)
  pub value : value_at s at ≡ v
  pub reading : Reading
  pub fits : decoded t v ≡ Some reading
  pub asked : reading.asked ≡ a
  pub rest : drop reading.text v ≡ d
