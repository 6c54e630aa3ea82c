-- What the code returns, as the definitions have it.
use Rattle.std.specs.Prelude.{true, Result, Ok, Err}
use Rattle.words.specs.declared.Expected.TheVariants.{NothingMore}
use Rattle.words.specs.declared.Wrong.{Wrong}
use Rattle.reader.specs.declared.Line.{Line as Good}
use Rattle.reader.specs.Line.{Line, wrong_line}

abbrev pub line_as : Result Good Wrong → Line
line_as (Ok r) = record { fits = true; at = r.at; expected = NothingMore; says = r.says; asked = r.asked; bytes = r.bytes }
line_as (Err w) = wrong_line w.at w.expected
