-- A command's bytes: the field of its tag, whose value holds exactly its argument fields, in ascending tags. What no stream can spell is not written.
use Rattle.std.specs.Prelude.{cond, List, [], ℕ, ltb, length, Option, Some, None}
use Rattle.stream.specs.declared.Request.{Request}
use Rattle.stream.specs.Fields.{Bytes, field}
use Rattle.stream.specs.Commands.{arguments_of}
use Rattle.stream.specs.Grammar.{spelled}

-- two bytes say the length of a value up to 65535
abbrev pub unless_long : ℕ → Bytes → Bytes
unless_long tag value = cond (ltb (length value) 65536) (field tag value) []

-- no bytes for an unknown tag
abbrev pub encoded_with : Request → Bytes → Option (List ℕ) → Bytes
encoded_with a d None = []
encoded_with a d (Some ks) = unless_long a.tag (spelled ks a d)

unfoldable pub encoded : Request → Bytes → Bytes
encoded a d = encoded_with a d (arguments_of a.tag)
