-- The stream's bytes of a line: "for a command its field, for raw bytes those bytes".
use Rattle.std.specs.Prelude.{cond, List, [], ℕ, take}
use Rattle.encoder.specs.Encoded.{encoded}
use Rattle.reader.specs.Line.{Line}
use Rattle.names.specs.declared.Says.{Says}
use Rattle.names.specs.declared.Says.TheVariants.{Nothing, Command, Raw, Help, Who, Quit}
use Rattle.values.specs.Sources.{meant}

-- a command's data is at most 65500 bytes; a field of more than 65535 is not written
unfoldable pub command_bytes : Line → List ℕ → List ℕ → List ℕ
command_bytes said l kept = encoded said.asked (take 65536 (meant said.bytes l kept))

abbrev pub bytes_for : Says → Line → List ℕ → List ℕ → List ℕ
bytes_for Nothing said l kept = []
bytes_for Command said l kept = command_bytes said l kept
bytes_for Raw said l kept = meant said.bytes l kept
bytes_for Help said l kept = []
bytes_for Who said l kept = []
bytes_for Quit said l kept = []

-- `l` is the line, and `kept` the room for the bytes of the answers, which fill it from its start
unfoldable pub spoken : Line → List ℕ → List ℕ → List ℕ
spoken said l kept = cond said.fits (bytes_for said.says said l kept) []
