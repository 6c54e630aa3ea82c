-- The password table after an entry was altered: what each identifier's entry then is.
use Rattle.std.specs.Prelude.{Option, None, Some}
use Rattle.state.specs.State.{Bytes}

-- what becomes of an entry whose owner's bytes become b
abbrev pub become : Bytes → Option Bytes → Option Bytes
become b None = None
become b (Some a) = Some b
