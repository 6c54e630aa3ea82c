-- An answer shows at most the eight bytes of a reply, or as many as the output has; and the output stays as long as it is.
use Rattle.std.specs.Prelude.{◌≡◌, length}
use Prim.Native.Nat.{ℕ, ◌≤◌}
use Rattle.stream.specs.Fields.{Bytes}
use Rattle.rules.specs.Step.{Result}
use Rattle.readings.specs.Shown.{shown_in}

-- ---- an answer

abbrev pub Kept : Bytes → Result → Type 0
Kept out r = (length r.answered.output ≡ length out) × ((n : ℕ) → 8 ≤ n → length out ≤ n → length (shown_in r.answered) ≤ n)
