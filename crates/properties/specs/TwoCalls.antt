-- "After CBC or CFB that side's IV is the last cipher block, so two calls equal one call on the joined data where that is at most 32768 bytes": the same
-- reply, accepted or refused, the same bytes and the same world, for all six modes.
use Rattle.std.specs.Prelude.{ℕ}
use Rattle.rules.specs.Step.{Result, number_of}

abbrev pub reply : Result → ℕ
reply r = number_of r.answered.answer
