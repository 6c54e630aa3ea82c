use Rattle.std.proofs.Common.{◌≡◌, map, drop}
use Rattle.ground.specs.Rows.{row}
use Rattle.values.specs.Numbers.{digit_value, decimal_value}
use Rattle.values.proofs.numbers.number_up_to.Given as goal

abbrev pub invariant-loop-digit : goal.invariant-loop-digit
invariant-loop-digit l = row 10 l.n (map digit_value (drop l.digit-index l.digits)) ≡ decimal_value l.digits
