-- What NOTARY prints is read back: its bytes as hex digits, its numbers as decimal digits.
use Rattle.std.specs.Prelude.{◌≡◌, true, ℕ}
use Rattle.printout.specs.Digits.{decimal}
use Rattle.values.specs.Numbers.{decimal_value}
use Rattle.words.specs.declared.Class.TheVariants.{Digit}
use Rattle.grammar.specs.Lines.{every}

-- a number of one digit, and one of more
abbrev pub SaidBack : ℕ → Type 0
SaidBack n = (every Digit (decimal n) ≡ true) × (decimal_value (decimal n) ≡ n)
