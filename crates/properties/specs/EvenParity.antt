-- "14 some byte of the entered key has even parity": what EIK tests is this, with the ones of a byte counted bit by bit (`Keys.ones`).
use Rattle.std.specs.Prelude.{Bool, true, false, cond, [], ◌∷◌, ◌%◌, eqb}
use Rattle.keys.specs.Keys.{ones}
use Rattle.state.specs.State.{Bytes}

-- some byte of the key has an even number of ones
abbrev pub some_even : Bytes → Bool
some_even [] = false
some_even (x ∷ xs) = cond (eqb (ones x % 2) 0) true (some_even xs)
