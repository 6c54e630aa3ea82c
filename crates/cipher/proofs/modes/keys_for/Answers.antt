use Rattle.std.proofs.Common.{rules}
use Rattle.fips81.specs.Fips81.{keys_for}
use Rattle.cipher.specs.Cipher.{way_of, direction_of}
use Rattle.cipher.proofs.modes.keys_for.Goals as goal

-- where the keys are reversed
pub returns-in-Ecbd : goal.returns-in-Ecbd
unfolding way_of direction_of keys_for
returns-in-Ecbd c = search rules

-- where they stay
pub returns-in-Ecbe : goal.returns-in-Ecbe
unfolding way_of direction_of keys_for
returns-in-Ecbe c = search rules
