-- "8 all 16 places taken", as the page prints it. The definition's condition is "the issuer has no place, and all are taken" (`shut_to`): its further words
-- never decide, since for an issuer who has a place 4 comes before 8.
use Rattle.std.specs.Prelude.{Bool, eqb, length}
use Rattle.state.specs.State.{holders}
use Rattle.rules.specs.World.{World}

-- ---- all 16 places are taken: they hold 16 identifiers

-- the page's condition
abbrev pub sixteen_taken : World → Bool
sixteen_taken w = eqb (length (holders w.facility.places)) 16
