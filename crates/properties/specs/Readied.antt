-- Runs from fresh facilities, by EIK, IPW and RAS, so that no one takes demand 2 for empty: the premises of `Delivered`, `OneFacility` and `Oneself` are met.
use Rattle.std.specs.Prelude.{replicate}
use mathlib.Core.List.{[], ◌∷◌}
use Rattle.state.specs.State.{Bytes, fresh}
use Rattle.rules.specs.World.{World, over}
use Rattle.rules.specs.Commands.{EIK}
use Rattle.rules.specs.Step.{step}

-- ---- numbers

abbrev free : Bytes
free = replicate 768 0xFF

abbrev pub own : Bytes
own = 0x01 ∷ 0x23 ∷ 0x45 ∷ 0x67 ∷ 0x89 ∷ 0xAB ∷ 0xCD ∷ 0xEF ∷ []

abbrev pub interchange : Bytes
interchange = 0xFE ∷ 0xDC ∷ 0xBA ∷ 0x98 ∷ 0x76 ∷ 0x54 ∷ 0x32 ∷ 0x10 ∷ []

abbrev pub password₅ : Bytes
password₅ = 0x11 ∷ 0x22 ∷ 0x33 ∷ 0x44 ∷ 0x55 ∷ 0x66 ∷ 0x77 ∷ 0x88 ∷ []

abbrev pub password₆ : Bytes
password₆ = 0x88 ∷ 0x77 ∷ 0x66 ∷ 0x55 ∷ 0x44 ∷ 0x33 ∷ 0x22 ∷ 0x11 ∷ []

abbrev pub bits : Bytes
bits = 0x3B ∷ 0x5C ∷ 0x2A ∷ 0x91 ∷ 0x07 ∷ 0xE4 ∷ 0xD8 ∷ 0x6F ∷ []

abbrev pub seed : Bytes
seed = 0x13 ∷ 0x57 ∷ 0x9B ∷ 0xDF ∷ 0x02 ∷ 0x46 ∷ 0x8A ∷ 0xCE ∷ []

-- "REEL 0417 SIDE A"
abbrev pub text : Bytes
text = 0x52 ∷ 0x45 ∷ 0x45 ∷ 0x4C ∷ 0x20 ∷ 0x30 ∷ 0x34 ∷ 0x31 ∷ 0x37 ∷ 0x20 ∷ 0x53 ∷ 0x49 ∷ 0x44 ∷ 0x45 ∷ 0x20 ∷ 0x41 ∷ []

-- ---- a fresh facility with its own key

abbrev pub keyed₁ : World
keyed₁ = (step (over fresh free) (EIK 1 own) []).world
