-- Runs that are computed, so that no one takes the demand for empty: its premises can be met, and without each of the two bounds on places it fails.
use Rattle.std.specs.Prelude.{false, List, [], ◌∷◌, ◌++◌, map, ℕ, zero, suc, ◌+◌, replicate}
use Rattle.cipher.specs.declared.modes.Mode.TheVariants.{Cbce}
use Rattle.state.specs.declared.Place.{Place}
use Rattle.state.specs.State.{held, Bytes, no_interchange_key, vacant, seat, bare}
use Rattle.rules.specs.World.{World}
use Rattle.rules.specs.Commands.{UserCommand, LAU, LIV, LDK, mode}
use Rattle.rules.specs.Step.{Told, number_of}
use Rattle.merging.specs.Demand3.{Request}

-- ---- passwords. The cipher is shut, but it promises that deciphering is undone: so a password can be given by its entry

abbrev pub key : Bytes
key = replicate 8 1

-- two entries
abbrev pub first : Bytes
first = 1 ∷ 2 ∷ 3 ∷ 4 ∷ 5 ∷ 6 ∷ 7 ∷ 8 ∷ []

abbrev pub second : Bytes
second = replicate 8 9

-- ---- a facility with current key 1, a table with the entries of 5 and 6, and requests

abbrev pub entry : ℕ → Bytes → Bytes
entry u x = 0 ∷ 0 ∷ 0 ∷ u ∷ x

abbrev pub start : List Place → World
start ps = record {
  facility = record {
    current_keys = held (record { 0 = key }) ∷ replicate 14 no_interchange_key;
    old_keys = replicate 15 no_interchange_key;
    due = false;
    places = ps;
  };
  table = entry 5 first ++ entry 6 first;
}

abbrev pub ask : UserCommand → Request UserCommand
ask c = record { command = c; output = replicate 9 9 }

abbrev pub numbers : List Told → List ℕ
numbers = map (λ t. number_of t.answer)

-- ---- three users: 5 and 6 come, 7 is there

abbrev pub block : Bytes
block = replicate 8 0

abbrev pub of7 : List (Request UserCommand)
of7 = ask (LDK 7 1 0x73 block) ∷ ask (mode Cbce block) ∷ ask (LIV 0x74 block) ∷ ask (mode Cbce block) ∷ ask LAU ∷ []

abbrev pub three : World
three = start (vacant ∷ seat 7 bare ∷ replicate 14 vacant)

-- ---- seventeen: with 15 places held by others, the second of two users finds no place, whom his list alone admits

abbrev crowd : ℕ → List Place
crowd zero = []
crowd (suc n) = seat (100 + n) bare ∷ crowd n

abbrev pub nearly_full : World
nearly_full = start (crowd 15 ++ (vacant ∷ []))

-- ---- 5 in two places: sixteen identifiers, and yet no place for 6 until 5 has gone

abbrev pub doubled : World
doubled = start (seat 5 bare ∷ seat 5 bare ∷ crowd 14)
