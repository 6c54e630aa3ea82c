-- The page's worked example: its input, and the lines that NOTARY prints.
use Rattle.std.specs.Prelude.{cond, [], ◌∷◌, ◌++◌, ℕ, ◌+◌, ◌-◌, ◌*◌, eqb, ltb}
use Prim.Native.Char.{code}
use Prim.Native.String.{String, [] as no-letters, ◌∷◌ as ◌then◌}
use Rattle.printout.specs.Text.{letters}
use Rattle.state.specs.State.{Bytes, with_places, bare, give}
use Rattle.rules.specs.World.{World, over}
use Rattle.rules.specs.Commands.{EIK, IPW}
use Rattle.rules.specs.Step.{Done, Refused, Result, plain, step}
use Rattle.session.specs.Run.{answered, carry_on, transcript}
use Rattle.programs.specs.Notary.{buffer, start}

-- ---- as the page prints it

-- the value of a hex digit's letter: 0 to 9 are the letters 48 to 57, A to F 65 to 70
abbrev digit : ℕ → ℕ
digit c = cond (ltb c 58) (c - 48) (c - 55)

-- hex digits in pairs, with spaces between them for reading only
abbrev bytes : String → Bytes
bytes no-letters = []
bytes (a then no-letters) = []
bytes (a then (b then s)) = cond (eqb (code a) 32) (bytes (b then s)) ((digit (code a) * 16 + digit (code b)) ∷ bytes s)

abbrev printed : String → Bytes
printed s = letters s ++ 10 ∷ []

abbrev pub input : Bytes
input =
    bytes "20000F 83000101 8500080101010101010101"
    ++ bytes "220000"
    ++ bytes "04001D 81000400000005 82000400000006 83000101 8500080000000000000000"
    ++ bytes "7F0000"
    ++ bytes "20000F 83000102 8500080000000000000000"
    ++ bytes "210012 81000400000005 8500080102030405060708"
    ++ bytes "010012 81000400000005 8500080102030405060708"
    ++ bytes "0A0012 81000400000005 8700080000000000000000"
    ++ bytes "020007 81000410000000"
    ++ bytes "0200"

abbrev pub output : Bytes
output =
    printed "1 20 0 -"
    ++ printed "2 22 7 -"
    ++ printed "3 04 3 -"
    ++ printed "4 7F 16 -"
    ++ printed "5 20 14 -"
    ++ printed "6 21 0 -"
    ++ printed "7 01 0 -"
    ++ printed "8 0A 10 -"
    ++ printed "9 02 1 -"
    ++ printed "10 02 17 -"

-- ---- the seventh command, RAS: the cipher is shut, so nobody computes what the entry holds; but it is the password's, by the laws of IPW and RAS

abbrev key : Bytes
key = bytes "0101010101010101"

abbrev pub password : Bytes
password = bytes "0102030405060708"

-- key 1 entered, by the first command; then the password of 5, by the sixth
abbrev pub entered_1 : World
entered_1 = (step start (EIK 1 key) buffer).world

abbrev pub enrolled_5 : World
enrolled_5 = (step entered_1 (IPW 5 password) buffer).world

-- 5 is
abbrev pub active_5 : World
active_5 = over (with_places enrolled_5.facility (give 5 bare enrolled_5.facility.places)) enrolled_5.table

-- ---- all lines are computed, but for what RAS comes to

-- where RAS came to r; behind it, at 116, reading goes on
abbrev pub lines : Result → Bytes
lines r =
    transcript 1
    (answered 0x20 (plain Done buffer)
    ∷ answered 0x22 (plain (Refused 7) buffer)
    ∷ answered 0x04 (plain (Refused 3) buffer)
    ∷ answered 0x7F (plain (Refused 16) buffer)
    ∷ answered 0x20 (plain (Refused 14) buffer)
    ∷ answered 0x21 (plain Done buffer)
    ∷ answered 0x01 r.answered
    ∷ (carry_on 142 input r.world r.answered.output 116).answers)
