-- A line shows no more bytes than its command's value has.
use Rattle.std.specs.Prelude.{Bool, true, false, cond, List, [], ◌∷◌, ℕ, eqb, leb, length}
use Rattle.stream.specs.Fields.{Bytes}
use Rattle.stream.specs.Commands.{Row as Form, blank}
use Rattle.stream.specs.Grammar.{spelled}
use Rattle.rules.specs.Commands.{UserCommand, RAS, LAU, CPW, GDK, LDK, GIV, LIV, EIV, RDK, mode, DAUT, Command, by, EIK, IPW, RPW, logout}
use Rattle.rules.specs.Step.{Told}
use Rattle.facility.specs.Requests.{Row}
use Rattle.properties.specs.Demand1.{written}
use Rattle.session.specs.Run.{shown_of}

-- the bytes that an answer shows
abbrev pub shown_in : Told → Bytes
shown_in a = shown_of a.answer a.block a.output

-- ---- a command's step

-- how many bytes of the reply a command returns where it is done
abbrev pub users_returned : UserCommand → ℕ
users_returned (RAS p) = 0
users_returned LAU = 0
users_returned (CPW p n) = 0
users_returned (GDK p i b) = 8
users_returned (LDK p i f b) = 0
users_returned (GIV b) = 8
users_returned (LIV f b) = 0
users_returned (EIV b) = 8
users_returned (RDK p i f b) = 8
users_returned (mode m d) = 0
users_returned (DAUT f d) = 8

abbrev pub returned : Command → ℕ
returned (by u c) = users_returned c
returned (EIK i b) = 0
returned (IPW u p) = 0
returned RPW = 0
returned (logout u) = 0

-- ---- the command that a value says

-- the two lists row by row: a command's arguments take at least as many bytes as it returns, and it writes at most n
abbrev pub fitting : ℕ → List Form → List Row → Bool
fitting n [] [] = true
fitting n [] (y ∷ m) = false
fitting n (x ∷ l) [] = false
fitting n (x ∷ l) (y ∷ m) =
    cond (eqb x.tag y.tag)
    (cond (leb (returned y.command) (length (spelled x.arguments (blank 0) [])))
    (cond (leb (written y.command) n) (fitting n l m) false)
    false)
    false
