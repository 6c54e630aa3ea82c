-- One command carried out: the first refusal that holds, or else the effect.
use Rattle.std.specs.Prelude.{Bool, cond, ℕ, eqb, length}
use Rattle.cipher.specs.Cipher.{onto}
use Rattle.state.specs.State.{Bytes, zeros, give, leave, with_places}
use Rattle.table.specs.Entries.{enter}
use Rattle.table.specs.Passwords.{sealed}
use Rattle.rules.specs.World.{World, over, Own, own, shut_for, key1}
use Rattle.rules.specs.Refusals.{first_of}
use Rattle.rules.specs.Commands.{UserCommand, LAU, Command, by, EIK, IPW, RPW, logout, refusals, Effect}
use Rattle.rules.specs.Commands.{refused, gives, keeps, leaves, enters, writes, effect, tests, key_entered, password_entered, passwords_moved}

-- ---- what a user's command comes to: refused by the first that holds; none: the effect

abbrev pub ruled : ℕ → Effect → Effect
ruled n e = cond (eqb n 0) e (refused n)

unfoldable pub rule : ℕ → UserCommand → Bytes → Bool → Own → Effect
rule u c out shut o = ruled (first_of (refusals u c (length out) shut o)) (effect u c o)

-- ---- the world after u's command

abbrev pub carry : ℕ → Effect → World → World
carry u (refused n) w = w
carry u (gives n b) w = w
carry u (keeps h) w = over (with_places w.facility (give u h w.facility.places)) w.table
carry u leaves w = over (with_places w.facility (leave u w.facility.places)) w.table
carry u (enters password) w = over w.facility (enter u (sealed (key1 w) u password) w.table)
carry u (writes b h) w = over (with_places w.facility (give u h w.facility.places)) w.table

-- ---- what the issuer gets: the answer, its eight bytes, and the output as it then is

-- done; done, with so many of the eight bytes given; done, with so many bytes written to the output; or refused, with its number
pub data Answer : Type 0 where
  Done : Answer
  Gave : ℕ → Answer
  Wrote : ℕ → Answer
  Refused : ℕ → Answer

pub record Told : Type 0 where
  pub answer : Answer
  pub block : Bytes
  pub output : Bytes

abbrev pub plain : Answer → Bytes → Told
plain a out = record { answer = a; block = zeros; output = out }

abbrev pub told : Effect → Bytes → Told
told (refused n) out = plain (Refused n) out
told (gives n b) out = record { answer = Gave n; block = b; output = out }
told (keeps h) out = plain Done out
told leaves out = plain Done out
told (enters password) out = plain Done out
told (writes b h) out = plain (Wrote (length b)) (onto b out)

-- the page's number of an answer
abbrev pub number_of : Answer → ℕ
number_of Done = 0
number_of (Gave n) = 0
number_of (Wrote n) = 0
number_of (Refused n) = n

-- ---- one step

pub record Result : Type 0 where
  pub answered : Told
  pub world : World

abbrev pub result : Told → World → Result
result a w = record { answered = a; world = w }

-- a user's command
abbrev pub rule_in : World → ℕ → UserCommand → Bytes → Effect
rule_in w u c out = rule u c out (shut_for u w) (own u w)

abbrev pub step_by : World → ℕ → UserCommand → Bytes → Result
step_by w u c out = result (told (rule_in w u c out) out) (carry u (rule_in w u c out) w)

-- an officer's: refused by that number, where it is not 0, with all as it was
abbrev pub settled : ℕ → World → Bytes → World → Result
settled n w out w' = cond (eqb n 0) (result (plain Done out) w') (result (plain (Refused n) out) w)

-- what a command comes to where nothing refuses it
abbrev pub effected_by : World → ℕ → UserCommand → Bytes → Result
effected_by w u c out = result (told (effect u c (own u w)) out) (carry u (effect u c (own u w)) w)

unfoldable pub effected : World → Command → Bytes → Result
effected w (by u c) out = effected_by w u c out
effected w (EIK i k) out = result (plain Done out) (key_entered i k w)
effected w (IPW u p) out = result (plain Done out) (password_entered u p w)
effected w RPW out = result (plain Done out) (passwords_moved w)
effected w (logout u) out = effected_by w u LAU out

unfoldable pub step : World → Command → Bytes → Result
step w (by u c) out = step_by w u c out
step w (EIK i k) out = settled (first_of (tests (EIK i k) w out)) w out (key_entered i k w)
step w (IPW u p) out = settled (first_of (tests (IPW u p) w out)) w out (password_entered u p w)
step w RPW out = settled (first_of (tests RPW w out)) w out (passwords_moved w)
step w (logout u) out = step_by w u LAU out
