-- What the desk says of a line that is not for the facility, and whether the line ends it.
use Rattle.std.specs.Prelude.{◌≡◌, refl, ◌⊎◌, Bool, true, false, cond, List, [], ℕ}
use Rattle.std.proofs.Common.{inl, inr}
use Rattle.state.specs.declared.Place.{Place}
use Rattle.talk.specs.Help.{help}
use Rattle.talk.specs.Who.{who}
use Rattle.reader.specs.Line.{Line}
use Rattle.names.specs.declared.Says.{Says}
use Rattle.names.specs.declared.Says.TheVariants.{Nothing, Command, Raw, Help, Who, Quit}
use Rattle.clerk.specs.Spoken.{bytes_for, spoken}
use Rattle.clerk.specs.Wrong.{wrong_text}

-- a command and raw bytes are answered by the facility
abbrev pub told_for : Says → List Place → List ℕ
told_for Nothing ps = []
told_for Command ps = []
told_for Raw ps = []
told_for Help ps = help
told_for Who ps = who ps
told_for Quit ps = []

-- "A bad line is answered with the one line of "What is wrong with a line""
unfoldable pub told : ℕ → Line → List Place → List ℕ
told number said ps = cond said.fits (told_for said.says ps) (wrong_text number said.at said.expected)

-- the desk itself says nothing, or there is nothing to carry out; so it is all one which of the two is done first
pub one_of_them : (number : ℕ) (said : Line) (ps : List Place) (l kept : List ℕ) → (told number said ps ≡ []) ⊎ (spoken said l kept ≡ [])
unfolding told spoken
one_of_them number said ps l kept = by said.fits said.says
  where
    by : (fits : Bool) (says : Says) → (cond fits (told_for says ps) (wrong_text number said.at said.expected) ≡ []) ⊎ (cond fits (bytes_for says said l kept) [] ≡ [])
    by true Nothing = inl refl
    by true Command = inl refl
    by true Raw = inl refl
    by true Help = inr refl
    by true Who = inr refl
    by true Quit = inl refl
    by false says = inr refl

abbrev pub quits : Says → Bool
quits Nothing = false
quits Command = false
quits Raw = false
quits Help = false
quits Who = false
quits Quit = true

unfoldable pub is_quit : Line → Bool
is_quit said = cond said.fits (quits said.says) false
