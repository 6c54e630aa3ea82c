-- A user's command that is not refused: its conditions all fail, and its step is its effect.
use Rattle.std.specs.Prelude.{◌≡◌, length}
use Prim.Native.Nat.{ℕ}
use Rattle.state.specs.State.{Bytes}
use Rattle.rules.specs.World.{World, own, shut_for}
use Rattle.rules.specs.Refusals.{first_of}
use Rattle.rules.specs.Commands.{UserCommand, Command, by, refusals}
use Rattle.rules.specs.Step.{number_of, step}

-- the command's own list, in the world w
abbrev pub list_of : World → ℕ → UserCommand → Bytes → ℕ
list_of w u c out = first_of (refusals u c (length out) (shut_for u w) (own u w))

-- a command was done: its reply is 0
abbrev pub Performed : World → Command → Bytes → Type 0
Performed w c out = number_of (step w c out).answered.answer ≡ 0

-- a user's command was done
abbrev pub Accepted : World → ℕ → UserCommand → Bytes → Type 0
Accepted w u c out = Performed w (by u c) out
