-- The forms of the commands' contracts: what the code returned, with the table and the output as it left them, is one step.
use Rattle.std.specs.Prelude.{◌≡◌, ℕ, Result, Ok, Err}
use Rattle.state.specs.declared.Facility.{Facility}
use Rattle.state.specs.State.{Bytes, zeros}
use Rattle.rules.specs.declared.Refusal.{Refusal}
use Rattle.rules.specs.declared.Refusal.TheVariants.{DataLength, OutputLength}
use Rattle.cipher.specs.declared.modes.Misfit.{Misfit}
use Rattle.cipher.specs.declared.modes.Misfit.TheVariants.{BadLength, NoRoom}
use Rattle.rules.specs.declared.Reply.{Reply}
use Rattle.rules.specs.declared.Reply.TheVariants.{Plain, Block, Output}
use Rattle.rules.specs.declared.Outcome.{Outcome}
use Rattle.rules.specs.World.{over}
use Rattle.rules.specs.Refusals.{number}
use Rattle.rules.specs.Commands.{Command}
use Rattle.rules.specs.Step.{Answer, Gave, Wrote, Refused, Done, result, step}
use Rattle.rules.specs.Step.{Result as Stepped}

-- ---- what the code returned: the answer, its eight bytes, and the facility. A refusal is its number, and the facility stays

abbrev pub replied : Reply → Answer
replied Plain = Done
replied (Block b) = Gave 8
replied (Output n) = Wrote n

abbrev pub given : Reply → Bytes
given Plain = zeros
given (Block b) = b
given (Output n) = zeros

abbrev pub answer_of : Result Outcome Refusal → Answer
answer_of (Ok o) = replied o.reply
answer_of (Err e) = Refused (number e)

abbrev pub block_of : Result Outcome Refusal → Bytes
block_of (Ok o) = given o.reply
block_of (Err e) = zeros

abbrev pub state_of : Facility → Result Outcome Refusal → Facility
state_of f (Ok o) = o.state
state_of f (Err e) = f

-- the same with the table and the output as the command left them
abbrev pub left : Facility → Result Outcome Refusal → Bytes → Bytes → Stepped
left f r t out = result (record { answer = answer_of r; block = block_of r; output = out }) (over (state_of f r) t)

-- a command that is lent no buffer: whatever table and output there are, they stay
abbrev pub Steps : Facility → Command → Result Outcome Refusal → Type 0
Steps f c r = (t out : Bytes) → left f r t out ≡ step (over f t) c out

-- one that is lent the table, and leaves it as t'
abbrev pub StepsTable : Facility → Bytes → Command → Result Outcome Refusal → Bytes → Type 0
StepsTable f t c r t' = (out : Bytes) → left f r t' out ≡ step (over f t) c out

-- one that is lent the output, and leaves it as out'
abbrev pub StepsOutput : Facility → Bytes → Command → Result Outcome Refusal → Bytes → Type 0
StepsOutput f out c r out' = (t : Bytes) → left f r t out' ≡ step (over f t) c out

-- ---- what a mode or a fixity value cannot take

unfoldable pub refusal_of : Misfit → Refusal
refusal_of BadLength = DataLength
refusal_of NoRoom = OutputLength

-- ---- what is done

abbrev pub done_of : Facility → Outcome
done_of f = record { state = f; reply = Plain }

abbrev pub gave_of : Facility → Bytes → Outcome
gave_of f b = record { state = f; reply = Block b }

abbrev pub wrote_of : Facility → ℕ → Outcome
wrote_of f n = record { state = f; reply = Output n }
