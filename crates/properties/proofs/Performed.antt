-- The operation that carries out any decoded command: its outcome is determined, and 16 is given to the tags that are no command's, and to no other.
use Rattle.std.specs.Prelude.{◌≡◌, refl}
use Rattle.std.proofs.Common.{sym, ◌∙◌}
use Rattle.std.proofs.Math.Path.{ap}
use Rattle.std.specs.Prelude.{Option, None, Some, Result}
use Rattle.stream.specs.declared.Request.{Request}
use Rattle.state.specs.State.{Bytes}
use Rattle.rules.specs.declared.Refusal.{Refusal}
use Rattle.rules.specs.declared.Outcome.{Outcome}
use Rattle.rules.specs.World.{World}
use Rattle.rules.specs.Commands.{Command}
use Rattle.rules.specs.Step.{number_of}
use Rattle.rules.specs.Outcomes.{left}
use Rattle.facility.specs.Requests.{command_of, carried_out, performed}
use Rattle.properties.proofs.Determined.{same}
use Rattle.properties.proofs.Demand1.{never_16}

-- any two outcomes that its contract allows are identical
pub determined_perform : (w : World) (q : Request) (d out : Bytes) (r r' : Result Outcome Refusal) (t t' o o' : Bytes)
    → left w.facility r t o ≡ performed w q d out → left w.facility r' t' o' ≡ performed w q d out → (r ≡ r') × (t ≡ t') × (o ≡ o')
determined_perform w q d out r r' t t' o o' p p' = same w.facility r r' t t' o o' (p ∙ sym p')

-- ---- 16

-- a command is never answered by it
by_command : (w : World) (c : Option Command) (out : Bytes) → number_of (carried_out w c out).answered.answer ≡ 16 → c ≡ None
by_command w None out e = refl
by_command w (Some c) out e = absurd (never_16 w c out e)

module _ (w : World) (q : Request) (d out : Bytes) where
  pub sixteen : command_of q d ≡ None → number_of (performed w q d out).answered.answer ≡ 16
  unfolding performed
  sixteen e = ap (λ (c : Option Command). number_of (carried_out w c out).answered.answer) e

  pub only_then : number_of (performed w q d out).answered.answer ≡ 16 → command_of q d ≡ None
  unfolding performed
  only_then e = by_command w (command_of q d) out e
