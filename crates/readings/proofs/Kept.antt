-- Laws of a command's answer by the mark of its value, as they were before the reader gave an Option: Cut and Shown are proved by the reading itself today.
use Rattle.std.specs.Prelude.{◌≡◌, Bool, true, false, cond, ℕ, ◌≤◌, length, drop, Option, Some, None}
use Rattle.std.proofs.Common.{refl, sym, ap, ◌∙◌, arith}
use Rattle.stream.specs.declared.Reading.{Reading}
use Rattle.stream.specs.Fields.{Bytes}
use Rattle.stream.specs.Commands.{decoded}
use Rattle.stream.proofs.Kept.{Tried, begun_before, decoded_before, tried, as_before, unfit_none}
use Rattle.rules.specs.World.{World}
use Rattle.rules.specs.Commands.{Command}
use Rattle.rules.specs.Step.{Refused, Result, result, plain, number_of, step}
use Rattle.facility.specs.Requests.{command_of, carried_out, performed}
use Rattle.session.specs.Run.{obeyed, answer_to}
use Rattle.readings.specs.Shown.{shown_in}

-- what a value says is carried out, where it fits
abbrev pub obeyed_before : World → Tried → Bytes → Bytes → Result
obeyed_before w r v out = cond r.fits (performed w r.asked (drop r.text v) out) (result (plain (Refused 16) out) w)

-- it is what is carried out today
pub answer_before : (w : World) (t : ℕ) (v out : Bytes) → answer_to w t v out ≡ obeyed_before w (decoded_before t v) v out
unfolding answer_to begun_before
answer_before w t v out =
    by_reading (decoded t v) ∙ ap (λ (r : Tried). obeyed_before w r v out) (sym (as_before t v))
  where
    by_reading : (o : Option Reading) → obeyed w o v out ≡ obeyed_before w (tried t o) v out
    by_reading None = refl
    by_reading (Some r) = refl

-- what stands whole is answered as a command is, or by 16
module _ (P : ℕ → Type 0) (form : P 16)
    (command : (w : World) (c : Command) (out : Bytes) → P (number_of (step w c out).answered.answer))
    (w : World) (t : ℕ) (v out : Bytes) where
  by_command : (o : Option Command) → P (number_of (carried_out w o out).answered.answer)
  by_command None = form
  by_command (Some c) = command w c out

  pub by_fit : (b : Bool)
      → P (number_of (cond b
      (performed w (decoded_before t v).asked (drop (decoded_before t v).text v) out)
      (result (plain (Refused 16) out) w)).answered.answer)
  unfolding performed
  by_fit true = by_command (command_of (decoded_before t v).asked (drop (decoded_before t v).text v))
  by_fit false = form

-- a value that says nothing shows no bytes
module _ (w : World) (t : ℕ) (v out : Bytes) where
  pub unspelt : decoded t v ≡ None → length (shown_in (answer_to w t v out).answered) ≤ length v
  unfolding answer_to
  unspelt h = rw h (omega arith)

  pub unspelt_before : (decoded_before t v).fits ≡ false → length (shown_in (answer_to w t v out).answered) ≤ length v
  unspelt_before h = unspelt (unfit_none t v h)
