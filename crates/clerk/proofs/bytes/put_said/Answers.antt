use Rattle.std.proofs.Common.{List, ℕ, ap, ◌∙◌}
use Rattle.printout.specs.Inked.{sheet, inked}
use Rattle.encoder.specs.Encoded.{encoded}
use Rattle.clerk.specs.Spoken.{command_bytes}
use Rattle.clerk.proofs.Pages.{fresh_text}
use Rattle.clerk.proofs.bytes.put_said.Goals as goal

pub returns : goal.returns
unfolding command_bytes
returns c =
    c.put_command.ensures
    ∙ ap (λ (t : List ℕ). inked (encoded c.args.said.asked t) c.args.page.now)
    (c.first_of.ensures ∙ fresh_text 65536 _ _ _ (ap sheet c.new-data.ensures) c.put_meant.ensures)
