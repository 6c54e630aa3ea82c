use Rattle.std.proofs.Common.{length, ap, ◌∙◌}
use Rattle.printout.specs.declared.page.Page.{Page}
use Rattle.counter.proofs.Pieces.{inked_room}
use Rattle.counter.proofs.service.Sitting.serve_line.Goals as goal

pub returns-clause-room : goal.returns-clause-room
returns-clause-room c =
    (ap (λ (p : Page). length p.letters.now) c.put_spoken.ensures ∙ inked_room _ _, c.carry_out.ensures.room)
