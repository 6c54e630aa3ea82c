use Rattle.std.proofs.Common.{length, ap, ◌∙◌}
use Rattle.printout.specs.declared.page.Page.{Page}
use Rattle.counter.proofs.Pieces.{inked_room}
use Rattle.counter.proofs.service.Sitting.next_command.Goals as goal

pub returns-in-Whole-clause-room : goal.returns-in-Whole-clause-room
returns-in-Whole-clause-room c = ap (λ (p : Page). length p.letters.now) c.serve-self.ensures.paper ∙ inked_room _ _

pub returns-in-Cut-clause-room : goal.returns-in-Cut-clause-room
returns-in-Cut-clause-room c = ap (λ (p : Page). length p.letters.now) c.give.ensures.paper ∙ inked_room _ _
