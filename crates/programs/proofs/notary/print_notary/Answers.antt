use Rattle.std.proofs.Common.{refl, rules}
use Rattle.programs.specs.Notary.{stream, buffer, start}
use Rattle.programs.proofs.Room.{carried_out_lem}
use Rattle.programs.proofs.notary.print_notary.Goals as goal

pub returns : goal.returns
unfolding stream start buffer
returns c =
    carried_out_lem _ _ _ _ _ _ (λ i. (c.type_inv.input i).fits) (search rules) (rw c.new-page.ensures at c.run.ensures.run)
    c.first_of-stream.ensures (rw c.fresh_facility.ensures) refl
