use Rattle.std.proofs.Common.{◌≡◌, take}
use Rattle.printout.specs.Page.{page, entered}
use Rattle.printout.proofs.page.put_all_at.Given as goal

abbrev pub invariant-loop-x : goal.invariant-loop-x
invariant-loop-x l = page l.letters l.to ≡ entered (take l.x-index l.text) (page l.initial.letters l.at)
