use Rattle.std.proofs.Common.{◌≡◌, take}
use Rattle.printout.specs.Page.{page, entered}
use Rattle.printout.specs.Digits.{hex}
use Rattle.printout.proofs.digits.put_hex_at.Given as goal

abbrev pub invariant-loop-b : goal.invariant-loop-b
invariant-loop-b l = page l.letters l.to ≡ entered (hex (take l.b-index l.bytes)) (page l.initial.letters l.at)
