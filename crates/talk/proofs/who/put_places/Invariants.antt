use Rattle.std.proofs.Common.{◌≡◌, take}
use Rattle.printout.specs.Inked.{inked}
use Rattle.talk.specs.Who.{place_lines}
use Rattle.talk.proofs.who.put_places.Given as goal

abbrev pub invariant-loop-p : goal.invariant-loop-p
invariant-loop-p l = l.page ≡ inked (place_lines (take l.p-index l.fn.places)) l.initial.page
