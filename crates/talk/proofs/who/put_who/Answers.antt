use Rattle.std.proofs.Common.{append_assoc}
use Rattle.printout.specs.Inked.{inked_more}
use Rattle.talk.specs.Who.{who}
use Rattle.talk.proofs.who.put_who.Goals as goal

pub returns : goal.returns
unfolding who
returns c = simp (c.put_places.ensures, c.put_all-2.ensures, c.put_decimal.ensures, c.active_users.ensures, c.put_all.ensures, inked_more, append_assoc)
