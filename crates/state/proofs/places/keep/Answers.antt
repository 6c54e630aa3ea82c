use Rattle.std.proofs.Common.{rules}
use Rattle.state.proofs.Positions.{give_is}
use Rattle.state.proofs.places.keep.Goals as goal

pub returns-in-Some : goal.returns-in-Some
returns-in-Some c = let e = give_is c.args.user c.args.holdings c.args.f.places in search rules

pub returns-in_default : goal.returns-in_default
returns-in_default c = let e = give_is c.args.user c.args.holdings c.args.f.places in search rules
