use Rattle.std.proofs.Common.{rules}
use Rattle.table.proofs.Positions.{id_is}
use Rattle.table.proofs.entries.id_of.Goals as goal

pub returns : goal.returns
returns c = let e = id_is c.args.entry (search rules) in search rules
