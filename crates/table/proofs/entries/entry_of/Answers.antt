use Rattle.std.proofs.Common.{rules}
use Rattle.table.proofs.Positions.{entry_is}
use Rattle.table.proofs.entries.entry_of.Goals as goal

pub returns-in_err-k : goal.returns-in_err-k
returns-in_err-k c = rw (entry_is c.args.user c.args.t.now) (search rules)

pub returns : goal.returns
returns c = rw (entry_is c.args.user c.args.t.now) (search rules)
