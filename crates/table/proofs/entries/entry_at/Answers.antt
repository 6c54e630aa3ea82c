use Rattle.std.proofs.Common.{rules, []}
use Rattle.table.proofs.Positions.{entry_is_at}
use Rattle.table.proofs.entries.entry_at.Goals as goal

pub returns : goal.returns
returns c = let e = entry_is_at c.args.t.now c.args.k [] c.requires in search rules
