use Rattle.std.proofs.Common.{rules}
use Rattle.state.proofs.Located.{named_in}
use Rattle.state.proofs.interchanges.index_of.Goals as goal

pub overflow_sub-name : goal.overflow_sub-name
overflow_sub-name c = (named_in c.args.name c.requires).0

pub returns : goal.returns
returns c = let l = named_in c.args.name c.requires in search rules
