use Rattle.std.proofs.Common.{rules}
use Rattle.table.specs.Entries.{fits}
use Rattle.table.proofs.entries.is_fit.Goals as goal

pub returns-then-length-eq0 : goal.returns-then-length-eq0
unfolding fits
returns-then-length-eq0 c = search rules

pub returns-else-length-eq0 : goal.returns-else-length-eq0
unfolding fits
returns-else-length-eq0 c = search rules
