use Rattle.std.proofs.Common.{rules}
use Rattle.table.specs.Entries.{enrolled}
use Rattle.table.proofs.entries.enrol.Goals as goal

pub returns-then-has_entry : goal.returns-then-has_entry
unfolding enrolled
returns-then-has_entry c = search rules

pub returns-else-has_entry : goal.returns-else-has_entry
unfolding enrolled
returns-else-has_entry c = search rules
