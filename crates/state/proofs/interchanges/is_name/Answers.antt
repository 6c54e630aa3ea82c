use Rattle.std.proofs.Common.{rules}
use Rattle.state.specs.State.{named}
use Rattle.state.proofs.interchanges.is_name.Goals as goal

pub returns-then-name-ge1 : goal.returns-then-name-ge1
unfolding named
returns-then-name-ge1 c = search rules

pub returns-else-name-ge1 : goal.returns-else-name-ge1
unfolding named
returns-else-name-ge1 c = search rules
