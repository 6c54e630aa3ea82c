use Rattle.state.specs.State.{rekeyed}
use Rattle.state.proofs.interchanges.change_key.Goals as goal

pub returns-then-is_name : goal.returns-then-is_name
unfolding rekeyed
returns-then-is_name c = simp (← c.is_name.ensures, c.if-is_name.true, c.index_of-i.ensures.0, c.of.ensures)

pub returns-else-is_name : goal.returns-else-is_name
unfolding rekeyed
returns-else-is_name c = simp (← c.is_name.ensures, c.if-is_name.false)
