use Rattle.state.specs.State.{key_at}
use Rattle.state.proofs.interchanges.key_at.Goals as goal

pub returns-then-is_name : goal.returns-then-is_name
unfolding key_at
returns-then-is_name c = simp (← c.is_name.ensures, c.if-is_name.true, c.index_of.ensures.0)

pub returns-else-is_name : goal.returns-else-is_name
unfolding key_at
returns-else-is_name c = simp (← c.is_name.ensures, c.if-is_name.false)
