use Rattle.names.proofs.Table.{name_passed}
use Rattle.names.proofs.by_tag.name_of.Goals as goal

pub loop-known-preserved : goal.loop-known-preserved
loop-known-preserved c = name_passed _ _ _ _ _ _ c.loop-known.invariant c.if-known-tag.false c.loop-known-test.true
