use Rattle.engine.proofs.Loops.{eight}
use Rattle.std.proofs.Common.{rules}
use Rattle.engine.proofs.rounds.substitute.Goals as goal

pub returns : goal.returns
returns c = (
  eight _
      c.select.ensures.0 c.select-2.ensures.0 c.select-3.ensures.0 c.select-4.ensures.0
      c.select-5.ensures.0 c.select-6.ensures.0 c.select-7.ensures.0 c.select-8.ensures.0,
  search rules,
)
