-- Demand 3 holds of any way to carry out what a user asks for that sees and alters his own alone; and so of `step`, the definition that the commands' contracts cite.
use Rattle.rules.specs.Commands.{UserCommand, by}
use Rattle.rules.specs.Step.{told, rule, step}
use Rattle.merging.specs.Demand3.{Step}
use Rattle.merging.specs.OneCommand.{Way}

-- ---- the facility's commands

abbrev pub by_rule : Way UserCommand
by_rule u c out shut o = record { effect = rule u c out shut o; told = told (rule u c out shut o) out }

abbrev pub commanded : Step UserCommand
commanded w u c out = step w (by u c) out
