use Rattle.std.proofs.Common.{rules, append_assoc}
use Rattle.printout.specs.Inked.{inked_more}
use Rattle.printout.specs.Lines.{line}
use Rattle.printout.proofs.lines.put_line.Goals as goal

pub returns : goal.returns
unfolding line
returns c = search (rules, inked_more, append_assoc)
