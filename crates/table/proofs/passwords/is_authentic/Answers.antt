use Rattle.std.proofs.Common.{rules}
use Rattle.table.proofs.Laws.{authentic_is}
use Rattle.table.proofs.passwords.is_authentic.Goals as goal

pub returns-in-Some : goal.returns-in-Some
returns-in-Some c = rw (← authentic_is c.args.key.0 c.args.user c.args.password _) (search rules)

pub returns-in-None : goal.returns-in-None
returns-in-None c = rw (← authentic_is c.args.key.0 c.args.user c.args.password _) (search rules)
