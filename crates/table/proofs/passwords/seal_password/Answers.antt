use Rattle.std.proofs.Common.{rules}
use Rattle.table.specs.Passwords.{sealed}
use Rattle.table.proofs.passwords.seal_password.Goals as goal

pub returns : goal.returns
unfolding sealed
returns c = search rules
