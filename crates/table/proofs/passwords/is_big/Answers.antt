use Rattle.std.proofs.Common.{refl}
use Rattle.table.specs.Passwords.{big}
use Rattle.table.proofs.passwords.is_big.Goals as goal

pub returns : goal.returns
unfolding big
returns c = refl
