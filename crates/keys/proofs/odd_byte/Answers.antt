use Rattle.std.proofs.Common.{◌∙◌, ap, ◌+◌, ◌*◌, ℕ}
use Rattle.keys.proofs.Laws.{odd_is}
use Rattle.keys.proofs.odd_byte.Goals as goal

pub returns : goal.returns
returns c = ap (λ (n : ℕ). c.args.bits * 2 + n) c.from.ensures ∙ odd_is c.args.bits c.requires
