use Rattle.std.proofs.Common.{◌≡◌, length, rules}
use Rattle.keys.proofs.Laws.{notarized_is}
use Rattle.keys.proofs.notarize.Goals as goal

pub returns : goal.returns
returns c =
    let l : length c.args.key.0 ≡ 8 = search rules in
    let e = notarized_is c.args.key.0 c.args.sender c.args.receiver l in
    cc
