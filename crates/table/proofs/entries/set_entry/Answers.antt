use Rattle.std.proofs.Common.{rules, ◌≡◌, length}
use Rattle.table.proofs.Positions.{enter_some, enter_none}
use Rattle.table.proofs.entries.set_entry.Goals as goal

pub returns-in-Some : goal.returns-in-Some
returns-in-Some c =
    let e : length c.args.b ≡ 8 = search rules in
    enter_some _ _ _ _ c.index_of.ensures.found _ c.in-Some.is _ e c.put_at.ensures

pub returns-in_default : goal.returns-in_default
returns-in_default c = enter_none _ c.args.b _ _ c.index_of.ensures.found c.in_default.is
