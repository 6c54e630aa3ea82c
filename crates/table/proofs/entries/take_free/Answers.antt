use Rattle.std.proofs.Common.{rules, ◌≡◌, length}
use Rattle.table.proofs.Positions.{enrol_some, enrol_none}
use Rattle.table.proofs.entries.take_free.Goals as goal

pub returns-in-Some : goal.returns-in-Some
returns-in-Some c =
    let e : length c.entry_for.result ≡ 12 = search rules in
    enrol_some _ _ _ _ c.index_of.ensures.found _ c.in-Some.is _ _ e c.entry_for.ensures c.put_at.ensures

pub returns-in_default : goal.returns-in_default
returns-in_default c = enrol_none c.args.user c.args.b _ _ c.index_of.ensures.found c.in_default.is
