use Rattle.std.proofs.Common.{rules, tests, ◌≡◌, position}
use Rattle.std.proofs.lemmas.Iterator.{YieldsList-from_slice}
use Rattle.std.proofs.lemmas.Iterator.Search.{position_from_yields_List}
use Rattle.table.specs.Entries.{entries, is_of}
use Rattle.table.proofs.Located.{entered_position}
use Rattle.table.proofs.entries.index_of.Goals as goal

pub returns-clause-entered : goal.returns-clause-entered
returns-clause-entered c =
    let found : c.position.result ≡ position (is_of c.args.user) (entries c.args.t.now) =
    position_from_yields_List (is_of c.args.user) _ _ c.position.result c.position.ensures.ran (YieldsList-from_slice (entries c.args.t.now) (search rules)) (λ x b q k. search (rules, tests)) in
    rw found (entered_position c.args.user c.args.t.now)
