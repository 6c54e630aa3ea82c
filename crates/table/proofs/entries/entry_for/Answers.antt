use Rattle.std.proofs.Common.{rules, refl, ◌∙◌, ap, ◌++◌, List, ℕ}
use Rattle.table.proofs.Positions.{entry_made}
use Rattle.table.proofs.entries.entry_for.Goals as goal

pub returns : goal.returns
returns c =
    entry_made _ c.id_bytes.result c.args.b _ _ refl (search rules) (search rules) c.put_at.ensures c.put_at-2.ensures
    ∙ ap (λ (id : List ℕ). id ++ c.args.b) c.id_bytes.ensures
