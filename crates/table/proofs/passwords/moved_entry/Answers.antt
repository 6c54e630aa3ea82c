use Rattle.std.proofs.Common.{rules, ◌≡◌, true, false}
use Rattle.table.specs.Entries.{id_of}
use Rattle.table.specs.Passwords.{big}
use Rattle.table.proofs.Laws.{entry_stays, entry_moves}
use Rattle.table.proofs.passwords.moved_entry.Goals as goal

pub returns-then-is_big : goal.returns-then-is_big
returns-then-is_big c =
    let e : big (id_of c.args.entry) ≡ true = search rules in
    entry_stays c.args.old.0 c.args.current.0 c.args.entry (search rules) e

pub returns : goal.returns
returns c =
    let e : big (id_of c.args.entry) ≡ false = search rules in
    entry_moves c.args.old.0 c.args.current.0 c.args.entry (search rules)
    _ c.seal_password.result e (search rules) c.put_at.ensures
