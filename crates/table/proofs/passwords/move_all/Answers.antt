use Rattle.std.proofs.Common.{rules, sym, ap, ◌∙◌, ◌≡◌, ◌≤◌, ◌+◌, ◌*◌, length}
use Rattle.table.specs.Passwords.{moved, moved_entry}
use Rattle.table.proofs.Laws.{move_stored, move_end}
use Rattle.table.proofs.passwords.move_all.Goals as goal

pub loop-k-preserved : goal.loop-k-preserved
loop-k-preserved c =
    let l : c.loop-k.k * 12 + 12 ≤ length c.loop-k.t = search rules in
    let e : length c.moved_entry-entry.result ≡ 12 = search rules in
    move_stored c.args.old.0 c.args.current.0 c.loop-k.t _ _ c.loop-k-test.true l _ _ e
    (c.moved_entry-entry.ensures ∙ ap (moved_entry c.args.old.0 c.args.current.0) c.entry_at.ensures) c.put_at.ensures
    ∙ c.loop-k.invariant

pub returns : goal.returns
unfolding moved
returns c = sym (move_end _ _ c.loop-k.t _ _ c.loop-k-test.false) ∙ c.loop-k.invariant
