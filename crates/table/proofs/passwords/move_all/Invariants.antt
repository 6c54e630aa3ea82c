use Rattle.std.proofs.Common.{◌≡◌, ◌++◌, ◌*◌, ◌-◌, take, drop}
use Rattle.table.specs.Passwords.{moved_in}
use Rattle.table.proofs.passwords.move_all.Given as goal

abbrev pub invariant-loop-k : goal.invariant-loop-k
invariant-loop-k l =
    take (l.k * 12) l.t ++ moved_in (l.k-end - l.k) l.old.0 l.current.0 (drop (l.k * 12) l.t)
    ≡ moved_in l.k-end l.old.0 l.current.0 l.initial.t
