use Rattle.std.proofs.Common.{◌≡◌, drop}
use Rattle.printout.specs.Text.{letters}
use Rattle.printout.specs.Rows.{beside}
use Rattle.names.specs.Names.{name}
use Rattle.names.proofs.Table.{rows_of}
use Rattle.names.proofs.by_tag.name_of.Given as goal

abbrev pub invariant-loop-known : goal.invariant-loop-known
invariant-loop-known l = beside l.tag (rows_of (drop l.known-index l.known-items)) (letters "unknown tag") ≡ name l.tag
