use Rattle.std.proofs.Common.{◌≡◌, drop}
use Rattle.names.specs.Names.{start_in, desk_start, start_of}
use Rattle.names.proofs.Table.{rows_of}
use Rattle.names.proofs.first_word.start_of.Given as goal

abbrev pub invariant-loop-tag : goal.invariant-loop-tag
invariant-loop-tag l = start_in l.word (rows_of (drop l.tag-index l.tag-items)) (desk_start l.word) ≡ start_of l.word
