use Rattle.std.proofs.Common.{◌≡◌, drop, Ok}
use Rattle.reader.specs.Command.{read_words, ended_line, command_line}
use Rattle.reader.specs.Results.{line_as}
use Rattle.reader.proofs.command.command_line.Given as goal

abbrev pub invariant-loop-field : goal.invariant-loop-field
invariant-loop-field l =
    ended_line l.line (read_words l.line l.answers.kept.now l.answers.ends.now (line_as (Ok l.r)) (drop l.field-index l.field-items))
    ≡ command_line l.fn.tag l.line l.answers.kept.now l.answers.ends.now l.fn.at
