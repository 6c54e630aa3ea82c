use Rattle.std.proofs.Common.{◌≡◌, length, drop, option_and_then}
use Rattle.stream.specs.Commands.{read_all, ended, decoded}
use Rattle.stream.proofs.commands.decode.Given as goal

-- the rest of the arguments read, and the end, give what the definition gives
abbrev pub invariant-loop-wanted : goal.invariant-loop-wanted
invariant-loop-wanted l =
    option_and_then (ended (length l.value)) (read_all l.value l.r (drop l.wanted-index l.arguments))
    ≡ decoded l.tag l.value
