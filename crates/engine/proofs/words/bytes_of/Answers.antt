use Rattle.std.proofs.Common.{◌∙◌}
use Rattle.engine.proofs.Bytes.{bytes_are}
use Rattle.engine.proofs.words.bytes_of.Goals as goal

pub returns : goal.returns
returns c = c.to_be_bytes.ensures ∙ bytes_are c.args.x
