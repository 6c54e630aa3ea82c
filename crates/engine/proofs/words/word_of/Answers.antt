use Rattle.std.proofs.Common.{◌∙◌, rules}
use Rattle.engine.proofs.Bytes.{word_is}
use Rattle.engine.proofs.words.word_of.Goals as goal

pub returns : goal.returns
returns c = c.from_be_bytes.ensures ∙ word_is c.args.b (search rules)
