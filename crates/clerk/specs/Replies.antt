-- "A command, or each command in raw bytes, is answered with NOTARY's own line, ordinals going on from line to line, and a line of words".
use Rattle.std.specs.Prelude.{List, ◌++◌, ℕ}
use Rattle.rules.specs.Step.{number_of}
use Rattle.session.specs.Run.{Answered, line_of}
use Rattle.talk.specs.Replies.{words_of}

unfoldable pub reply : ℕ → Answered → List ℕ
reply ordinal a = line_of ordinal a ++ words_of a.tag (number_of a.told.answer)
