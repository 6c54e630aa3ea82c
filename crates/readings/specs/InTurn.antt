-- A stream written without positions: commands, one after the other, are answered one after the other; also after one of bad form reading goes on.
use Rattle.std.specs.Prelude.{List, [], ◌∷◌, ◌++◌, ℕ, ◌<◌, length}
use Rattle.stream.specs.Fields.{Bytes, field}
use Rattle.rules.specs.World.{World}
use Rattle.session.specs.Run.{answer_to, answered, Ran, ran, after}

-- a tag and its value
pub record Sent : Type 0 where
  pub tag : ℕ
  pub value : Bytes

-- their bytes
unfoldable pub sent : List Sent → Bytes
sent [] = []
sent (c ∷ cs) = field c.tag c.value ++ sent cs

-- each value as long as two bytes can say
abbrev pub Short : List Sent → Type 0
Short [] = Unit {0}
Short (c ∷ cs) = (length c.value < 65536) × Short cs

-- each answered in the world that the one before it left, and then what comes behind them
unfoldable pub in_turn : List Sent → (World → Bytes → Ran) → World → Bytes → Ran
in_turn [] last w out = last w out
in_turn (c ∷ cs) last w out =
    after (answered c.tag (answer_to w c.tag c.value out).answered)
    (in_turn cs last (answer_to w c.tag c.value out).world (answer_to w c.tag c.value out).answered.output)

-- ---- a stream in two parts, as a desk carries out one line after the other

-- what one part leaves and answers, and then what the next does in the world that it left
unfoldable pub next : Ran → (World → Bytes → Ran) → Ran
next r more =
    let q = more r.world r.output in
    ran q.world q.output (r.answers ++ q.answers)
