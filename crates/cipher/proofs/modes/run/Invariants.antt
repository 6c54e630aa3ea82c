use Rattle.std.proofs.Common.{◌≡◌, ℕ, ◌*◌, List, ◌++◌, map, take, drop}
use Rattle.fips81.specs.declared.Turn.{Turn}
use Rattle.cipher.specs.declared.modes.Mode.{Mode}
use Rattle.cipher.specs.Bits.{word}
use Rattle.engine.specs.Fips46.{computed}
use Rattle.cipher.specs.Cipher.{way_of, direction_of}
use Rattle.fips81.specs.Fips81.{turned, given, left, blocks, joined}
use Rattle.cipher.proofs.modes.run.Given as goal

abbrev turn : Mode → List ℕ → ℕ → ℕ → Turn
turn m ks = turned (way_of m) (direction_of m) (computed ks)

abbrev pub invariant-loop-i : goal.invariant-loop-i
invariant-loop-i l =
    (left (turn l.mode l.keys) l.v (map word (drop l.i l.blocks)) ≡ left (turn l.mode l.keys) l.vector (blocks l.text))
    × (take (8 * l.i) l.out ++ joined (given (turn l.mode l.keys) l.v (map word (drop l.i l.blocks)))
    ≡ joined (given (turn l.mode l.keys) l.vector (blocks l.text)))
    × (drop (8 * l.i) l.out ≡ drop (8 * l.i) l.initial.out)
