-- A word as bytes, by hex digits or an answer: the reader takes exactly the words of the table.
use Rattle.std.specs.Prelude.{◌≡◌, Bool}
use Rattle.std.proofs.Math.Bool.{true, false}
use mathlib.Core.List.{List}
use Prim.Native.Nat.{ℕ, ◌≤◌}
use Rattle.std.proofs.Math.ListN.{length}
use Rattle.ground.specs.Lists.{padded}
use Rattle.values.specs.Values.{Value}
use Rattle.values.specs.Sources.{meant}
use Rattle.grammar.specs.Means.{Pairs}

-- a block, of eight bytes, or data
abbrev pub bytes_of : (l kept : List ℕ) → Bool → Value → List ℕ
bytes_of l kept true v = padded 8 (meant v.bytes l kept)
bytes_of l kept false v = meant v.bytes l kept

abbrev pub Sized : Bool → ℕ → Type 0
Sized true n = n ≡ 8
Sized false n = n ≤ 65500

-- the word's digits
abbrev pub InHex : Bool → List ℕ → List ℕ → Type 0
InHex true w b = Pairs w b × (length w ≡ 16)
InHex false w b = Pairs w b × (length b ≤ 65500)
