-- Words as FIPS PUB 46 writes them: a block, a key or a part of one is a number, and its bits are numbered from 1, leftmost first.
use Rattle.std.specs.Prelude.{List, map, ℕ, ◌-◌, ◌/◌, ◌%◌, ◌^◌}
use Rattle.ground.specs.Rows.{row, digits}

-- bit n of x, a word of w bits
abbrev pub bit : ℕ → ℕ → ℕ → ℕ
bit w x n = x / 2 ^ (w - n) % 2

-- the word made of the bits of x, a word of w bits, that the table names, in the table's order
abbrev pub permuted : ℕ → List ℕ → ℕ → ℕ
permuted w table x = row 2 0 (map (bit w x) table)

-- bytes as a word, the first at the left
abbrev pub word : List ℕ → ℕ
word bs = row 256 0 bs

-- a word as eight bytes
abbrev pub bytes : ℕ → List ℕ
bytes x = digits 256 8 x
