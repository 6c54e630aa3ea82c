-- FIPS PUB 81, the modes of operation, over any cipher g on words of 64 bits; and FIPS PUB 113, the fixity value.
use Rattle.std.specs.Prelude.{List, [], ◌∷◌, ◌++◌, reverse, ℕ, zero, suc, ◌+◌, ◌-◌, ◌*◌, ◌/◌, ◌%◌, ◌^◌, length, take, drop, replicate}
use Rattle.std.specs.Int.Bits.{bit_xor}
use Rattle.engine.specs.Bits.{word, bytes}
use Rattle.engine.specs.Fips46.{KS}
use Rattle.fips81.specs.declared.Turn.{Turn}

-- ---- what a mode makes of one unit of text x, where the vector is v: the unit that it gives, and the vector that it leaves

-- electronic codebook
unfoldable pub codebook : (ℕ → ℕ) → ℕ → ℕ → Turn
codebook g v x = record { gives = g x; leaves = v }

-- cipher block chaining: the cipher block is the vector of the next
unfoldable pub chain : (ℕ → ℕ) → ℕ → ℕ → Turn
chain g v x = record { gives = g (bit_xor x v); leaves = g (bit_xor x v) }

unfoldable pub unchain : (ℕ → ℕ) → ℕ → ℕ → Turn
unchain g v x = record { gives = bit_xor (g x) v; leaves = x }

-- cipher feedback of w bits: the w leftmost bits of the output block
unfoldable pub pad : ℕ → (ℕ → ℕ) → ℕ → ℕ
pad w g v = g v / 2 ^ (64 - w)

-- the input block after a unit of cipher text has come in at its right
unfoldable pub fed : ℕ → ℕ → ℕ → ℕ
fed w v c = (v * 2 ^ w + c) % 2 ^ 64

-- the unit of text and those w bits, exclusive-ored, are the unit of cipher text; it is fed back
unfoldable pub feedback : ℕ → (ℕ → ℕ) → ℕ → ℕ → Turn
feedback w g v x = record { gives = bit_xor x (pad w g v); leaves = fed w v (bit_xor x (pad w g v)) }

unfoldable pub unfeedback : ℕ → (ℕ → ℕ) → ℕ → ℕ → Turn
unfeedback w g v x = record { gives = bit_xor x (pad w g v); leaves = fed w v x }

-- ---- a text, unit after unit: what is given, and the vector afterwards

unfoldable pub given : (ℕ → ℕ → Turn) → ℕ → List ℕ → List ℕ
given turn v [] = []
given turn v (x ∷ xs) = (turn v x).gives ∷ given turn (turn v x).leaves xs

unfoldable pub left : (ℕ → ℕ → Turn) → ℕ → List ℕ → ℕ
left turn v [] = v
left turn v (x ∷ xs) = left turn (turn v x).leaves xs

-- ---- the three modes, and the two directions of each

pub data Way : Type 0 where
  ECB CBC CFB : Way

pub data Direction : Type 0 where
  enciphers deciphers : Direction

unfoldable pub turned : Way → Direction → (ℕ → ℕ) → ℕ → ℕ → Turn
turned ECB enciphers g = codebook g
turned ECB deciphers g = codebook g
turned CBC enciphers g = chain g
turned CBC deciphers g = unchain g
turned CFB enciphers g = feedback 64 g
turned CFB deciphers g = unfeedback 64 g

-- the keys in the order of the direction that the mode runs: feedback enciphers both ways
unfoldable pub keys_for : Way → Direction → ℕ → List ℕ
keys_for ECB enciphers key = KS key
keys_for ECB deciphers key = reverse (KS key)
keys_for CBC enciphers key = KS key
keys_for CBC deciphers key = reverse (KS key)
keys_for CFB enciphers key = KS key
keys_for CFB deciphers key = KS key

-- ---- texts of bytes

-- the first n blocks of a text, each as a word
unfoldable pub cut : ℕ → List ℕ → List ℕ
cut zero t = []
cut (suc n) t = word (take 8 t) ∷ cut n (drop 8 t)

-- the whole blocks of a text; a remainder is left out
unfoldable pub blocks : List ℕ → List ℕ
blocks t = cut (length t / 8) t

-- words as bytes
unfoldable pub joined : List ℕ → List ℕ
joined [] = []
joined (x ∷ xs) = bytes x ++ joined xs

-- ---- the fixity value

-- zero bytes on the right, up to a whole number of blocks
unfoldable pub filled : List ℕ → List ℕ
filled t = t ++ replicate ((8 - length t % 8) % 8) 0

unfoldable pub last_block : List ℕ → List ℕ
last_block t = drop (length t - 8) t
