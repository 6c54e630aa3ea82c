-- Blocks and texts of bytes under a key k of eight bytes. `cipher` passes the names on, shut: a layer above can neither open them nor name what is behind them.
use Rattle.std.specs.Prelude.{List, ℕ}
use Rattle.engine.specs.Bits.{word, bytes}
use Rattle.engine.specs.Fips46.{computed, encipher, decipher}
use Rattle.fips81.specs.declared.Turn.{Turn}
use Rattle.fips81.specs.Fips81.{Way, Direction, turned, keys_for, given, left, blocks, joined}

-- ---- a block b of eight bytes

unfoldable pub enciphered : List ℕ → List ℕ → List ℕ
enciphered k b = bytes (encipher (word k) (word b))

unfoldable pub deciphered : List ℕ → List ℕ → List ℕ
deciphered k b = bytes (decipher (word k) (word b))

-- ---- a text t by a mode, from a vector v of eight bytes: the text that comes of it, and the vector afterwards

abbrev pub turn_of : Way → Direction → List ℕ → ℕ → ℕ → Turn
turn_of w d k = turned w d (computed (keys_for w d (word k)))

unfoldable pub text_of : Way → Direction → List ℕ → List ℕ → List ℕ → List ℕ
text_of w d k v t = joined (given (turn_of w d k) (word v) (blocks t))

unfoldable pub vector_of : Way → Direction → List ℕ → List ℕ → List ℕ → List ℕ
vector_of w d k v t = bytes (left (turn_of w d k) (word v) (blocks t))
