-- How many answers are the published ones.
use Rattle.std.specs.Prelude.{ℕ, zero, suc, ◌+◌, ◌-◌, ◌*◌, ◌/◌, cond, List, length, slice_index}
use Rattle.std.specs.Str.{bytes_eq}
use Rattle.cipher.specs.Bits.{bytes}
use Rattle.cipher.specs.Cipher.{enciphered, deciphered}
use Rattle.vectors.specs.declared.answers.Tally.{Tally}

-- 1 for an answer that is the published one, else 0
unfoldable pub one : List ℕ → List ℕ → ℕ
one answer published = cond (bytes_eq answer published) 1 0

-- of the first n answers
unfoldable pub right : (answer published : ℕ → List ℕ) → ℕ → ℕ
right answer published zero = 0
right answer published (suc n) = right answer published n + one (answer n) (published n)

-- row i of a table: key, plain block, cipher block
abbrev pub key_at : List ℕ → ℕ → List ℕ
key_at t i = bytes (slice_index t (3 * i))

abbrev pub plain_at : List ℕ → ℕ → List ℕ
plain_at t i = bytes (slice_index t (3 * i + 1))

abbrev pub cipher_at : List ℕ → ℕ → List ℕ
cipher_at t i = bytes (slice_index t (3 * i + 2))

-- of the first n rows: plain blocks that are enciphered right, cipher blocks that are deciphered right
unfoldable pub forwards : List ℕ → ℕ → ℕ
forwards t n = right (λ (i : ℕ). enciphered (key_at t i) (plain_at t i)) (cipher_at t) n

unfoldable pub backwards : List ℕ → ℕ → ℕ
backwards t n = right (λ (i : ℕ). deciphered (key_at t i) (cipher_at t i)) (plain_at t) n

-- n questions each way, of which e and d are answered right
unfoldable pub out_of : ℕ → ℕ → ℕ → Tally
out_of n e d = record { enciphered = e; deciphered = d; wrong = 2 * n - (e + d) }

unfoldable pub tallied : List ℕ → Tally
tallied t = out_of (length t / 3) (forwards t (length t / 3)) (backwards t (length t / 3))
