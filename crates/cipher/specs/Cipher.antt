-- What the contracts of this crate cite. What the cipher computes (`enciphered`, `deciphered`, the text and the vector of a mode) is passed on, shut, from `fips81`,
-- a crate that no layer above lists: a layer above knows it by the laws of `proofs/Promise.antt` alone.
use Rattle.std.specs.Prelude.{◌≡◌, cond, List, ◌++◌, ℕ, ◌%◌, eqb, leb, length, drop, replicate, Result, Ok, Err}
use Rattle.ground.specs.Lists.{Below}
use Rattle.cipher.specs.declared.modes.Mode.{Mode}
use Rattle.cipher.specs.declared.modes.Mode.TheVariants.{Ecbe, Ecbd, Cbce, Cbcd, Cfbe, Cfbd}
use Rattle.cipher.specs.declared.modes.Misfit.{Misfit}
use Rattle.cipher.specs.declared.modes.Misfit.TheVariants.{BadLength, NoRoom}
use Rattle.cipher.specs.declared.keys.Vector.{Vector}
use Rattle.fips81.specs.Fips81.{Direction, enciphers, deciphers}
use Rattle.fips81.specs.Keyed.{text_of, vector_of}
pub use Rattle.fips81.specs.Fips81.{Way, ECB, CBC, CFB}
pub use Rattle.fips81.specs.Keyed.{enciphered, deciphered}
unfoldable pub use Rattle.fips81.specs.Fips81.{filled, last_block}

-- eight bytes; a whole number of blocks of bytes
pub record Octets (b : List ℕ) : Type 0 where
  pub eight : length b ≡ 8
  pub small : Below 256 b

pub record Whole (t : List ℕ) : Type 0 where
  pub blocks : length t % 8 ≡ 0
  pub small : Below 256 t

-- ---- the modes: E enciphers, D deciphers

unfoldable pub way_of : Mode → Way
way_of Ecbe = ECB
way_of Ecbd = ECB
way_of Cbce = CBC
way_of Cbcd = CBC
way_of Cfbe = CFB
way_of Cfbd = CFB

unfoldable pub direction_of : Mode → Direction
direction_of Ecbe = enciphers
direction_of Ecbd = deciphers
direction_of Cbce = enciphers
direction_of Cbcd = deciphers
direction_of Cfbe = enciphers
direction_of Cfbd = deciphers

unfoldable pub enciphering : Way → Mode
enciphering ECB = Ecbe
enciphering CBC = Cbce
enciphering CFB = Cfbe

unfoldable pub deciphering : Way → Mode
deciphering ECB = Ecbd
deciphering CBC = Cbcd
deciphering CFB = Cfbd

-- a text t by a mode under a key k, from a vector v of eight bytes: the text that comes of it, and the vector afterwards
unfoldable pub mode_text : Mode → List ℕ → List ℕ → List ℕ → List ℕ
mode_text m k v t = text_of (way_of m) (direction_of m) k v t

unfoldable pub mode_vector : Mode → List ℕ → List ℕ → List ℕ → List ℕ
mode_vector m k v t = vector_of (way_of m) (direction_of m) k v t

-- CBC enciphering of the plain record from the vector, the short last block filled: the last cipher block
unfoldable pub fixity : List ℕ → List ℕ → List ℕ → List ℕ
fixity k v t = last_block (mode_text Cbce k v (filled t))

-- the vector after a text t that became the text c: the last cipher block, which E gives and D takes; ECB leaves the vector
unfoldable pub vector_after : Mode → (v t c : List ℕ) → List ℕ
vector_after Ecbe v t c = v
vector_after Ecbd v t c = v
vector_after Cbce v t c = last_block c
vector_after Cbcd v t c = last_block t
vector_after Cfbe v t c = last_block c
vector_after Cfbd v t c = last_block t

-- ---- what the operations answer and leave

-- done, or why not
abbrev pub Verdict : Type 0
Verdict = Result (Unit {0}) Misfit

-- the page's numbers. Its limits of 1 and 32768 bytes are the commands', and are tested there, before a mode is asked
unfoldable pub number : Verdict → ℕ
number (Ok d) = 0
number (Err BadLength) = 12
number (Err NoRoom) = 13

-- a mode wants whole blocks, and room for them
unfoldable pub fitting : List ℕ → List ℕ → Verdict
fitting t out = cond (eqb (length t % 8) 0) (cond (leb (length t) (length out)) (Ok tt) (Err NoRoom)) (Err BadLength)

-- the bytes t over the first bytes of out
abbrev pub onto : List ℕ → List ℕ → List ℕ
onto t out = t ++ drop (length t) out

pub record Outcome : Type 0 where
  pub verdict : Verdict
  pub vector : List ℕ
  pub output : List ℕ

-- the answer of `apply` from the vector v, with what the output holds afterwards: where it refuses, v is the vector still
abbrev pub outcome_of : Result Vector Misfit → (v out : List ℕ) → Outcome
outcome_of (Ok w) v out = record { verdict = Ok tt; vector = w.0; output = out }
outcome_of (Err e) v out = record { verdict = Err e; vector = v; output = out }

unfoldable pub ruled : Verdict → Mode → List ℕ → List ℕ → List ℕ → List ℕ → Outcome
ruled (Ok d) m k v t out = record { verdict = Ok tt; vector = mode_vector m k v t; output = onto (mode_text m k v t) out }
ruled (Err e) m k v t out = record { verdict = Err e; vector = v; output = out }

unfoldable pub applied : Mode → List ℕ → List ℕ → List ℕ → List ℕ → Outcome
applied m k v t out = ruled (fitting t out) m k v t out

-- a record of no bytes has no last block
pub record Value : Type 0 where
  pub verdict : Verdict
  pub value : List ℕ

-- the answer of `fixity_of`: where it refuses, eight zero bytes stand for the value
abbrev pub value_of : Result (List ℕ) Misfit → Value
value_of (Ok b) = record { verdict = Ok tt; value = b }
value_of (Err e) = record { verdict = Err e; value = replicate 8 0 }

unfoldable pub valued : List ℕ → List ℕ → List ℕ → Value
valued k v t = cond (eqb (length t) 0) (record { verdict = Err BadLength; value = replicate 8 0 }) (record { verdict = Ok tt; value = fixity k v t })
