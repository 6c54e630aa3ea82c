-- What the functions of this crate answer and leave: the cipher's own definitions, with a block as a number.
use Rattle.std.specs.Prelude.{cond, List, ℕ, eqb, Option, Some, None}
use Rattle.cipher.specs.Bits.{word, bytes}
use Rattle.cipher.specs.Cipher.{Outcome, applied, Value, number}
use Rattle.cipher.specs.declared.modes.Mode.TheVariants.{Ecbe, Ecbd, Cbce, Cbcd, Cfbe, Cfbd}
use Rattle.cipher.specs.declared.modes.Mode.{Mode}

-- the tags of the commands
unfoldable pub asked : ℕ → Option Mode
asked tag =
    cond (eqb tag 0x0A) (Some Ecbe)
    (cond (eqb tag 0x0B) (Some Ecbd)
    (cond (eqb tag 0x0C) (Some Cbce)
    (cond (eqb tag 0x0D) (Some Cbcd)
    (cond (eqb tag 0x0E) (Some Cfbe)
    (cond (eqb tag 0x0F) (Some Cfbd)
    None)))))

-- the answer's number, the vector and the output afterwards
pub record Moded : Type 0 where
  pub answer : ℕ
  pub vector : ℕ
  pub output : List ℕ

unfoldable pub told : Outcome → Moded
told o = record { answer = number o.verdict; vector = word o.vector; output = o.output }

unfoldable pub moded : Option Mode → (key vector : ℕ) (text out : List ℕ) → Moded
moded (Some m) key vector text out = told (applied m (bytes key) (bytes vector) text out)
moded None key vector text out = record { answer = 16; vector = vector; output = out }

-- the answer's number, and the value
pub record Fixed : Type 0 where
  pub answer : ℕ
  pub value : ℕ

unfoldable pub fixed : Value → Fixed
fixed f = record { answer = number f.verdict; value = word f.value }
