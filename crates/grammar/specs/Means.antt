-- The table of a command's fields: the bytes that a word says there.
use Rattle.std.specs.Prelude.{◌≡◌, true, cond, ◌⊎◌, List, ◌∷◌, ◌++◌, ℕ, ◌+◌, ◌-◌, ◌%◌, ◌≤◌, ◌<◌, eqb, length, get_or}
use Prim.Native.Char.{code}
use Rattle.ground.specs.Rows.{digits}
use Rattle.printout.specs.Text.{letters}
use Rattle.values.specs.Numbers.{decimal_value}
use Rattle.values.specs.Sources.{unhex}
use Rattle.words.specs.declared.Class.TheVariants.{Digit, Hex}
use Rattle.grammar.specs.Lines.{every, Piece, plain, text}

-- "decimal digits, a number up to": the word w says n
pub record Number (limit : ℕ) (w : List ℕ) (n : ℕ) : Type 0 where
  pub digit : every Digit w ≡ true
  pub value : decimal_value w ≡ n
  pub within : n ≤ limit

-- "hex digits, an even number of them": the word w says the bytes b
pub record Pairs (w b : List ℕ) : Type 0 where
  pub hex : every Hex w ≡ true
  pub even : length w % 2 ≡ 0
  pub value : unhex w ≡ b

-- answer n has the bytes b: among the bytes kept of the answers, they stand between where those of the answer before it end and where its own end.
-- "An answer that was never given, or that had no bytes, or that is no longer kept, cannot stand there."
pub record OfAnswer (kept ends : List ℕ) (n : ℕ) (b : List ℕ) : Type 0 where
  pub given : (0 < n) × (n < length ends)
  pub before : List ℕ
  pub beyond : List ℕ
  pub whole : kept ≡ before ++ (b ++ beyond)
  pub from : length before ≡ get_or ends (n - 1) 0
  pub to : length before + length b ≡ get_or ends n 0
  pub some : 0 < length b

-- "`$n` is `$` and decimal digits, a number up to 4294967295: the bytes of the answer with that ordinal"
pub record Ordinal (kept ends w b : List ℕ) : Type 0 where
  pub n : ℕ
  pub number : List ℕ
  pub word : w ≡ code "$" ∷ number
  pub some : 0 < length number
  pub ordinal : Number 4294967295 number n
  pub answer : OfAnswer kept ends n b

-- ---- the rows

-- "81 issuer or user, 82 party | plain: decimal digits, a number up to 4294967295"; "83 interchange | plain: decimal digits, a number up to 255"
abbrev pub Numeral : (size limit : ℕ) → Piece → List ℕ → Type 0
Numeral size limit (plain w) b = (n : ℕ) × Number limit w n × (digits 256 size n ≡ b)
Numeral size limit (text w) b = ⊥

-- "84 function | plain: `t`, `r` or `s`"
abbrev pub Function : Piece → List ℕ → Type 0
Function (plain w) b = ((w ≡ letters "t") ⊎ ((w ≡ letters "r") ⊎ (w ≡ letters "s"))) × (w ≡ b)
Function (text w) b = ⊥

-- "85, 86 block | plain: 16 hex digits; or `$n`, where answer n has eight bytes"
abbrev pub Block : (kept ends : List ℕ) → Piece → List ℕ → Type 0
Block kept ends (plain w) b = (Pairs w b × (length w ≡ 16)) ⊎ (Ordinal kept ends w b × (length b ≡ 8))
Block kept ends (text w) b = ⊥

-- "87 data | plain: hex digits, an even number of them; or a text, its letters as they are; or `$n`, where answer n has bytes. At most 65500 bytes"
abbrev pub Data : (kept ends : List ℕ) → Piece → List ℕ → Type 0
Data kept ends (plain w) b = (Pairs w b ⊎ Ordinal kept ends w b) × (length b ≤ 65500)
Data kept ends (text w) b = (w ≡ b) × (length b ≤ 65500)

-- the word p says the bytes b of the field k
unfoldable pub Means : (kept ends : List ℕ) → ℕ → Piece → List ℕ → Type 0
Means kept ends k =
    cond (eqb k 0x81) (Numeral 4 4294967295)
    (cond (eqb k 0x82) (Numeral 4 4294967295)
    (cond (eqb k 0x83) (Numeral 1 255)
    (cond (eqb k 0x84) Function
    (cond (eqb k 0x85) (Block kept ends)
    (cond (eqb k 0x86) (Block kept ends)
    (cond (eqb k 0x87) (Data kept ends) (λ p b. ⊥)))))))
