-- Where bytes come from: hex digits, the words of raw bytes, letters of the line, an answer.
use Rattle.std.specs.Prelude.{cond, List, [], ◌∷◌, ◌++◌, ℕ, zero, suc, ◌+◌, ◌-◌, ◌*◌, ◌%◌, eqb, ltb, leb, length, get_or}
use Prim.Native.Char.{code}
use Rattle.stream.specs.Fields.{part}
use Rattle.values.specs.declared.Origin.{Origin}
use Rattle.values.specs.declared.Origin.TheVariants.{HexDigits, HexWords, Letters, Answered}
use Rattle.values.specs.declared.Source.{Source}
use Rattle.words.specs.declared.Word.{Word}
use Rattle.words.specs.declared.Word.TheVariants.{PlainWord, TextWord, Broken, NoWord}
use Rattle.words.specs.Split.{word_at}

unfoldable pub hex_value : ℕ → ℕ
hex_value c = cond (ltb c (code "A")) ((c - 48) % 16) (cond (ltb c (code "a")) ((c - 55) % 16) ((c - 87) % 16))

-- two hex digits a byte
unfoldable pub unhex : List ℕ → List ℕ
unhex [] = []
unhex (a ∷ []) = []
unhex (a ∷ b ∷ cs) = (16 * hex_value a + hex_value b) ∷ unhex cs

-- the bytes of a plain word's hex digits
abbrev pub word_bytes : List ℕ → Word → List ℕ
word_bytes l (PlainWord a e) = unhex (part a e l)
word_bytes l (TextWord a e) = []
word_bytes l (Broken at e) = []
word_bytes l (NoWord at) = []

-- where the words of raw bytes go on in a line of n letters
abbrev pub raw_next : ℕ → Word → ℕ
raw_next n (PlainWord a e) = e
raw_next n (TextWord a e) = n
raw_next n (Broken at e) = n
raw_next n (NoWord at) = n

-- the bytes of at most so many words, one after the other
unfoldable pub raw_from : ℕ → List ℕ → ℕ → List ℕ
raw_from zero l at = []
raw_from (suc n) l at = word_bytes l (word_at l at) ++ raw_from n l (raw_next (length l) (word_at l at))

-- the bytes that a part of the line, or of what is kept of the answers, stands for
abbrev pub meant_by : Origin → ℕ → ℕ → List ℕ → List ℕ → List ℕ
meant_by HexDigits start end l kept = unhex (part start end l)
meant_by HexWords start end l kept = raw_from (length l) l start
meant_by Letters start end l kept = part start end l
meant_by Answered start end l kept = part start end kept

unfoldable pub meant : Source → List ℕ → List ℕ → List ℕ
meant s l kept = meant_by s.from s.start s.end l kept

abbrev pub source : Origin → ℕ → ℕ → Source
source o a e = record { from = o; start = a; end = e }

-- the bytes of answer n among the m kept: from where those of the answer before it end to where its own end; none for an answer that is not there
unfoldable pub answer_source : ℕ → List ℕ → ℕ → Source
answer_source m ends n =
    cond (eqb n 0) (source Answered 0 0)
    (cond (leb (length ends) n) (source Answered 0 0)
    (cond (ltb m (get_or ends n 0)) (source Answered 0 0) (source Answered (get_or ends (n - 1) 0) (get_or ends n 0))))
