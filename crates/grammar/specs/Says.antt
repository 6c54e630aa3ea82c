-- What a line says, written without the reader. `kept` is the room for the answers' bytes, filled from its start, and `ends` says where each answer's end there.
use Rattle.std.specs.Prelude.{◌≡◌, false, List, [], ◌∷◌, ◌++◌, map, ℕ, ◌<◌, length}
use Rattle.std.specs.Prelude.{Some}
use Rattle.names.specs.declared.Says.{Says}
use Rattle.names.specs.declared.Says.TheVariants.{Nothing, Command, Raw, Help, Who, Quit}
use Rattle.names.specs.Names.{capital, name}
use Rattle.printout.specs.Text.{letters}
use Rattle.stream.specs.declared.Request.{Request}
use Rattle.stream.specs.Fields.{Bytes}
use Rattle.stream.specs.Commands.{arguments_of, blank}
use Rattle.stream.specs.Grammar.{argument, among}
use Rattle.stream.specs.RequestLaws.{Sound}
use Rattle.grammar.specs.Lines.{Piece, plain, text, Lines}
use Rattle.grammar.specs.Means.{Pairs, Means}

-- "one word for each field of the command, in ascending tags, and nothing else": the words ps say the fields ks of the request a and the data d
abbrev pub Each : (kept ends : List ℕ) → List ℕ → List Piece → Request → Bytes → Type 0
Each kept ends [] [] a d = Unit {0}
Each kept ends [] (p ∷ ps) a d = ⊥
Each kept ends (k ∷ ks) [] a d = ⊥
Each kept ends (k ∷ ks) (p ∷ ps) a d = Means kept ends k p (argument k a d) × Each kept ends ks ps a d

-- a command: "The first word is the command's name. … Small letters do as well as capital ones. After it comes one word for each field";
-- the fields that the command does not have are blank, and there is no data
pub record Commands (kept ends l : List ℕ) (a : Request) (d : Bytes) : Type 0 where
  pub first : List ℕ
  pub words : List Piece
  pub line : Lines (plain first ∷ words) l
  pub arguments : List ℕ
  pub known : arguments_of a.tag ≡ Some arguments
  pub named : map capital first ≡ name a.tag
  pub fields : Each kept ends arguments words a d
  pub sound : Sound a.tag a
  pub absent : (k : ℕ) → among k arguments ≡ false → argument k a d ≡ argument k (blank a.tag) []

-- "each word is plain: hex digits, an even number of them. The bytes are those of the words one after the other"
abbrev pub InPairs : List Piece → Bytes → Type 0
InPairs [] d = [] ≡ d
InPairs (plain w ∷ ps) d = (b : Bytes) × (rest : Bytes) × Pairs w b × InPairs ps rest × (b ++ rest ≡ d)
InPairs (text w ∷ ps) d = ⊥

-- raw bytes: "the first word is `!`, and each word after it, of which there is at least one"
pub record RawBytes (l : List ℕ) (d : Bytes) : Type 0 where
  pub words : List Piece
  pub line : Lines (plain (letters "!") ∷ words) l
  pub some : 0 < length words
  pub bytes : InPairs words d

-- "`help`, `who` and `quit` (small or capital letters) are a line's only word"
abbrev pub Alone : List ℕ → List ℕ → Type 0
Alone word l = (w : List ℕ) × (map capital w ≡ word) × Lines (plain w ∷ []) l

-- the line l says s: a command with the request a and the data d; raw bytes d; or what has neither
abbrev pub Reads : (kept ends l : List ℕ) → Says → Request → Bytes → Type 0
Reads kept ends l Nothing a d = Lines [] l × (blank 0 ≡ a) × ([] ≡ d)
Reads kept ends l Command a d = Commands kept ends l a d
Reads kept ends l Raw a d = RawBytes l d × (blank 0 ≡ a)
Reads kept ends l Help a d = Alone (letters "HELP") l × (blank 0 ≡ a) × ([] ≡ d)
Reads kept ends l Who a d = Alone (letters "WHO") l × (blank 0 ≡ a) × ([] ≡ d)
Reads kept ends l Quit a d = Alone (letters "QUIT") l × (blank 0 ≡ a) × ([] ≡ d)
