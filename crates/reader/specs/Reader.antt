-- What a line says, by its first word.
use Rattle.std.specs.Prelude.{cond, List, ℕ, ◌-◌}
use Rattle.names.specs.declared.Says.{Says}
use Rattle.names.specs.declared.Says.TheVariants.{Nothing, Command, Raw, Help, Who, Quit}
use Rattle.names.specs.Names.{Start, start_of}
use Rattle.stream.specs.Fields.{part}
use Rattle.values.specs.declared.Origin.TheVariants.{Letters}
use Rattle.values.specs.Sources.{source}
use Rattle.words.specs.declared.Expected.TheVariants.{Name}
use Rattle.words.specs.declared.Word.{Word}
use Rattle.words.specs.declared.Word.TheVariants.{PlainWord, TextWord, Broken, NoWord}
use Rattle.words.specs.Split.{word_at}
use Rattle.reader.specs.Line.{Line, wrong_line, so_far}
use Rattle.reader.specs.Command.{ended_line, command_line}
use Rattle.reader.specs.Raw.{raw_line}

-- a word that stands alone
unfoldable pub alone_line : Says → List ℕ → ℕ → Line
alone_line s l at = ended_line l (so_far s 0 at (source Letters 0 0))

unfoldable pub says_line : List ℕ → List ℕ → List ℕ → ℕ → ℕ → Says → Line
says_line l kept ends at t Nothing = alone_line Nothing l at
says_line l kept ends at t Command = command_line t l kept ends at
says_line l kept ends at t Raw = raw_line l at
says_line l kept ends at t Help = alone_line Help l at
says_line l kept ends at t Who = alone_line Who l at
says_line l kept ends at t Quit = alone_line Quit l at

unfoldable pub started_line : List ℕ → List ℕ → List ℕ → ℕ → ℕ → Start → Line
started_line l kept ends a e s = cond s.known (says_line l kept ends e s.tag s.says) (wrong_line a Name)

unfoldable pub first_word : List ℕ → List ℕ → List ℕ → Word → Line
first_word l kept ends (PlainWord a e) = started_line l kept ends a e (start_of (part a e l))
first_word l kept ends (TextWord a e) = wrong_line (a - 1) Name
first_word l kept ends (Broken at x) = wrong_line at x
first_word l kept ends (NoWord at) = so_far Nothing 0 at (source Letters 0 0)

unfoldable pub read_line : List ℕ → List ℕ → List ℕ → Line
read_line l kept ends = first_word l kept ends (word_at l 0)
