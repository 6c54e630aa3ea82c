-- A command: one word for each field, and nothing else.
use Rattle.std.specs.Prelude.{true, cond, List, [], ◌∷◌, ℕ, ◌+◌, ◌-◌, eqb, ltb, length, unwrap_or}
use Rattle.names.specs.declared.Says.TheVariants.{Command}
use Rattle.stream.specs.Commands.{arguments_of}
use Rattle.values.specs.declared.Origin.TheVariants.{Letters}
use Rattle.values.specs.Values.{Value}
use Rattle.values.specs.Sources.{source}
use Rattle.values.specs.Fields.{value_of, with_value}
use Rattle.words.specs.declared.Expected.TheVariants.{NothingMore}
use Rattle.words.specs.declared.Word.{Word}
use Rattle.words.specs.declared.Word.TheVariants.{PlainWord, TextWord, Broken, NoWord}
use Rattle.words.specs.Split.{word_at}
use Rattle.reader.specs.Line.{Line, wrong_line, so_far}

-- where a line of n letters goes on after a word
unfoldable pub after : ℕ → Word → ℕ
after n (PlainWord a e) = e
after n (TextWord a e) = cond (ltb e n) (e + 1) n
after n (Broken at x) = n
after n (NoWord at) = at

unfoldable pub took_value : List ℕ → List ℕ → Line → ℕ → ℕ → Value → Line
took_value l kept r k next v =
    cond v.fits
    (record { fits = true; at = next; expected = NothingMore; says = r.says; asked = with_value k v l kept r.asked; bytes = cond (eqb k 0x87) v.bytes r.bytes })
    (wrong_line v.at v.expected)

unfoldable pub took_word : List ℕ → List ℕ → List ℕ → Line → ℕ → Word → Line
took_word l kept ends r k w = took_value l kept r k (after (length l) w) (value_of k l (length kept) ends w)

unfoldable pub read_word : List ℕ → List ℕ → List ℕ → Line → ℕ → Line
read_word l kept ends r k = cond r.fits (took_word l kept ends r k (word_at l r.at)) r

unfoldable pub read_words : List ℕ → List ℕ → List ℕ → Line → List ℕ → Line
read_words l kept ends r [] = r
read_words l kept ends r (k ∷ ks) = read_words l kept ends (read_word l kept ends r k) ks

-- nothing else
unfoldable pub nothing_else : Line → Word → Line
nothing_else r (PlainWord a e) = wrong_line a NothingMore
nothing_else r (TextWord a e) = wrong_line (a - 1) NothingMore
nothing_else r (Broken at x) = wrong_line at x
nothing_else r (NoWord at) = r

unfoldable pub ended_line : List ℕ → Line → Line
ended_line l r = cond r.fits (nothing_else r (word_at l r.at)) r

unfoldable pub command_line : ℕ → List ℕ → List ℕ → List ℕ → ℕ → Line
command_line t l kept ends at = ended_line l (read_words l kept ends (so_far Command t at (source Letters 0 0)) (unwrap_or (arguments_of t) []))
