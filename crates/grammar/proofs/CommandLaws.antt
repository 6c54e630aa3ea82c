-- A command after its name: the reader takes exactly the words that say its fields.
use Rattle.std.specs.Prelude.{◌≡◌, true, false, List, [], ℕ, drop}
use Rattle.std.proofs.Math.Path.{refl, sym}
use Rattle.std.proofs.Common.{ap, ◌∙◌, arith}
use Rattle.std.specs.Prelude.{Some}
use Rattle.names.specs.declared.Says.TheVariants.{Command}
use Rattle.reader.specs.Line.{Line, so_far}
use Rattle.reader.specs.Command.{read_words, ended_line, command_line}
use Rattle.stream.specs.declared.Request.{Request}
use Rattle.stream.specs.Fields.{Bytes}
use Rattle.stream.specs.Commands.{arguments_of, blank}
use Rattle.stream.specs.Grammar.{argument, among}
use Rattle.stream.specs.RequestLaws.{Sound}
use Rattle.stream.proofs.RequestLaws.{blank_sound, same_request, same_data}
use Rattle.stream.proofs.GrammarLaws.{arguments_ordered}
use Rattle.values.specs.declared.Origin.TheVariants.{Letters}
use Rattle.values.specs.Sources.{source, meant}
use Rattle.grammar.specs.Lines.{Piece, Lines}
use Rattle.grammar.specs.Says.{Each}
use Rattle.grammar.proofs.ReadLaws.{said, tells, Read, fits_read, Done, said_read, ended_none, fits-ended}

module _ (l kept ends : List ℕ) (t : ℕ) (ks : List ℕ) (known : arguments_of t ≡ Some ks) (at : ℕ) where
  abbrev named : Line
  named = so_far Command t at (source Letters 0 0)

  abbrev all_read : Line
  all_read = read_words l kept ends named ks

  command_read : command_line t l kept ends at ≡ ended_line l all_read
  unfolding command_line
  command_read = rw known

  -- before the first word it says nothing of any field
  named-tells : (j : ℕ) → tells l kept ends named j ≡ argument j (blank t) []
  unfolding so_far meant
  named-tells j = refl

  named_sound : Sound t named.asked
  unfolding so_far
  named_sound = blank_sound t

  named-fits : named.fits ≡ true
  unfolding so_far
  named-fits = refl

  -- what fits
  command_fits : (command_line t l kept ends at).fits ≡ true → (command_line t l kept ends at ≡ all_read) × Read l kept ends t ks named all_read
  command_fits h =
      let e = fits-ended l kept ends all_read (ap (λ (q : Line). q.fits) (sym command_read) ∙ h) in
      (command_read ∙ ended_none l kept ends all_read e.0 e.1, fits_read l kept ends t 0x80 ks named (omega arith) (arguments_ordered t ks known).0 named_sound named-fits e.0 e.1)

  -- what is said
  command_said : (a : Request) (d : Bytes) (ps : List Piece) → Sound t a → Lines ps (drop at l) → Each kept ends ks ps a d
      → ((j : ℕ) → among j ks ≡ false → argument j a d ≡ argument j (blank t) []) → (command_line t l kept ends at ≡ all_read) × Done l kept ends t a d named all_read
  unfolding so_far
  command_said a d ps c line each absent =
      let done = said_read l kept ends t a d 0x80 ks ps named (omega arith) (arguments_ordered t ks known).0 named_sound named-fits line each (λ j x. named-tells j ∙ sym (absent j x)) in
      (command_read ∙ ended_none l kept ends all_read done.fits done.end, done)

  -- ---- the same of the line read

  pub record Fits (q : Line) : Type 0 where
    pub words : List Piece
    pub line : Lines words (drop at l)
    pub fields : Each kept ends ks words q.asked (said l kept ends q)
    pub sound : Sound t q.asked
    pub absent : (j : ℕ) → among j ks ≡ false → tells l kept ends q j ≡ argument j (blank t) []
    pub command : q.says ≡ Command

  pub fits_command : (command_line t l kept ends at).fits ≡ true → Fits (command_line t l kept ends at)
  unfolding so_far
  fits_command h =
      let x = command_fits h in
      let read = x.1 in
      rw x.0 (record { words = read.words; line = read.line; fields = read.fields; sound = read.sound; absent = λ j y. read.others j y ∙ named-tells j; command = read.same })

  pub said_command : (a : Request) (d : Bytes) (ps : List Piece) → Sound t a → Lines ps (drop at l) → Each kept ends ks ps a d
      → ((j : ℕ) → among j ks ≡ false → argument j a d ≡ argument j (blank t) [])
      → ((command_line t l kept ends at).fits ≡ true) × ((command_line t l kept ends at).says ≡ Command) × ((command_line t l kept ends at).asked ≡ a) × (said l kept ends (command_line t l kept ends at) ≡ d)
  unfolding so_far
  said_command a d ps c line each absent =
      let x = command_said a d ps c line each absent in
      let done = x.1 in
      rw x.0 (
        done.fits,
        done.same,
        same_request t all_read.asked a (said l kept ends all_read) d done.sound c done.says,
        same_data t all_read.asked a (said l kept ends all_read) d done.sound c done.says,
      )
