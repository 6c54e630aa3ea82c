-- The reader takes exactly the grammar's lines, and each line has one reading.
use Rattle.std.specs.Prelude.{◌≡◌, true, false, ◌↔◌, ℕ, ◌+◌, drop}
use Rattle.std.proofs.Math.Path.{refl, ap, subst}
use Rattle.std.proofs.Common.{sym, ◌∙◌, subst₂, true≢false}
use Rattle.std.proofs.lemmas.Bool.{false≢true}
use Rattle.std.specs.Prelude.{Some}
use mathlib.Core.List.{List, [], ◌∷◌, map}
use Rattle.std.proofs.Math.ListN.{length}
use Rattle.ground.specs.Search.{by_test}
use Rattle.names.specs.declared.Says.{Says}
use Rattle.names.specs.declared.Says.TheVariants.{Nothing, Command, Raw, Help, Who, Quit}
use Rattle.names.specs.Names.{Start, capital, name, start_of}
use Rattle.printout.specs.Text.{letters}
use Rattle.reader.specs.Line.{Line, wrong_line, so_far}
use Rattle.reader.specs.Command.{command_line}
use Rattle.reader.specs.Raw.{raw_line}
use Rattle.reader.specs.Reader.{alone_line, says_line, started_line, first_word, read_line}
use Rattle.stream.specs.declared.Request.{Request}
use Rattle.stream.specs.Fields.{Bytes}
use Rattle.stream.specs.Commands.{arguments_of, blank}
use Rattle.stream.specs.Grammar.{argument}
use Rattle.stream.specs.RequestLaws.{Sound}
use Rattle.values.specs.declared.Origin.TheVariants.{Letters}
use Rattle.values.specs.Sources.{source, meant}
use Rattle.words.specs.declared.Word.{Word}
use Rattle.words.specs.declared.Word.TheVariants.{TextWord, Broken}
use Rattle.words.specs.Split.{word_at}
use Rattle.grammar.specs.Lines.{Piece, plain, text, Begins, Wordless, Lines}
use Rattle.grammar.specs.Says.{Commands, RawBytes, Reads}
use Rattle.grammar.proofs.LetterLaws.{part_there, rest_there}
use Rattle.grammar.specs.LineLaws.{Next, none, found, broken}
use Rattle.grammar.proofs.LineLaws.{word_none, begins_stands, look}
use Rattle.grammar.proofs.ReadLaws.{ended_none, fits-ended}
use Rattle.grammar.proofs.CommandLaws.{fits_command, said_command}
use Rattle.grammar.specs.NameLaws.{begun, First, command, raw, help, who, quit, no_name}
use Rattle.grammar.proofs.NameLaws.{first-word, command_begins, raw_begins, help-begins, who-begins, quit_begins}
use Rattle.grammar.proofs.RawLaws.{fits_raw, said_raw}

module _ (l kept ends : List ℕ) where
  abbrev pub read : Line
  read = read_line l kept ends

  -- the reader's line r says s, with the request a and the bytes d
  abbrev pub Tells : Line → Says → Request → Bytes → Type 0
  Tells r s a d = (r.fits ≡ true) × (r.says ≡ s) × (r.asked ≡ a) × (meant r.bytes l kept ≡ d)

  -- what a line that fits says is what the grammar says
  abbrev Right : Line → Type 0
  Right r = r.fits ≡ true → Reads kept ends l r.says r.asked (meant r.bytes l kept)

  -- ---- after the first word, which is plain

  module _ (w rest : List ℕ) (b : Begins (plain w) l rest) where
    at : ℕ
    at = (begins_stands l 0 (plain w) rest b).start + length w

    rest_is : drop at l ≡ rest
    unfolding at
    rest_is = let s = begins_stands l 0 (plain w) rest b in rest_there l s.start w rest s.there

    -- the words after it
    on : (ps : List Piece) → Lines ps (drop at l) → Lines (plain w ∷ ps) l
    on ps line = (rest, b, subst (Lines ps) rest_is line)

    started : read ≡ started_line l kept ends (begins_stands l 0 (plain w) rest b).start at (start_of w)
    unfolding read_line first_word at
    started =
        let s = begins_stands l 0 (plain w) rest b in
        ap (first_word l kept ends) s.word
        ∙ ap (λ (x : List ℕ). started_line l kept ends s.start (s.start + length w) (start_of x)) (part_there l s.start w rest s.there)

    -- by what the word begins
    started_by : (s : Says) (t : ℕ) → start_of w ≡ begun s t → read ≡ says_line l kept ends at t s
    unfolding started_line
    started_by s t e = started ∙ rw e

    -- ---- alone

    alone-fits : (s : Says) → (alone_line s l at).fits ≡ true → Wordless (drop at l) × (alone_line s l at ≡ so_far s 0 at (source Letters 0 0))
    unfolding alone_line so_far
    alone-fits s h =
        let r = so_far s 0 at (source Letters 0 0) in
        let x = fits-ended l kept ends r h in
        (x.1, ended_none l kept ends r x.0 x.1)

    alone-said : (s : Says) → Wordless (drop at l) → alone_line s l at ≡ so_far s 0 at (source Letters 0 0)
    unfolding alone_line so_far
    alone-said s h = ended_none l kept ends (so_far s 0 at (source Letters 0 0)) refl h

    -- ---- what fits is the grammar's

    command_right : (t : ℕ) (ks : List ℕ) → arguments_of t ≡ Some ks → map capital w ≡ name t → Right (command_line t l kept ends at)
    command_right t ks known e h =
        let f = fits_command l kept ends t ks known at h in
        let tag = f.sound.tagged in
        rw f.command
        (record {
          first = w;
          words = f.words;
          line = on f.words f.line;
          arguments = ks;
          known = ap arguments_of tag ∙ known;
          named = e ∙ ap name (sym tag);
          fields = f.fields;
          sound = subst (λ (n : ℕ). Sound n (command_line t l kept ends at).asked) (sym tag) f.sound;
          absent = λ k x. f.absent k x ∙ ap (λ (n : ℕ). argument k (blank n) []) (sym tag);
        })

    raw_right : w ≡ letters "!" → Right (raw_line l at)
    unfolding so_far meant
    raw_right e h =
        let f = fits_raw l at h in
        rw f.5 (record { words = f.0; line = subst (λ (v : List ℕ). Lines (plain v ∷ f.0) l) e (on f.0 f.1); some = f.2; bytes = f.3 }, refl)

    help_right : map capital w ≡ letters "HELP" → Right (alone_line Help l at)
    unfolding so_far meant
    help_right e h = let f = alone-fits Help h in rw f.1 ((w, e, on [] f.0), refl, refl)

    who_right : map capital w ≡ letters "WHO" → Right (alone_line Who l at)
    unfolding so_far meant
    who_right e h = let f = alone-fits Who h in rw f.1 ((w, e, on [] f.0), refl, refl)

    quit_right : map capital w ≡ letters "QUIT" → Right (alone_line Quit l at)
    unfolding so_far meant
    quit_right e h = let f = alone-fits Quit h in rw f.1 ((w, e, on [] f.0), refl, refl)

    plain_right : (s : Start) → start_of w ≡ s → First w s → Right read
    unfolding says_line started_line wrong_line
    plain_right s q (command t ks known e) = subst Right (sym (started_by Command t q)) (command_right t ks known e)
    plain_right s q (raw e) = subst Right (sym (started_by Raw 0 q)) (raw_right e)
    plain_right s q (help e) = subst Right (sym (started_by Help 0 q)) (help_right e)
    plain_right s q (who e) = subst Right (sym (started_by Who 0 q)) (who_right e)
    plain_right s q (quit e) = subst Right (sym (started_by Quit 0 q)) (quit_right e)
    plain_right s q no_name = λ h. absurd (true≢false (sym h ∙ ap (λ (r : Line). r.fits) started ∙ ap (λ (x : Start). (started_line l kept ends (begins_stands l 0 (plain w) rest b).start at x).fits) q))

  -- ---- by the first word

  not_first : (v : Word) → word_at l 0 ≡ v → (first_word l kept ends v).fits ≡ false → Right read
  unfolding read_line
  not_first v e f h = absurd (true≢false (sym h ∙ ap (λ (x : Word). (first_word l kept ends x).fits) e ∙ f))

  by_first : Next l 0 → Right read
  unfolding read_line first_word so_far wrong_line meant
  by_first (none x) h = rw (word_none l 0 x) (x, refl, refl)
  by_first (found (plain w) rest b) h = plain_right w rest b (start_of w) refl (first-word w) h
  by_first (found (text w) rest b) h =
      let s = begins_stands l 0 (text w) rest b in
      not_first (TextWord (s.start + 1) (s.start + 1 + length w)) s.word refl h
  by_first (broken b x e) h = not_first (Broken b x) e refl h

  -- ---- the reader and the grammar

  -- what the reader takes is a line of the grammar, and says what it says there
  pub fits_reads : read.fits ≡ true → Reads kept ends l read.says read.asked (meant read.bytes l kept)
  fits_reads h = by_first (look l 0) h

  module _ (a : Request) (d : Bytes) where
    command_reads : Commands kept ends l a d → Tells read Command a d
    unfolding says_line
    command_reads h =
        let w = h.first in
        let rest = h.line.0 in
        let b = h.line.1 in
        rw (started_by w rest b Command a.tag (command_begins w a.tag h.arguments h.known h.named))
        (said_command l kept ends a.tag h.arguments h.known (at w rest b) a d h.words h.sound
        (subst (Lines h.words) (sym (rest_is w rest b)) h.line.2) h.fields h.absent)

    raw_reads : RawBytes l d → blank 0 ≡ a → Tells read Raw a d
    unfolding says_line so_far meant
    raw_reads h e =
        let w = letters "!" in
        let rest = h.line.0 in
        let b = h.line.1 in
        let x = said_raw l (at w rest b) h.words d h.some (subst (Lines h.words) (sym (rest_is w rest b)) h.line.2) h.bytes in
        rw (started_by w rest b Raw 0 raw_begins ∙ x.1) (refl, refl, e, x.2)

    -- a word that stands alone
    alone_reads : (s : Says) (w : List ℕ) (h : Lines (plain w ∷ []) l) → read ≡ alone_line s l (at w h.0 h.1) → blank 0 ≡ a → [] ≡ d → Tells read s a d
    unfolding so_far meant
    alone_reads s w h q e f =
        let x = alone-said w h.0 h.1 s (subst Wordless (sym (rest_is w h.0 h.1)) h.2) in
        rw (q ∙ x) (refl, refl, e, f)

    -- a line of the grammar is taken, and says what it says there
    pub reads_fits : (s : Says) → Reads kept ends l s a d → Tells read s a d
    unfolding says_line read_line first_word so_far meant
    reads_fits Nothing h = rw (word_none l 0 h.0) (refl, refl, h.1, h.2)
    reads_fits Command h = command_reads h
    reads_fits Raw h = raw_reads h.0 h.1
    reads_fits Help h = let x = h.0 in alone_reads Help x.0 x.2 (started_by x.0 x.2.0 x.2.1 Help 0 (help-begins x.0 x.1)) h.1 h.2
    reads_fits Who h = let x = h.0 in alone_reads Who x.0 x.2 (started_by x.0 x.2.0 x.2.1 Who 0 (who-begins x.0 x.1)) h.1 h.2
    reads_fits Quit h = let x = h.0 in alone_reads Quit x.0 x.2 (started_by x.0 x.2.0 x.2.1 Quit 0 (quit_begins x.0 x.1)) h.1 h.2

  -- the two together
  pub exactly : (s : Says) (a : Request) (d : Bytes) → Tells read s a d ↔ Reads kept ends l s a d
  exactly s a d = (
    λ h. subst (λ (e : Bytes). Reads kept ends l s a e) h.3 (subst₂ (λ (x : Says) (y : Request). Reads kept ends l x y (meant read.bytes l kept)) h.1 h.2 (fits_reads h.0)),
    λ h. reads_fits a d s h,
  )

  -- a line has one reading
  pub one_reading : (s s' : Says) (a a' : Request) (d d' : Bytes) → Reads kept ends l s a d → Reads kept ends l s' a' d' → (s ≡ s') × (a ≡ a') × (d ≡ d')
  one_reading s s' a a' d d' h h' =
      let x = reads_fits a d s h in
      let y = reads_fits a' d' s' h' in
      (sym x.1 ∙ y.1, sym x.2 ∙ y.2, sym x.3 ∙ y.3)

  -- refused is what has no reading
  pub misfit : read.fits ≡ false ↔ ((s : Says) (a : Request) (d : Bytes) → Reads kept ends l s a d → ⊥)
  misfit = (
    λ e s a d h. false≢true (sym e ∙ (reads_fits a d s h).0),
    λ no-reading. by_test read.fits (λ e. absurd (no-reading read.says read.asked (meant read.bytes l kept) (fits_reads e))) (λ e. e),
  )
