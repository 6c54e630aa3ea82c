-- Nothing is left out: what the desk writes finds room on its paper of 70000 letters, and a line's bytes in its piece of 65538.
use Rattle.std.specs.Prelude.{◌≡◌, Bool, cond, List, [], ◌∷◌, ◌++◌, eqb, ltb, leb}
use Rattle.std.proofs.Math.Path.{refl, ap}
use Rattle.std.proofs.Common.{◌∙◌, arith, length-append, leb-true}
use Rattle.std.proofs.Math.Bool.{true, false}
use Prim.Native.Nat.{ℕ, zero, suc, ◌+◌, ◌*◌, ◌≤◌}
use Prim.Native.Char.{code}
use Rattle.std.proofs.Math.ListN.{length}
use Rattle.ground.specs.Search.{by_test}
use Rattle.stream.specs.declared.Request.{Request}
use Rattle.stream.specs.declared.Field.{Field}
use Rattle.stream.specs.declared.Field.TheVariants.{Whole, Cut, End}
use Rattle.stream.specs.Fields.{Bytes, field, part, field_at}
use Rattle.stream.proofs.FieldLaws.{field-length}
use Rattle.stream.specs.Grammar.{spelled}
use Rattle.printout.specs.Text.{letters}
use Rattle.printout.specs.Digits.{hex_byte, decimal}
use Rattle.printout.specs.Lines.{shown, line}
use Rattle.printout.specs.Rows.{Row, beside}
use Rattle.words.specs.declared.Expected.{Expected}
use Rattle.words.specs.declared.Expected.TheVariants.{Name, Identifier, Interchange, Function, Block, Bytes as SomeBytes, RawBytes as InHex, FewerBytes, ClosingQuote, SpaceAfterQuote, NothingMore}
use Rattle.names.specs.declared.Says.{Says}
use Rattle.names.specs.declared.Says.TheVariants.{Nothing, Command, Raw, Help, Who, Quit}
use Rattle.names.specs.Names.{names, name}
use Rattle.values.specs.Sources.{meant}
use Rattle.reader.specs.Line.{Line, wrong_line}
use Rattle.reader.specs.Reader.{read_line}
use Rattle.grammar.specs.Lines.{Piece, plain, text, Lines}
use Rattle.grammar.specs.Says.{InPairs, Commands, RawBytes, Reads}
use Rattle.grammar.proofs.LetterLaws.{both}
use Rattle.grammar.proofs.BytesLaws.{unhex-length}
use Rattle.grammar.proofs.Exact.{fits_reads}
use Rattle.grammar.proofs.Streamed.{line_short}
use Rattle.grammar.proofs.Sayable.{hex-length}
use Rattle.grammar.proofs.Room.{twenty}
use Rattle.state.specs.declared.Holdings.{Holdings}
use Rattle.state.specs.declared.Place.{Place}
use Rattle.state.specs.State.{holders}
use Rattle.rules.specs.World.{World}
use Rattle.rules.specs.Step.{number_of}
use Rattle.talk.specs.Replies.{refused, replies, meaning, words_of}
use Rattle.talk.specs.Help.{help}
use Rattle.talk.specs.Who.{held, user_line, place_line, place_lines, who}
use Rattle.session.specs.Run.{Answered, answer_to, line_of, go_on, carry_on, ran_from}
use Rattle.clerk.specs.Replies.{reply}
use Rattle.clerk.specs.Wrong.{expected_text, column, wrong_text}
use Rattle.clerk.specs.Told.{told_for, told}
use Rattle.clerk.specs.Heard.{wrong_before, cut_at, heard}
use Rattle.clerk.specs.Spoken.{spoken}
use Rattle.readings.specs.InTurn.{sent}
use Rattle.sittings.specs.Answers.{bytes_of}
use Rattle.sittings.proofs.ByLine.{spoken_as, unspoken, command_spoken}
use Rattle.sittings.proofs.Outputs.{same-output, shown_short}
use Rattle.sittings.specs.Room.{Each, Kept}

-- ---- an answer

-- of rows whose words are short, those beside any number are
short_rows : ℕ → List Row → Bool
short_rows m [] = true
short_rows m (r ∷ rs) = cond (leb (length r.words) m) (short_rows m rs) false

beside_short : (m n : ℕ) (rs : List Row) (others : List ℕ) → short_rows m rs ≡ true → length others ≤ m → length (beside n rs others) ≤ m
unfolding short_rows
beside_short m n [] others h k = k
beside_short m n (r ∷ rs) others h k =
    let x = both (leb (length r.words) m) (short_rows m rs) h in
    by_test (eqb n r.number) (λ e. rw e (leb-true (length r.words) m x.0)) (λ e. rw e (beside_short m n rs others x.1 k))

words-length : (tag n : ℕ) → length (words_of tag n) ≤ 217
unfolding words_of meaning name refused short_rows
words-length tag n =
    let a = beside_short 11 tag names (letters "unknown tag") refl (omega arith) in
    let b = beside_short 200 n replies (letters "refused") refl (omega arith) in
    omega (arith, a, b, length-append (name tag) (code " " ∷ (meaning n ++ (code "\n" ∷ []))), length-append (meaning n) (code "\n" ∷ []))

shown-length : (bs : Bytes) → length (shown bs) ≤ 2 * length bs + 1
unfolding shown
shown-length [] = omega arith
shown-length (b ∷ bs) = omega (arith, hex-length (b ∷ bs))

line-length : (ordinal tag n : ℕ) (bs : Bytes) → length (line ordinal tag n bs) ≤ 47 + 2 * length bs
unfolding line hex_byte
line-length ordinal tag n bs =
    let end = shown bs ++ (10 ∷ []) in
    let rest = decimal n ++ (32 ∷ end) in
    let tagged : List ℕ = 32 ∷ (hex_byte tag ++ (32 ∷ rest)) in
    omega (arith, twenty ordinal, twenty n, shown-length bs, length-append (shown bs) (10 ∷ []), length-append (decimal n) (32 ∷ end), length-append (decimal ordinal) tagged)

pub reply_room : (ordinal : ℕ) (a : Answered) → length (bytes_of a) ≤ 32768 → length (reply ordinal a) ≤ 70000
unfolding reply
reply_room ordinal a h =
    let n = number_of a.told.answer in
    omega (arith, h, length-append (line_of ordinal a) (words_of a.tag n), line-length ordinal a.tag n (bytes_of a), words-length a.tag n)

-- ---- what the desk says itself

expected_length : (e : Expected) → length (expected_text e) ≤ 70
unfolding expected_text
expected_length Name = omega arith
expected_length Identifier = omega arith
expected_length Interchange = omega arith
expected_length Function = omega arith
expected_length Block = omega arith
expected_length SomeBytes = omega arith
expected_length InHex = omega arith
expected_length FewerBytes = omega arith
expected_length ClosingQuote = omega arith
expected_length SpaceAfterQuote = omega arith
expected_length NothingMore = omega arith

pub wrong_room : (number place : ℕ) (e : Expected) → length (wrong_text number place e) ≤ 70000
unfolding wrong_text
wrong_room number place e =
    let end = expected_text e ++ (code "\n" ∷ []) in
    let from = decimal (column place) ++ (letters ": expected " ++ end) in
    omega (
      arith,
      twenty number,
      twenty (column place),
      expected_length e,
      length-append (expected_text e) (code "\n" ∷ []),
      length-append (decimal (column place)) (letters ": expected " ++ end),
      length-append (decimal number) (letters ", column " ++ from),
    )

help-length : length help ≤ 70000
unfolding help
help-length = leb-true (length help) 70000 refl

held-length : (what : List ℕ) (present : Bool) → length (held what present) ≡ length what + 7
unfolding held
held-length what true = length-append what (letters "present")
held-length what false = length-append what (letters "missing")

user_length : (u : ℕ) (h : Holdings) → length (user_line u h) ≤ 120
unfolding user_line
user_length u h =
    let a = held (letters ": transmit key ") h.transmit.key.present in
    let b = held (letters ", receive key ") h.receive.key.present in
    let c = held (letters ", transmit IV ") h.transmit.vector.present in
    let d = held (letters ", receive IV ") h.receive.vector.present in
    let end : List ℕ = code "\n" ∷ [] in
    omega (
      arith,
      twenty u,
      held-length (letters ": transmit key ") h.transmit.key.present,
      held-length (letters ", receive key ") h.receive.key.present,
      held-length (letters ", transmit IV ") h.transmit.vector.present,
      held-length (letters ", receive IV ") h.receive.vector.present,
      length-append d end,
      length-append c (d ++ end),
      length-append b (c ++ (d ++ end)),
      length-append a (b ++ (c ++ (d ++ end))),
      length-append (decimal u) (a ++ (b ++ (c ++ (d ++ end)))),
    )

place_length : (p : Place) → length (place_line p) ≤ 120
unfolding place_line
place_length p = by_test p.taken (λ e. rw e (user_length p.user p.holdings)) (λ e. rw e (omega arith))

places_length : (ps : List Place) → length (place_lines ps) ≤ 120 * length ps
unfolding place_lines
places_length [] = omega arith
places_length (p ∷ ps) = omega (arith, place_length p, places_length ps, length-append (place_line p) (place_lines ps))

who-length : (ps : List Place) → length ps ≤ 16 → length (who ps) ≤ 70000
unfolding who
who-length ps h = omega (arith, h, places_length ps, twenty (length (holders ps)), length-append (decimal (length (holders ps))) (letters " of 16\n" ++ place_lines ps))

says_length : (s : Says) (ps : List Place) → length ps ≤ 16 → length (told_for s ps) ≤ 70000
says_length Nothing ps h = omega arith
says_length Command ps h = omega arith
says_length Raw ps h = omega arith
says_length Help ps h = help-length
says_length Who ps h = who-length ps h
says_length Quit ps h = omega arith

pub told_room : (number : ℕ) (said : Line) (ps : List Place) → length ps ≤ 16 → length (told number said ps) ≤ 70000
unfolding told
told_room number said ps h =
    by_test said.fits (λ e. rw e (says_length said.says ps h)) (λ e. rw e (wrong_room number said.at said.expected))

-- ---- a line's bytes

-- hex digits in pairs are twice as many letters as bytes
pairs_length : (ps : List Piece) (l : List ℕ) (d : Bytes) → Lines ps l → InPairs ps d → 2 * length d ≤ length l
pairs_length [] l d line e = omega (arith, ap length e)
pairs_length (plain w ∷ ps) l d line x =
    let rest = line.0 in
    let b = line.1 in
    omega (
      arith,
      pairs_length ps rest x.1 line.2 x.3,
      ap length x.4,
      length-append x.0 x.1,
      ap length x.2.value,
      unhex-length w,
      ap length b.whole,
      length-append b.blanks (w ++ rest),
      length-append w rest,
    )
pairs_length (text w ∷ ps) l d line x = absurd x

raw_length : (l : List ℕ) (d : Bytes) → RawBytes l d → 2 * length d ≤ length l
raw_length l d h =
    let b = h.line.1 in
    let rest = h.line.0 in
    omega (arith, pairs_length h.words rest d h.line.2 h.bytes, ap length b.whole, length-append b.blanks (letters "!" ++ rest))

command_length : (kept ends l : List ℕ) (a : Request) (d : Bytes) → Commands kept ends l a d → length (spoken (read_line l kept ends) l kept) ≤ 65538
unfolding sent
command_length kept ends l a d h =
    let v = spelled h.arguments a d in
    omega (arith, ap length (command_spoken kept ends l a d h), length-append (field a.tag v) [], field-length a.tag v, line_short kept ends l a d h)

-- a line that has more letters than are read does not fit
longer_wrong : (l kept ends : List ℕ) → (heard true l kept ends).fits ≡ false
unfolding heard cut_at wrong_before wrong_line
longer_wrong l kept ends =
    let r = read_line l kept ends in
    by_test r.fits
    (λ e. rw e)
    (λ e. by_test (ltb r.at (length l)) (λ t. rw (e, t)) (λ t. rw (e, t)))

module _ (l kept ends : List ℕ) (h : length l ≤ 131072) where
  abbrev read : Line
  read = read_line l kept ends

  by_says : (s : Says) → read.fits ≡ true → read.says ≡ s → Reads kept ends l s read.asked (meant read.bytes l kept) → length (spoken read l kept) ≤ 65538
  by_says Nothing f e x = omega (arith, ap length (spoken_as read l kept Nothing f e))
  by_says Command f e x = command_length kept ends l read.asked (meant read.bytes l kept) x
  by_says Raw f e x = omega (arith, h, ap length (spoken_as read l kept Raw f e), raw_length l (meant read.bytes l kept) x.0)
  by_says Help f e x = omega (arith, ap length (spoken_as read l kept Help f e))
  by_says Who f e x = omega (arith, ap length (spoken_as read l kept Who f e))
  by_says Quit f e x = omega (arith, ap length (spoken_as read l kept Quit f e))

  -- of a line that has at most 131072 letters, or of which these are read
  pub spoken_room : (longer : Bool) → length (spoken (heard longer l kept ends) l kept) ≤ 65538
  unfolding heard
  spoken_room false =
      by_test read.fits
      (λ f. by_says read.says f refl (fits_reads l kept ends f))
      (λ f. omega (arith, ap length (unspoken read l kept f)))
  spoken_room true = omega (arith, ap length (unspoken (heard true l kept ends) l kept (longer_wrong l kept ends)))

module _ (s : Bytes) where
  one_kept : (n : ℕ) → ((w : World) (out : Bytes) (at : ℕ) → length out ≤ 32768 → Kept out (carry_on n s w out at))
      → (w : World) (out : Bytes) (f : Field) → length out ≤ 32768 → Kept out (go_on (carry_on n s) w out s f)
  one_kept n ih w out (Whole tag start end) h =
      let v = part start end s in
      let r = answer_to w tag v out in
      let size = same-output w tag v out in
      let rest = ih r.world r.answered.output end (omega (arith, h, size)) in
      (rest.0 ∙ size, (shown_short w tag v out 32768 (omega arith) h, rest.1))
  one_kept n ih w out (Cut tag) h = (refl, (omega arith, tt))
  one_kept n ih w out End h = (refl, tt)

  all_kept : (n : ℕ) (w : World) (out : Bytes) (at : ℕ) → length out ≤ 32768 → Kept out (carry_on n s w out at)
  unfolding carry_on
  all_kept zero w out at h = (refl, tt)
  all_kept (suc n) w out at h = one_kept n (all_kept n) w out (field_at s at) h

  pub answers_short : (w : World) (out : Bytes) (at : ℕ) → length out ≤ 32768
      → (length (ran_from s w out at).output ≡ length out) × Each (λ a. length (bytes_of a) ≤ 32768) (ran_from s w out at).answers
  unfolding ran_from
  answers_short w out at h = all_kept (length s) w out at h
