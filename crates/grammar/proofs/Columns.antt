-- Where a bad line is wrong: "the first column at which it stops being one" lies within the line or just past its end.
use Rattle.std.specs.Prelude.{◌≡◌, Bool, cond, eqb, ltb, leb, get_or, drop}
use Rattle.std.proofs.Math.Path.{refl, ap}
use Rattle.std.proofs.Common.{sym, ◌∙◌, drop-drop}
use Rattle.std.proofs.Math.Bool.{true, false}
use mathlib.Core.List.{List, [], ◌∷◌}
use Prim.Native.Nat.{ℕ, zero, suc, ◌+◌, ◌-◌, ◌/◌, ◌%◌, ◌≤◌, ◌<◌}
use Prim.Native.Char.{code}
use native.Mathlib.Omega.{arith}
use Rattle.std.proofs.Math.ListN.{length}
use borrow.Author.Tests.{eqb-true, eqb-false, ltb-true, ltb-false, leb-true, leb-false}
use Rattle.ground.specs.Search.{by_test}
use Rattle.names.specs.declared.Says.{Says}
use Rattle.names.specs.declared.Says.TheVariants.{Nothing, Command, Raw, Help, Who, Quit}
use Rattle.names.specs.Names.{start_of}
use Rattle.printout.specs.Text.{letters}
use Rattle.reader.specs.Line.{Line, wrong_line, so_far}
use Rattle.reader.specs.Command.{after, took_value, took_word, read_word, read_words, nothing_else, ended_line, command_line}
use Rattle.reader.specs.Raw.{raw_hex, raw_word, raw_turn, raw_turns, raw_start, raw_line}
use Rattle.reader.specs.Reader.{alone_line, says_line, started_line, first_word, read_line}
use Rattle.stream.specs.Commands.{arguments_of}
use Rattle.std.specs.Prelude.{unwrap_or}
use Rattle.stream.specs.Fields.{part}
use Rattle.values.specs.declared.Source.{Source}
use Rattle.values.specs.Numbers.{decimal_value, up_to}
use Rattle.values.specs.Sources.{answer_source}
use Rattle.values.specs.Values.{Value, fitting, wrong, number_found, number_value, function_letter, function_value, hex_block, data_of, hex_data, hex_for, answer_block, answer_data, answer_for, expected_bytes, answer_found, answer_value, bytes_value}
use Rattle.values.specs.Fields.{expected_for, plain_value, text_value, value_of}
use Rattle.words.specs.declared.Class.TheVariants.{Blank, Plain, Text, Digit, Hex}
use Rattle.words.specs.declared.Expected.{Expected}
use Rattle.words.specs.declared.Expected.TheVariants.{Name, Identifier, Interchange, Function, Block, Bytes, RawBytes, FewerBytes, ClosingQuote, SpaceAfterQuote, NothingMore}
use Rattle.words.specs.declared.Word.{Word}
use Rattle.words.specs.declared.Word.TheVariants.{PlainWord, TextWord, Broken, NoWord}
use Rattle.words.specs.Letters.{blank_letter, is_in, front, run_end, front-on, front_stop, front_end, run_within, letter_there}
use Rattle.words.specs.Split.{stops, text_at, starts_at, word_at}
use Rattle.grammar.proofs.LetterLaws.{front-after}
use Rattle.grammar.specs.Columns.{of_text, AfterQuote, Placed}

-- of whichever is chosen
chosen : {A : Type 0} (P : A → Type 0) (b : Bool) (x y : A) → (b ≡ true → P x) → (b ≡ false → P y) → P (cond b x y)
chosen P true x y f g = f refl
chosen P false x y f g = g refl

-- what is expected of a field is neither of the two
bytes_no_text : (eight : Bool) → of_text (expected_bytes eight) ≡ 0
bytes_no_text true = refl
bytes_no_text false = refl

field_no_text : (k : ℕ) → of_text (expected_for k) ≡ 0
unfolding expected_for
field_no_text k =
    let P : Expected → Type 0 = λ x. of_text x ≡ 0 in
    chosen P (eqb k 0x81) _ _ (λ e. refl)
    (λ e. chosen P (eqb k 0x82) _ _ (λ e. refl)
    (λ e. chosen P (eqb k 0x83) _ _ (λ e. refl)
    (λ e. chosen P (eqb k 0x84) _ _ (λ e. refl)
    (λ e. chosen P (eqb k 0x85) _ _ (λ e. refl)
    (λ e. chosen P (eqb k 0x86) _ _ (λ e. refl)
    (λ e. chosen P (eqb k 0x87) _ _ (λ e. refl) (λ e. refl)))))))

module _ (l : List ℕ) where
  -- of all else that is expected, the place lies within the line, and that is all
  usual : (at : ℕ) (x : Expected) → of_text x ≡ 0 → at ≤ length l → Placed l at x
  usual at x e h =
      record { within = h; closing = λ q. absurd (omega (arith, ap of_text q, e)); spaced = λ q. absurd (omega (arith, ap of_text q, e)) }

  -- ---- the next word

  -- what a word tells of the line lies within it
  abbrev Lies : Word → Type 0
  Lies (PlainWord a z) = (a ≤ length l) × (z ≤ length l)
  Lies (TextWord a z) = (a ≤ length l) × (z ≤ length l)
  Lies (Broken at x) = Placed l at x
  Lies (NoWord at) = at ≤ length l

  -- the letter at which a text ends is a quote
  quoted : (s : ℕ) → run_end Text l s < length l → get_or l (run_end Text l s) 0 ≡ code "\""
  unfolding is_in
  quoted s h =
      let z = run_end Text l s in
      let none : front Text (drop z l) ≡ 0 = ap (front Text) (sym (drop-drop (front Text (drop s l)) s l)) ∙ front-after Text (drop s l) in
      by_test (eqb (get_or l z 0) (code "\""))
      (λ e. eqb-true (get_or l z 0) (code "\"") e)
      (λ e. absurd (let on = front-on Text l z h (rw e) in omega (arith, on, none)))

  -- where a plain word does not stop, one of its letters stands
  goes_on : (i : ℕ) → stops l i ≡ false → (i < length l) × (is_in Plain (get_or l i 0) ≡ true)
  unfolding stops
  goes_on i e =
      let ne = eqb-false (run_end Plain l i) i e in
      let there : i < length l = by_test (ltb i (length l)) (λ t. ltb-true i (length l) t) (λ f. absurd (ne (sym (front_end Plain l i (ltb-false i (length l) f))))) in
      (there, by_test (is_in Plain (get_or l i 0)) (λ t. t) (λ f. absurd (ne (sym (front_stop Plain l i there f)))))

  -- a text whose opening quote stands at s
  text_lies : (s : ℕ) → s < length l → get_or l s 0 ≡ code "\"" → Lies (text_at l (s + 1))
  unfolding text_at
  text_lies s h o =
      let z = run_end Text l (s + 1) in
      let w : z ≤ length l = run_within Text l (s + 1) (omega (arith, h)) in
      chosen Lies (leb (length l) z) _ _
      (λ e. let k = leb-true (length l) z e in record { within = w; closing = λ q. omega (arith, k, w); spaced = λ q. absurd (omega (arith, ap of_text q)) })
      (λ e. let k = leb-false (length l) z e in
      chosen Lies (stops l (z + 1)) _ _ (λ f. (omega (arith, h), w))
      (λ f. let g = goes_on (z + 1) f in
      record {
        within = omega (arith, k);
        closing = λ q. absurd (omega (arith, ap of_text q));
        spaced = λ q. record { quote = s; opened = o; closed = quoted (s + 1) k; next = refl; there = g.0; more = g.1 };
      }))

  starts_lies : (s : ℕ) → s ≤ length l → Lies (starts_at l s)
  unfolding starts_at
  starts_lies s h =
      chosen Lies (leb (length l) s) _ _ (λ e. h)
      (λ e. chosen Lies (eqb (get_or l s 0) (code "#")) _ _ (λ f. h)
      (λ f. chosen Lies (eqb (get_or l s 0) (code "\"")) _ _
      (λ g. text_lies s (leb-false (length l) s e) (eqb-true (get_or l s 0) (code "\"") g))
      (λ g. (h, run_within Plain l s h))))

  word_lies : (at : ℕ) → at ≤ length l → Lies (word_at l at)
  unfolding word_at
  word_lies at h = starts_lies (run_end Blank l at) (run_within Blank l at h)

  -- ---- its value

  -- a value that fits has the place 0
  abbrev Sits : Value → Type 0
  Sits v = Placed l v.at v.expected

  fitting_sits : (n : ℕ) (s : Source) → Sits (fitting n s)
  unfolding fitting
  fitting_sits n s = usual 0 NothingMore refl (omega arith)

  broken_sits : (at : ℕ) (x : Expected) → Placed l at x → Sits (wrong at x)
  unfolding wrong
  broken_sits at x h = h

  wrong_sits : (at : ℕ) (x : Expected) → of_text x ≡ 0 → at ≤ length l → Sits (wrong at x)
  wrong_sits at x e h = broken_sits at x (usual at x e h)

  data_sits : (a n : ℕ) (s : Source) → a ≤ length l → Sits (data_of a n s)
  unfolding data_of
  data_sits a n s h = chosen Sits (leb n 65500) _ _ (λ e. fitting_sits 0 s) (λ e. wrong_sits a FewerBytes refl h)

  -- a plain word from a to z
  module _ (a z : ℕ) (start : a ≤ length l) (end : z ≤ length l) where
    number_sits : (x : Expected) (limit : ℕ) → of_text x ≡ 0 → Sits (number_value x limit l a z)
    unfolding number_value number_found
    number_sits x limit e =
        let u = up_to limit (decimal_value (part a z l)) in
        chosen Sits (ltb (run_end Digit l a) z) _ _ (λ f. wrong_sits (run_end Digit l a) x e (run_within Digit l a start))
        (λ f. chosen Sits u.within _ _ (λ g. fitting_sits u.number _) (λ g. wrong_sits a x e start))

    function_sits : Sits (function_value l a z)
    unfolding function_value
    function_sits =
        let no = wrong_sits a Function refl start in
        chosen Sits (eqb (z - a) 1) _ _ (λ e. chosen Sits (function_letter (get_or l a 0)) _ _ (λ f. fitting_sits (get_or l a 0) _) (λ f. no)) (λ e. no)

    hex_sits : (eight : Bool) → Sits (hex_for eight l a z)
    unfolding hex_block hex_data
    hex_sits true =
        let r = run_within Hex l a start in
        chosen Sits (ltb (run_end Hex l a - a) 16) _ _ (λ e. wrong_sits (run_end Hex l a) Block refl r)
        (λ e. let k = ltb-false (run_end Hex l a - a) 16 e in
        chosen Sits (eqb (z - a) 16) _ _ (λ f. fitting_sits 0 _) (λ f. wrong_sits (a + 16) Block refl (omega (arith, k, r))))
    hex_sits false =
        chosen Sits (ltb (run_end Hex l a) z) _ _ (λ e. wrong_sits (run_end Hex l a) Bytes refl (run_within Hex l a start))
        (λ e. chosen Sits (eqb ((z - a) % 2) 0) _ _ (λ f. data_sits a ((z - a) / 2) _ start) (λ f. wrong_sits z Bytes refl end))

    answer_sits : (eight : Bool) (s : Source) → Sits (answer_for eight a s)
    unfolding answer_block answer_data
    answer_sits true s = chosen Sits (eqb (s.end - s.start) 8) _ _ (λ e. fitting_sits 0 s) (λ e. wrong_sits a Block refl start)
    answer_sits false s = chosen Sits (ltb s.start s.end) _ _ (λ e. data_sits a (s.end - s.start) s start) (λ e. wrong_sits a Bytes refl start)

    bytes_sits : (eight : Bool) (m : ℕ) (ends : List ℕ) → Sits (bytes_value eight m ends l a z)
    unfolding bytes_value answer_value answer_found
    bytes_sits eight m ends =
        let no : (at : ℕ) → at ≤ length l → Sits (wrong at (expected_bytes eight)) = λ at h. wrong_sits at (expected_bytes eight) (bytes_no_text eight) h in
        let u = up_to 4294967295 (decimal_value (part (a + 1) z l)) in
        chosen Sits (eqb (get_or l a 0) (code "$")) _ _
        (λ e. let there : a < length l = letter_there l a 35 (eqb-true (get_or l a 0) (code "$") e) in
        let b : a + 1 ≤ length l = omega (arith, there) in
        chosen Sits (ltb (run_end Digit l (a + 1)) z) _ _ (λ f. no (run_end Digit l (a + 1)) (run_within Digit l (a + 1) b))
        (λ f. chosen Sits (leb z (a + 1)) _ _ (λ g. no (a + 1) b)
        (λ g. chosen Sits u.within _ _ (λ t. answer_sits eight (answer_source m ends u.number)) (λ t. no a start))))
        (λ e. hex_sits eight)

    plain_sits : (k m : ℕ) (ends : List ℕ) → Sits (plain_value k m ends l a z)
    unfolding plain_value
    plain_sits k m ends =
        chosen Sits (eqb k 0x81) _ _ (λ e. number_sits Identifier 4294967295 refl)
        (λ e. chosen Sits (eqb k 0x82) _ _ (λ e. number_sits Identifier 4294967295 refl)
        (λ e. chosen Sits (eqb k 0x83) _ _ (λ e. number_sits Interchange 255 refl)
        (λ e. chosen Sits (eqb k 0x84) _ _ (λ e. function_sits)
        (λ e. chosen Sits (eqb k 0x85) _ _ (λ e. bytes_sits true m ends)
        (λ e. chosen Sits (eqb k 0x86) _ _ (λ e. bytes_sits true m ends)
        (λ e. chosen Sits (eqb k 0x87) _ _ (λ e. bytes_sits false m ends) (λ e. wrong_sits a NothingMore refl start)))))))

  field_sits : (k at : ℕ) → at ≤ length l → Sits (wrong at (expected_for k))
  field_sits k at h = wrong_sits at (expected_for k) (field_no_text k) h

  value_sits : (k m : ℕ) (ends : List ℕ) (w : Word) → Lies w → Sits (value_of k l m ends w)
  unfolding value_of text_value
  value_sits k m ends (PlainWord a z) h = plain_sits a z h.0 h.1 k m ends
  value_sits k m ends (TextWord a z) h =
      let b : a - 1 ≤ length l = omega (arith, h.0) in
      chosen Sits (eqb k 0x87) _ _ (λ e. data_sits (a - 1) (z - a) _ b) (λ e. field_sits k (a - 1) b)
  value_sits k m ends (Broken at x) h = broken_sits at x h
  value_sits k m ends (NoWord at) h = field_sits k at h

  -- ---- the line

  -- a line read so far goes on at its place, or is wrong there
  abbrev Rests : Line → Type 0
  Rests r = Placed l r.at r.expected

  broken_rests : (at : ℕ) (x : Expected) → Placed l at x → Rests (wrong_line at x)
  unfolding wrong_line
  broken_rests at x h = h

  wrong_rests : (at : ℕ) (x : Expected) → of_text x ≡ 0 → at ≤ length l → Rests (wrong_line at x)
  wrong_rests at x e h = broken_rests at x (usual at x e h)

  so_far_rests : (s : Says) (t at : ℕ) (b : Source) → at ≤ length l → Rests (so_far s t at b)
  unfolding so_far
  so_far_rests s t at b h = usual at NothingMore refl h

  after_lies : (w : Word) → Lies w → after (length l) w ≤ length l
  unfolding after
  after_lies (PlainWord a z) h = h.1
  after_lies (TextWord a z) h = chosen (λ n. n ≤ length l) (ltb z (length l)) _ _ (λ e. let k = ltb-true z (length l) e in omega (arith, k)) (λ e. omega arith)
  after_lies (Broken at x) h = omega arith
  after_lies (NoWord at) h = h

  module _ (kept ends : List ℕ) where
    took_rests : (r : Line) (k : ℕ) (w : Word) → Lies w → Rests (took_word l kept ends r k w)
    unfolding took_word took_value
    took_rests r k w h =
        let v = value_of k l (length kept) ends w in
        chosen Rests v.fits _ _ (λ e. usual (after (length l) w) NothingMore refl (after_lies w h)) (λ e. broken_rests v.at v.expected (value_sits k (length kept) ends w h))

    word_rests : (r : Line) (k : ℕ) → Rests r → Rests (read_word l kept ends r k)
    unfolding read_word
    word_rests r k h =
        chosen Rests r.fits _ _ (λ f. took_rests r k (word_at l r.at) (word_lies r.at h.within)) (λ f. h)

    words_rest : (r : Line) (ks : List ℕ) → Rests r → Rests (read_words l kept ends r ks)
    unfolding read_words
    words_rest r [] h = h
    words_rest r (k ∷ ks) h = words_rest (read_word l kept ends r k) ks (word_rests r k h)

  nothing_rests : (r : Line) (w : Word) → Rests r → Lies w → Rests (nothing_else r w)
  unfolding nothing_else
  nothing_rests r (PlainWord a z) h k = wrong_rests a NothingMore refl k.0
  nothing_rests r (TextWord a z) h k = wrong_rests (a - 1) NothingMore refl (omega (arith, k.0))
  nothing_rests r (Broken at x) h k = broken_rests at x k
  nothing_rests r (NoWord at) h k = h

  ended_rests : (r : Line) → Rests r → Rests (ended_line l r)
  unfolding ended_line
  ended_rests r h = chosen Rests r.fits _ _ (λ e. nothing_rests r (word_at l r.at) h (word_lies r.at h.within)) (λ e. h)

  -- raw bytes
  raw_word_rests : (r : Line) (w : Word) → Lies w → Rests (raw_word l r w)
  unfolding raw_word raw_hex
  raw_word_rests r (PlainWord a z) h =
      chosen Rests (ltb (run_end Hex l a) z) _ _ (λ e. wrong_rests (run_end Hex l a) RawBytes refl (run_within Hex l a h.0))
      (λ e. chosen Rests (eqb ((z - a) % 2) 0) _ _ (λ f. so_far_rests Raw 0 z r.bytes h.1) (λ f. wrong_rests z RawBytes refl h.1))
  raw_word_rests r (TextWord a z) h = wrong_rests (a - 1) RawBytes refl (omega (arith, h.0))
  raw_word_rests r (Broken at x) h = broken_rests at x h
  raw_word_rests r (NoWord at) h = so_far_rests Raw 0 at r.bytes h

  turns_rest : (n : ℕ) (r : Line) → Rests r → Rests (raw_turns l n r)
  unfolding raw_turns raw_turn
  turns_rest zero r h = h
  turns_rest (suc n) r h = turns_rest n (raw_turn l r) (chosen Rests r.fits _ _ (λ e. raw_word_rests r (word_at l r.at) (word_lies r.at h.within)) (λ e. h))

  raw_rests : (at : ℕ) (w : Word) → at ≤ length l → Lies w → Rests (raw_start l at w)
  unfolding raw_start
  raw_rests at (PlainWord a z) h k = turns_rest (length l) _ (so_far_rests Raw 0 at _ h)
  raw_rests at (TextWord a z) h k = wrong_rests (a - 1) RawBytes refl (omega (arith, k.0))
  raw_rests at (Broken b x) h k = broken_rests b x k
  raw_rests at (NoWord b) h k = wrong_rests b RawBytes refl k

  -- by the first word
  alone_rests : (s : Says) (at : ℕ) → at ≤ length l → Rests (alone_line s l at)
  unfolding alone_line
  alone_rests s at h = ended_rests _ (so_far_rests s 0 at _ h)

  says_rests : (kept ends : List ℕ) (at t : ℕ) (s : Says) → at ≤ length l → Rests (says_line l kept ends at t s)
  unfolding says_line command_line raw_line
  says_rests kept ends at t Nothing h = alone_rests Nothing at h
  says_rests kept ends at t Command h = ended_rests _ (words_rest kept ends _ (unwrap_or (arguments_of t) []) (so_far_rests Command t at _ h))
  says_rests kept ends at t Raw h = raw_rests at (word_at l at) h (word_lies at h)
  says_rests kept ends at t Help h = alone_rests Help at h
  says_rests kept ends at t Who h = alone_rests Who at h
  says_rests kept ends at t Quit h = alone_rests Quit at h

  first_rests : (kept ends : List ℕ) (w : Word) → Lies w → Rests (first_word l kept ends w)
  unfolding first_word started_line
  first_rests kept ends (PlainWord a z) h =
      let s = start_of (part a z l) in
      chosen Rests s.known _ _ (λ e. says_rests kept ends z s.tag s.says h.1) (λ e. wrong_rests a Name refl h.0)
  first_rests kept ends (TextWord a z) h = wrong_rests (a - 1) Name refl (omega (arith, h.0))
  first_rests kept ends (Broken at x) h = broken_rests at x h
  first_rests kept ends (NoWord at) h = so_far_rests Nothing 0 at _ h

  line_rests : (kept ends : List ℕ) → Rests (read_line l kept ends)
  unfolding read_line
  line_rests kept ends = first_rests kept ends (word_at l 0) (word_lies 0 (omega arith))

-- ---- the theorems

-- columns are counted from 1: the column is from 1 to the line's length and one
pub column-within : (l kept ends : List ℕ) → (read_line l kept ends).fits ≡ false → (read_line l kept ends).at ≤ length l
column-within l kept ends h = (line_rests l kept ends).within

-- and can be past the end: a quote alone
pub just_past : ((read_line (letters "\"") [] []).fits ≡ false) × ((read_line (letters "\"") [] []).at ≡ 1)
unfolding read_line first_word word_at starts_at text_at front is_in blank_letter wrong_line
just_past = (refl, refl)

-- "a closing quote: at the line's end"
pub closing_at_end : (l kept ends : List ℕ) → (read_line l kept ends).expected ≡ ClosingQuote → (read_line l kept ends).at ≡ length l
closing_at_end l kept ends e = (line_rests l kept ends).closing e

-- "a space after the quote: after the closing quote"
pub space-after_quote : (l kept ends : List ℕ) → (read_line l kept ends).expected ≡ SpaceAfterQuote → AfterQuote l (read_line l kept ends).at
space-after_quote l kept ends e = (line_rests l kept ends).spaced e
