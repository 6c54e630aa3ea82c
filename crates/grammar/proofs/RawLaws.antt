-- Raw bytes after their mark: the reader takes exactly the words of pairs of hex digits.
use Rattle.std.specs.Prelude.{◌≡◌, false, cond, not, eqb, drop}
use Rattle.std.proofs.Math.Path.{refl, sym, ap, ap₂, subst}
use Rattle.std.proofs.Common.{◌∙◌, length-append, length-drop}
use Rattle.std.proofs.Math.Bool.{true, true≢false}
use Rattle.std.proofs.lemmas.Bool.{false≢true}
use mathlib.Core.List.{List, [], ◌∷◌, ◌++◌}
use Prim.Native.Nat.{ℕ, zero, suc, ◌+◌, ◌-◌, ◌%◌, ◌≤◌, ◌<◌}
use native.Mathlib.Omega.{arith}
use Rattle.std.proofs.Math.ListN.{length}
use Rattle.std.proofs.Math.Seq.{drop-length}
use borrow.Author.Tests.{eqb-true, eq-eqb}
use Rattle.ground.specs.Search.{by_test}
use Rattle.ground.specs.Lists.{none as empty}
use Rattle.names.specs.declared.Says.TheVariants.{Raw}
use Rattle.reader.specs.Line.{Line, wrong_line, so_far}
use Rattle.reader.specs.Raw.{raw_hex, raw_word, raw_turn, raw_turns, raw_start, raw_line}
use Rattle.stream.specs.Fields.{Bytes}
use Rattle.values.specs.declared.Origin.TheVariants.{HexWords}
use Rattle.values.specs.declared.Source.{Source}
use Rattle.values.specs.Sources.{unhex, word_bytes, raw_next, raw_from, source}
use Rattle.words.specs.declared.Class.TheVariants.{Hex}
use Rattle.words.specs.declared.Expected.TheVariants.{RawBytes as SomeRaw}
use Rattle.words.specs.declared.Word.{Word}
use Rattle.words.specs.declared.Word.TheVariants.{PlainWord, TextWord, Broken, NoWord}
use Rattle.words.specs.Letters.{front}
use Rattle.words.specs.Split.{word_at}
use Rattle.grammar.specs.Lines.{every, Piece, plain, text, formed, comment, Begins, Wordless, Lines}
use Rattle.grammar.specs.Means.{Pairs}
use Rattle.grammar.specs.Says.{InPairs}
use Rattle.grammar.proofs.LetterLaws.{part_there, rest_there}
use Rattle.grammar.specs.LineLaws.{Next, none, found, broken}
use Rattle.grammar.proofs.LineLaws.{word_none, Stands, begins_stands, look}
use Rattle.grammar.proofs.Splitting.{not-both}
use Rattle.grammar.proofs.NumberLaws.{run_ends}

some_letter : (w : List ℕ) → formed (plain w) ≡ true → 0 < length w
unfolding formed
some_letter [] f = absurd (false≢true f)
some_letter (c ∷ cs) f = omega arith

module _ (l : List ℕ) (bytes : Source) where
  -- read up to a place
  abbrev up_to : ℕ → Line
  up_to at = so_far Raw 0 at bytes

  turn_by : (at : ℕ) (v : Word) → word_at l at ≡ v → raw_turn l (up_to at) ≡ raw_word l (up_to at) v
  unfolding raw_turn so_far
  turn_by at v e = ap (raw_word l (up_to at)) e

  bytes_by : (n at : ℕ) (v : Word) → word_at l at ≡ v → raw_from (suc n) l at ≡ word_bytes l v ++ raw_from n l (raw_next (length l) v)
  unfolding raw_from
  bytes_by n at v e = ap (λ (x : Word). word_bytes l x ++ raw_from n l (raw_next (length l) x)) e

  -- no line that failed fits again
  stuck : (n : ℕ) (r : Line) → r.fits ≡ false → (raw_turns l n r).fits ≡ false
  unfolding raw_turns raw_turn
  stuck zero r h = h
  stuck (suc n) r h = stuck n (raw_turn l r) (rw h)

  -- ---- no word more

  wordless_rest : (at : ℕ) (h : Wordless (drop at l)) → Wordless (drop (at + length h.blanks) l)
  unfolding every
  wordless_rest at h = record { blanks = []; rest = h.rest; whole = rest_there l at h.blanks h.rest h.whole; blank = refl; remark = h.remark }

  turns_none : (n at : ℕ) → Wordless (drop at l) → (x : ℕ) × (raw_turns l n (up_to at) ≡ up_to x)
  unfolding raw_turns raw_word so_far
  turns_none zero at h = (at, refl)
  turns_none (suc n) at h =
      let e : raw_turn l (up_to at) ≡ up_to (at + length h.blanks) = turn_by at (NoWord (at + length h.blanks)) (word_none l at h) in
      let i = turns_none n (at + length h.blanks) (wordless_rest at h) in
      (i.0, ap (raw_turns l n) e ∙ i.1)

  at_end : Wordless (drop (length l) l)
  unfolding every comment
  at_end = record { blanks = []; rest = []; whole = drop-length l; blank = refl; remark = refl }

  bytes_end : (n : ℕ) → raw_from n l (length l) ≡ []
  unfolding raw_from
  bytes_end zero = refl
  bytes_end (suc n) = bytes_by n (length l) (NoWord (length l + length at_end.blanks)) (word_none l (length l) at_end) ∙ bytes_end n

  bytes_none : (n at : ℕ) → Wordless (drop at l) → raw_from n l at ≡ []
  unfolding raw_from
  bytes_none zero at h = refl
  bytes_none (suc n) at h = bytes_by n at (NoWord (at + length h.blanks)) (word_none l at h) ∙ bytes_end n

  -- ---- one word

  module _ (at : ℕ) (w rest : List ℕ) (b : Begins (plain w) (drop at l) rest) where
    stands : Stands l at (plain w) rest
    stands = begins_stands l at (plain w) rest b

    stop : ℕ
    stop = stands.start + length w

    goes_on : drop stop l ≡ rest
    unfolding stop
    goes_on = rest_there l stands.start w rest stands.there

    -- the line gets shorter
    shorter : (n : ℕ) → length (drop at l) ≤ suc n → length (drop stop l) ≤ n
    shorter n h =
        let e = ap length b.whole ∙ length-append b.blanks (w ++ rest) ∙ ap (λ (m : ℕ). length b.blanks + m) (length-append w rest) in
        omega (arith, h, e, ap length goes_on, some_letter w b.word)

    turn-word : raw_turn l (up_to at) ≡ cond (not (every Hex w)) (wrong_line (stands.start + front Hex (drop stands.start l)) SomeRaw) (cond (eqb (length w % 2) 0) (up_to stop) (wrong_line stop SomeRaw))
    unfolding stop raw_word raw_hex so_far
    turn-word =
        let n : stands.start + length w - stands.start ≡ length w = omega arith in
        turn_by at (PlainWord stands.start (stands.start + length w)) stands.word ∙ rw (run_ends l stands.start w rest stands.there Hex, n)

    bytes_word : (n : ℕ) → raw_from (suc n) l at ≡ unhex w ++ raw_from n l stop
    unfolding stop
    bytes_word n =
        bytes_by n at (PlainWord stands.start (stands.start + length w)) stands.word
        ∙ ap (λ (x : List ℕ). unhex x ++ raw_from n l (stands.start + length w)) (part_there l stands.start w rest stands.there)

    -- a word that is taken, and one that says bytes
    word_pairs : (raw_turn l (up_to at)).fits ≡ true → Pairs w (unhex w) × (raw_turn l (up_to at) ≡ up_to stop)
    unfolding wrong_line
    word_pairs h =
        by_test (every Hex w)
        (λ all. by_test (eqb (length w % 2) 0)
        (λ e. (record { hex = all; even = eqb-true (length w % 2) 0 e; value = refl }, turn-word ∙ rw (all, e)))
        (λ e. absurd (true≢false (sym h ∙ ap (λ (q : Line). q.fits) turn-word ∙ rw (all, e)))))
        (λ none. absurd (true≢false (sym h ∙ ap (λ (q : Line). q.fits) turn-word ∙ rw none)))

    pairs_word : (b : Bytes) → Pairs w b → raw_turn l (up_to at) ≡ up_to stop
    pairs_word b x = turn-word ∙ rw (x.hex, eq-eqb (length w % 2) 0 x.even)

  no_word : (n at : ℕ) (v : Word) → word_at l at ≡ v → (raw_word l (up_to at) v).fits ≡ false → (raw_turns l (suc n) (up_to at)).fits ≡ true → ⊥
  unfolding raw_turns
  no_word n at v e f h = true≢false (sym h ∙ stuck n (raw_turn l (up_to at)) (ap (λ (q : Line). q.fits) (turn_by at v e) ∙ f))

  -- ---- all words

  -- what fits is words of pairs, and is read to the line's end
  pub record Fits (n at : ℕ) : Type 0 where
    pub words : List Piece
    pub line : Lines words (drop at l)
    pub pairs : InPairs words (raw_from n l at)
    pub place : ℕ
    pub is : raw_turns l n (up_to at) ≡ up_to place

  fits_none : (n at : ℕ) → Wordless (drop at l) → Fits n at
  fits_none n at h = let x = turns_none n at h in record { words = []; line = h; pairs = sym (bytes_none n at h); place = x.0; is = x.1 }

  fits_word : (n at : ℕ) (w rest : List ℕ) (b : Begins (plain w) (drop at l) rest) → Pairs w (unhex w) → raw_turn l (up_to at) ≡ up_to (stop at w rest b) → Fits n (stop at w rest b) → Fits (suc n) at
  unfolding raw_turns
  fits_word n at w rest b x e i =
      record {
        words = plain w ∷ i.words;
        line = (rest, b, subst (Lines i.words) (goes_on at w rest b) i.line);
        pairs = (unhex w, raw_from n l (stop at w rest b), x, i.pairs, sym (bytes_word at w rest b n));
        place = i.place;
        is = ap (raw_turns l n) e ∙ i.is;
      }

  fits-step : (n at : ℕ) → ((x : ℕ) → length (drop x l) ≤ n → (raw_turns l n (up_to x)).fits ≡ true → Fits n x)
      → length (drop at l) ≤ suc n → (raw_turns l (suc n) (up_to at)).fits ≡ true → Next l at → Fits (suc n) at
  unfolding raw_turns raw_word wrong_line
  fits-step n at shorter-fit m h (none x) = fits_none (suc n) at x
  fits-step n at shorter-fit m h (found (plain w) rest b) =
      let t : (raw_turn l (up_to at)).fits ≡ true = by_test (raw_turn l (up_to at)).fits (λ e. e) (λ e. absurd (false≢true (sym (stuck n (raw_turn l (up_to at)) e) ∙ h))) in
      let x = word_pairs at w rest b t in
      fits_word n at w rest b x.0 x.1 (shorter-fit (stop at w rest b) (shorter at w rest b n m) (subst (λ (q : Line). (raw_turns l n q).fits ≡ true) x.1 h))
  fits-step n at shorter-fit m h (found (text w) rest b) =
      let s = begins_stands l at (text w) rest b in
      absurd (no_word n at (TextWord (s.start + 1) (s.start + 1 + length w)) s.word refl h)
  fits-step n at shorter-fit m h (broken b x e) = absurd (no_word n at (Broken b x) e refl h)

  pub turns_fit : (n at : ℕ) → length (drop at l) ≤ n → (raw_turns l n (up_to at)).fits ≡ true → Fits n at
  unfolding every comment
  turns_fit zero at m h = fits_none zero at (record { blanks = []; rest = []; whole = empty (drop at l) (omega arith); blank = refl; remark = refl })
  turns_fit (suc n) at m h = fits-step n at (turns_fit n) m h (look l at)

  -- a line with a word is not empty
  not_empty : (at : ℕ) (w rest : List ℕ) → Begins (plain w) (drop at l) rest → length (drop at l) ≤ zero → ⊥
  not_empty at w rest b m =
      omega (arith, m, ap length b.whole, length-append b.blanks (w ++ rest), length-append w rest, some_letter w b.word)

  -- words of pairs are taken, with their bytes
  pub turns_said : (n at : ℕ) (ps : List Piece) (d : Bytes) → length (drop at l) ≤ n → Lines ps (drop at l) → InPairs ps d → (x : ℕ) × (raw_turns l n (up_to at) ≡ up_to x) × (raw_from n l at ≡ d)
  unfolding raw_turns
  turns_said n at [] d m line pairs = let x = turns_none n at line in (x.0, x.1, bytes_none n at line ∙ pairs)
  turns_said n at (text w ∷ ps) d m line pairs = absurd pairs
  turns_said zero at (plain w ∷ ps) d m line pairs = absurd (not_empty at w line.0 line.1 m)
  turns_said (suc n) at (plain w ∷ ps) d m line pairs =
      let rest = line.0 in
      let b = line.1 in
      let i = turns_said n (stop at w rest b) ps pairs.1 (shorter at w rest b n m) (subst (Lines ps) (sym (goes_on at w rest b)) line.2) pairs.3 in (
        i.0,
        ap (raw_turns l n) (pairs_word at w rest b pairs.0 pairs.2) ∙ i.1,
        bytes_word at w rest b n ∙ ap₂ (λ (x y : Bytes). x ++ y) pairs.2.value i.2 ∙ pairs.4,
      )

-- ---- the line of raw bytes, after its mark

module _ (l : List ℕ) (at : ℕ) where
  abbrev all_words : Source
  all_words = source HexWords at (length l)

  all_turns : Line
  all_turns = raw_turns l (length l) (so_far Raw 0 at all_words)

  room : length (drop at l) ≤ length l
  room = omega (arith, length-drop at l)

  starts : (w rest : List ℕ) → Begins (plain w) (drop at l) rest → raw_line l at ≡ all_turns
  unfolding raw_line raw_start all_turns
  starts w rest b = rw (begins_stands l at (plain w) rest b).word

  not_raw : (v : Word) → word_at l at ≡ v → (raw_start l at v).fits ≡ false → (raw_line l at).fits ≡ true → ⊥
  unfolding raw_line
  not_raw v e f h = true≢false (sym h ∙ ap (λ (x : Word). (raw_start l at x).fits) e ∙ f)

  first_plain : (raw_line l at).fits ≡ true → Next l at → (w : List ℕ) × (rest : List ℕ) × Begins (plain w) (drop at l) rest
  unfolding raw_start wrong_line
  first_plain h (none x) = absurd (not_raw (NoWord (at + length x.blanks)) (word_none l at x) refl h)
  first_plain h (found (plain w) rest b) = (w, rest, b)
  first_plain h (found (text w) rest b) =
      let s = begins_stands l at (text w) rest b in
      absurd (not_raw (TextWord (s.start + 1) (s.start + 1 + length w)) s.word refl h)
  first_plain h (broken b x e) = absurd (not_raw (Broken b x) e refl h)

  -- the words that it has, of which there is at least one
  pub fits_raw : (raw_line l at).fits ≡ true
      → (ps : List Piece) × Lines ps (drop at l) × (0 < length ps) × InPairs ps (raw_from (length l) l at) × (x : ℕ) × (raw_line l at ≡ so_far Raw 0 x all_words)
  unfolding all_turns
  fits_raw h =
      let f = first_plain h (look l at) in
      let e = starts f.0 f.1 f.2 in
      let x = turns_fit l all_words (length l) at room (ap (λ (q : Line). q.fits) (sym e) ∙ h) in
      (x.words, x.line, some x.words f.0 f.1 f.2 x.line, x.pairs, x.place, e ∙ x.is)
    where
      some : (ps : List Piece) (w rest : List ℕ) → Begins (plain w) (drop at l) rest → Lines ps (drop at l) → 0 < length ps
      some [] w rest b line = absurd (not-both (drop at l) (plain w) rest b line)
      some (p ∷ ps) w rest b line = omega arith

  pub said_raw : (ps : List Piece) (d : Bytes) → 0 < length ps → Lines ps (drop at l) → InPairs ps d → (x : ℕ) × (raw_line l at ≡ so_far Raw 0 x all_words) × (raw_from (length l) l at ≡ d)
  unfolding all_turns
  said_raw [] d m line pairs = absurd (omega arith)
  said_raw (text w ∷ ps) d m line pairs = absurd pairs
  said_raw (plain w ∷ ps) d m line pairs =
      let x = turns_said l all_words (length l) at (plain w ∷ ps) d room line pairs in
      (x.0, starts w line.0 line.1 ∙ x.1, x.2)
