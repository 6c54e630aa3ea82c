-- A command's words, read one by one: what fits says the fields, and words that say the fields fit.
use Rattle.std.specs.Prelude.{◌≡◌, Bool, cond, length, drop}
use Rattle.std.proofs.Math.Path.{refl, ap, subst}
use Rattle.std.proofs.Common.{sym, ◌∙◌, le_of_suc-le-suc, not-suc-le-zero, arith, eqb-true, eq-eqb}
use Rattle.std.proofs.Math.Bool.{true, false, true≢false}
use Rattle.std.proofs.lemmas.Bool.{false≢true}
use mathlib.Core.List.{List, [], ◌∷◌}
use Prim.Native.Nat.{ℕ, zero, suc, ◌≤◌, ◌<◌}
use Rattle.std.proofs.Math.Dec.{eqb}
use Rattle.ground.specs.Search.{by_test}
use Rattle.ground.specs.Lists.{padded}
use Rattle.reader.specs.Line.{Line, wrong_line}
use Rattle.reader.specs.Command.{after, took_value, took_word, read_word, read_words, nothing_else, ended_line}
use Rattle.reader.proofs.SameFields.{word_or_none, words_or_none}
use Rattle.stream.specs.declared.Request.{Request}
use Rattle.stream.specs.Fields.{Bytes}
use Rattle.stream.specs.Grammar.{argument, among}
use Rattle.stream.specs.RequestLaws.{Sound}
use Rattle.stream.proofs.RequestLaws.{own, other, stays_sound, no_data}
use Rattle.stream.specs.GrammarLaws.{ascending}
use Rattle.stream.proofs.GrammarLaws.{neither, above, up_to, later, not-among}
use Rattle.values.specs.Sources.{meant}
use Rattle.values.specs.Values.{Value, wrong}
use Rattle.values.specs.Fields.{value_of, value_bytes, with_value}
use Rattle.words.specs.declared.Expected.TheVariants.{NothingMore}
use Rattle.words.specs.declared.Word.{Word}
use Rattle.words.specs.declared.Word.TheVariants.{Broken, NoWord}
use Rattle.words.specs.Split.{word_at}
use Rattle.grammar.specs.Lines.{Piece, plain, text, Begins, Wordless, Lines}
use Rattle.grammar.specs.Means.{Means}
use Rattle.grammar.specs.Says.{Each}
use Rattle.grammar.specs.LineLaws.{word_from, Next, none, found, broken}
use Rattle.grammar.proofs.LineLaws.{word_none, begins_stands, look, after_there}
use Rattle.grammar.proofs.MeansLaws.{means_exact, means_sized, means_bytes}

module _ (l kept ends : List ℕ) where
  -- the data read so far, and what has been read of the field j
  abbrev pub said : Line → Bytes
  said r = meant r.bytes l kept

  abbrev pub tells : Line → ℕ → Bytes
  tells r j = argument j r.asked (said r)

  -- the value of the word v as the field k, and the line with it
  abbrev pub value_as : ℕ → Word → Value
  value_as k v = value_of k l (length kept) ends v

  abbrev pub taken : Line → ℕ → Word → Line
  taken r k v =
      record {
        fits = true;
        at = after (length l) v;
        expected = NothingMore;
        says = r.says;
        asked = with_value k (value_as k v) l kept r.asked;
        bytes = cond (eqb k 0x87) (value_as k v).bytes r.bytes;
      }

  -- ---- one word read

  module _ (r : Line) (k : ℕ) (low : 0x80 < k) (fit : r.fits ≡ true) where
    word_read : read_word l kept ends r k ≡ cond (value_as k (word_at l r.at)).fits (taken r k (word_at l r.at)) (wrong_line (value_as k (word_at l r.at)).at (value_as k (word_at l r.at)).expected)
    unfolding read_word took_word took_value
    word_read = rw fit

    word-taken : (v : Word) → word_at l r.at ≡ v → (value_as k v).fits ≡ true → read_word l kept ends r k ≡ taken r k v
    word-taken v e f = word_read ∙ rw (e, f)

    value_fits : (read_word l kept ends r k).fits ≡ true → (value_as k (word_at l r.at)).fits ≡ true
    unfolding wrong_line
    value_fits h = by_test (value_as k (word_at l r.at)).fits (λ e. e) (λ e. absurd (false≢true (sym (ap (λ (q : Line). q.fits) word_read ∙ rw e) ∙ h)))

    -- what is read is a word, and says the field
    pub fits_word : (read_word l kept ends r k).fits ≡ true → (p : Piece) × (rest : List ℕ) × Begins p (drop r.at l) rest
    unfolding value_of wrong
    fits_word h = go (look l r.at)
      where
        no_word : (v : Word) → word_at l r.at ≡ v → (value_as k v).fits ≡ false → ⊥
        no_word v e f = true≢false (sym (value_fits h) ∙ ap (λ (w : Word). (value_as k w).fits) e ∙ f)

        go : Next l r.at → (p : Piece) × (rest : List ℕ) × Begins p (drop r.at l) rest
        go (none x) = absurd (no_word (NoWord _) (word_none l r.at x) refl)
        go (found p rest x) = (p, rest, x)
        go (broken b x e) = absurd (no_word (Broken b x) e refl)

  -- data are the bytes themselves
  data_bytes : (k : ℕ) (u : Value) → k ≡ 0x87 → meant u.bytes l kept ≡ value_bytes k u l kept
  unfolding value_bytes
  data_bytes k u e = rw e

  module _ (r : Line) (k : ℕ) (v : Word) (low : 0x80 < k) (high : k ≤ 0x87) where
    -- the line says what it said of every other field
    next_other : (j : ℕ) → eqb j k ≡ false → tells (taken r k v) j ≡ tells r j
    unfolding with_value
    next_other j n =
        other k low high (value_bytes k (value_as k v) l kept) r.asked (said (taken r k v)) j n
        ∙ by_test (eqb k 0x87)
        (λ q. no_data j r.asked (said (taken r k v)) (said r) (subst (λ (m : ℕ). eqb j m ≡ false) (eqb-true k 0x87 q) n))
        (λ q. ap (λ (c : Bool). argument j r.asked (meant (cond c (value_as k v).bytes r.bytes) l kept)) q)

    module _ (p : Piece) (means : Means kept ends k p (value_bytes k (value_as k v) l kept)) where
      -- and of the field what the word says
      next-own : tells (taken r k v) k ≡ value_bytes k (value_as k v) l kept
      unfolding with_value
      next-own =
          own k low high (value_bytes k (value_as k v) l kept) r.asked (said (taken r k v))
          (means_sized kept ends p (value_bytes k (value_as k v) l kept) k low high means)
          (means_bytes kept ends p (value_bytes k (value_as k v) l kept) k low high means)
          (λ q. ap (λ (c : Bool). meant (cond c (value_as k v).bytes r.bytes) l kept) (eq-eqb k 0x87 q) ∙ data_bytes k (value_as k v) q)

      next_sound : (t : ℕ) → Sound t r.asked → Sound t (taken r k v).asked
      unfolding with_value
      next_sound t c =
          stays_sound k low high t (value_bytes k (value_as k v) l kept) r.asked
          (means_sized kept ends p (value_bytes k (value_as k v) l kept) k low high means)
          (means_bytes kept ends p (value_bytes k (value_as k v) l kept) k low high means)
          c

  -- ---- all words read

  -- no line that failed fits again
  stuck : (ks : List ℕ) (r : Line) → r.fits ≡ false → (read_words l kept ends r ks).fits ≡ false
  unfolding read_words read_word
  stuck [] r h = h
  stuck (k ∷ ks) r h = stuck ks (read_word l kept ends r k) (rw h)

  fit_before : (ks : List ℕ) (r : Line) → (read_words l kept ends r ks).fits ≡ true → r.fits ≡ true
  fit_before ks r h = by_test r.fits (λ e. e) (λ e. absurd (false≢true (sym (stuck ks r e) ∙ h)))

  -- zeros are passed over
  pub words-padded : (r : Line) (n : ℕ) (ks : List ℕ) → length ks ≤ n
      → words_or_none l kept ends r (padded n ks) ≡ words_or_none l kept ends r ks
  unfolding padded
  words-padded r zero [] h = refl
  words-padded r zero (k ∷ ks) h = absurd (not-suc-le-zero h)
  words-padded r (suc n) [] h = words-padded r n [] (omega arith)
  words-padded r (suc n) (k ∷ ks) h = words-padded (word_or_none l kept ends r k) n ks (le_of_suc-le-suc h)

  -- ---- what fits says the fields

  -- q has read the fields ks, and the words ps that say them, from where r stood
  pub record Read (t : ℕ) (ks : List ℕ) (r q : Line) : Type 0 where
    pub words : List Piece
    pub line : Lines words (drop r.at l)
    pub fields : Each kept ends ks words q.asked (said q)
    pub others : (j : ℕ) → among j ks ≡ false → tells q j ≡ tells r j
    pub sound : Sound t q.asked
    pub same : q.says ≡ r.says

  module _ (t : ℕ) (n k : ℕ) (ks : List ℕ) (base : 0x80 ≤ n) (up : ascending n (k ∷ ks) ≡ true) where
    low : 0x80 < k
    low = let u = above n k ks up in omega arith

    high : k ≤ 0x87
    high = up_to n k ks up

    -- one word more before those read
    before : (r q : Line) (v : Word) (p : Piece) (rest : List ℕ) → Begins p (drop r.at l) rest → drop (after (length l) v) l ≡ rest
        → Means kept ends k p (value_bytes k (value_as k v) l kept) → Read t ks (taken r k v) q → Read t (k ∷ ks) r q
    unfolding among
    before r q v p rest b e m read =
        let mine : tells q k ≡ value_bytes k (value_as k v) l kept = read.others k (not-among k ks k (later n k ks up) (omega arith)) ∙ next-own r k v low high p m in
        record {
          words = p ∷ read.words;
          line = (rest, b, subst (Lines read.words) e read.line);
          fields = (subst (Means kept ends k p) (sym mine) m, read.fields);
          others = λ j x. let y = neither (eqb j k) (among j ks) x in read.others j y.1 ∙ next_other r k v low high j y.0;
          sound = read.sound;
          same = read.same;
        }

  pub fits_read : (t n : ℕ) (ks : List ℕ) (r : Line) → 0x80 ≤ n → ascending n ks ≡ true → Sound t r.asked → r.fits ≡ true
      → (read_words l kept ends r ks).fits ≡ true → Wordless (drop (read_words l kept ends r ks).at l) → Read t ks r (read_words l kept ends r ks)
  unfolding read_words
  fits_read t n [] r base up c fit h end = record { words = []; line = end; fields = tt; others = λ j x. refl; sound = c; same = refl }
  fits_read t n (k ∷ ks) r base up c fit h end =
      let u = above n k ks up in
      let lo = low t n k ks base up in
      let hi = up_to n k ks up in
      let fit-here = fit_before ks (read_word l kept ends r k) h in
      let w = fits_word r k lo fit fit-here in
      let s = begins_stands l r.at w.0 w.1 w.2 in
      let v = word_from s.start w.0 in
      let f : (value_as k v).fits ≡ true = ap (λ (x : Word). (value_as k x).fits) (sym s.word) ∙ value_fits r k lo fit fit-here in
      let m = (means_exact l kept ends s.start w.0 w.1 s.there w.2.word k lo hi).fits-has f in
      let is : read_word l kept ends r k ≡ taken r k v = word-taken r k lo fit v s.word f in
      rw is
      (before t n k ks base up r (read_words l kept ends (taken r k v) ks) v w.0 w.1 w.2 (after_there l s.start w.0 w.1 s.there) m
      (fits_read t k ks (taken r k v) (omega arith) (later n k ks up) (next_sound r k v lo hi w.0 m t c) refl
      (subst (λ (q : Line). (read_words l kept ends q ks).fits ≡ true) is h)
      (subst (λ (q : Line). Wordless (drop (read_words l kept ends q ks).at l)) is end)))

  -- ---- words that say the fields fit

  -- q has read all words, and says a and d
  pub record Done (t : ℕ) (a : Request) (d : Bytes) (r q : Line) : Type 0 where
    pub fits : q.fits ≡ true
    pub end : Wordless (drop q.at l)
    pub says : (j : ℕ) → tells q j ≡ argument j a d
    pub sound : Sound t q.asked
    pub same : q.says ≡ r.says

  module _ (t : ℕ) (a : Request) (d : Bytes) where
    pub said_read : (n : ℕ) (ks : List ℕ) (ps : List Piece) (r : Line) → 0x80 ≤ n → ascending n ks ≡ true → Sound t r.asked → r.fits ≡ true
        → Lines ps (drop r.at l) → Each kept ends ks ps a d → ((j : ℕ) → among j ks ≡ false → tells r j ≡ argument j a d) → Done t a d r (read_words l kept ends r ks)
    unfolding read_words among
    said_read n [] [] r base up c fit line each says = record { fits = fit; end = line; says = λ j. says j refl; sound = c; same = refl }
    said_read n [] (p ∷ ps) r base up c fit line each says = absurd each
    said_read n (k ∷ ks) [] r base up c fit line each says = absurd each
    said_read n (k ∷ ks) (p ∷ ps) r base up c fit line each says =
        let u = above n k ks up in
        let lo = low t n k ks base up in
        let hi = up_to n k ks up in
        let rest = line.0 in
        let s = begins_stands l r.at p rest line.1 in
        let v = word_from s.start p in
        let x = (means_exact l kept ends s.start p rest s.there line.1.word k lo hi).has-fits (argument k a d) each.0 in
        let m : Means kept ends k p (value_bytes k (value_as k v) l kept) = subst (Means kept ends k p) (sym x.1) each.0 in
        let is : read_word l kept ends r k ≡ taken r k v = word-taken r k lo fit v s.word x.0 in
        let done = said_read k ks ps (taken r k v) (omega arith) (later n k ks up) (next_sound r k v lo hi p m t c) refl
        (subst (Lines ps) (sym (after_there l s.start p rest s.there)) line.2) each.1
        (λ j y. by_test (eqb j k)
        (λ e. rw (eqb-true j k e) (next-own r k v lo hi p m ∙ x.1))
        (λ e. next_other r k v lo hi j e ∙ says j (rw (e, y)))) in
        rw is (record { fits = done.fits; end = done.end; says = done.says; sound = done.sound; same = done.same })

  -- ---- nothing else

  pub ended_none : (r : Line) → r.fits ≡ true → Wordless (drop r.at l) → ended_line l r ≡ r
  unfolding ended_line nothing_else
  ended_none r fit h = rw (fit, word_none l r.at h)

  one_more : (r : Line) (s : ℕ) (p : Piece) → (nothing_else r (word_from s p)).fits ≡ false
  unfolding nothing_else wrong_line
  one_more r s (plain w) = refl
  one_more r s (text w) = refl

  -- a line that fits to its end has no further word
  pub fits-ended : (r : Line) → (ended_line l r).fits ≡ true → (r.fits ≡ true) × Wordless (drop r.at l)
  unfolding ended_line nothing_else wrong_line
  fits-ended r h =
      by_test r.fits (λ e. go e (look l r.at)) (λ e. absurd (false≢true (sym (ap (λ (b : Bool). (cond b (nothing_else r (word_at l r.at)) r).fits) e ∙ e) ∙ h)))
    where
      no_more : r.fits ≡ true → (v : Word) → word_at l r.at ≡ v → (nothing_else r v).fits ≡ false → ⊥
      no_more e v f g = true≢false (sym h ∙ ap (λ (b : Bool). (cond b (nothing_else r (word_at l r.at)) r).fits) e ∙ ap (λ (w : Word). (nothing_else r w).fits) f ∙ g)

      go : r.fits ≡ true → Next l r.at → (r.fits ≡ true) × Wordless (drop r.at l)
      go e (none x) = (e, x)
      go e (found p rest x) = let s = begins_stands l r.at p rest x in absurd (no_more e (word_from s.start p) s.word (one_more r s.start p))
      go e (broken b x f) = absurd (no_more e (Broken b x) f refl)
