-- The reader's next word and the grammar's: what stands at a place of a line.
use Rattle.std.specs.Prelude.{◌≡◌, cond, not, eqb, leb}
use Rattle.std.proofs.Math.Path.{refl, ap}
use Rattle.std.proofs.Common.{sym, ap₂, ◌∙◌, true≢false, arith, take-append-drop, drop-drop}
use Rattle.std.proofs.Math.Bool.{true, false}
use Rattle.std.proofs.lemmas.Bool.{false≢true}
use mathlib.Core.List.{List, [], ◌∷◌, ◌++◌, append_assoc}
use Prim.Native.Nat.{ℕ, suc, ◌+◌}
use Prim.Native.Char.{code}
use Rattle.std.proofs.Math.ListN.{length, take, drop}
use borrow.Author.Tests.{eqb-true, eq-eqb, ne_eqb, le-leb, lt-leb, lt-ltb, not-true, not-false}
use Rattle.ground.specs.Search.{by_test}
use Rattle.words.specs.declared.Class.{Class}
use Rattle.words.specs.declared.Class.TheVariants.{Blank, Plain, Text}
use Rattle.words.specs.declared.Expected.TheVariants.{ClosingQuote, SpaceAfterQuote}
use Rattle.words.specs.declared.Word.TheVariants.{PlainWord, TextWord, Broken, NoWord}
use Rattle.words.specs.Letters.{blank_letter, is_in, front}
use Rattle.words.specs.Split.{stops, text_at, starts_at, word_at}
use Rattle.reader.specs.Command.{after}
use Rattle.grammar.specs.Lines.{every, Piece, plain, text, spelled, formed, stopped, comment, Begins, Wordless}
use Rattle.grammar.proofs.LetterLaws.{both, second, front_is, front-every, front-after, stopped-front, front-stopped, letter-within, letter_there, letter-after, nothing_there, rest_there}
use Rattle.grammar.specs.LineLaws.{word_from, Next, none, found, broken}

-- a text of n letters; after its quote come m letters of a plain word
text_by : (l : List ℕ) (s n m : ℕ) → front Text (drop s l) ≡ n → front Plain (drop (s + n + 1) l) ≡ m
    → text_at l s ≡ cond (leb (length l) (s + n)) (Broken (s + n) ClosingQuote) (cond (eqb (s + n + 1 + m) (s + n + 1)) (TextWord s (s + n)) (Broken (s + n + 1) SpaceAfterQuote))
unfolding text_at stops
text_by l s n m e f = rw (e, f)

module _ (l : List ℕ) (s : ℕ) where
  no_letter : drop s l ≡ [] → starts_at l s ≡ NoWord s
  unfolding starts_at
  no_letter h = rw (le-leb (length l) s (nothing_there l s h))

  -- where a letter stands, the letter decides
  at_letter : (c : ℕ) (cs : List ℕ) → drop s l ≡ c ∷ cs
      → starts_at l s ≡ cond (eqb c (code "#")) (NoWord s) (cond (eqb c (code "\"")) (text_at l (s + 1)) (PlainWord s (s + front Plain (c ∷ cs))))
  unfolding starts_at
  at_letter c cs h = rw (lt-leb (length l) s (letter-within l s c cs h), letter_there l s c cs h, h)

  -- a comment, or the end
  pub starts_none : (r : List ℕ) → drop s l ≡ r → comment r ≡ true → starts_at l s ≡ NoWord s
  unfolding comment
  starts_none [] h e = no_letter h
  starts_none (c ∷ cs) h e = at_letter c cs h ∙ rw e

  starts_plain : (c : ℕ) (cs r : List ℕ) → drop s l ≡ (c ∷ cs) ++ r → formed (plain (c ∷ cs)) ≡ true → stopped r ≡ true → starts_at l s ≡ PlainWord s (s + suc (length cs))
  unfolding formed every is_in
  starts_plain c cs r h f e =
      let x = second (eqb c (code "\"")) (every Plain (c ∷ cs)) f in
      let y = both (is_in Plain c) (every Plain cs) x.1 in
      let z = second (blank_letter c) (not (eqb c (code "#"))) y.0 in
      let n : front Plain (c ∷ (cs ++ r)) ≡ suc (length cs) = front_is Plain (c ∷ cs) r x.1 (stopped-front r e) in
      at_letter c (cs ++ r) h ∙ rw (not-true (eqb c (code "#")) z.1, x.0, n)

  -- the letters of a text and its closing quote, after the opening one
  pub inside : (w r : List ℕ) → drop s l ≡ spelled (text w) ++ r → drop (s + 1) l ≡ w ++ (code "\"" ∷ r)
  inside w r h = letter-after l s (code "\"") ((w ++ (code "\"" ∷ [])) ++ r) h ∙ append_assoc w (code "\"" ∷ []) r

  starts_text : (w r : List ℕ) → drop s l ≡ spelled (text w) ++ r → every Text w ≡ true → stopped r ≡ true → starts_at l s ≡ TextWord (s + 1) (s + 1 + length w)
  unfolding front is_in
  starts_text w r h f e =
      let q = code "\"" in
      let z = s + 1 + length w in
      let i : drop (s + 1) l ≡ w ++ (q ∷ r) = inside w r h in
      let n : front Text (drop (s + 1) l) ≡ length w = ap (front Text) i ∙ front_is Text w (q ∷ r) f refl in
      let t : drop z l ≡ q ∷ r = rest_there l (s + 1) w (q ∷ r) i in
      let m : front Plain (drop (z + 1) l) ≡ 0 = ap (front Plain) (letter-after l z q r t) ∙ stopped-front r e in
      at_letter q ((w ++ (q ∷ [])) ++ r) h
      ∙ text_by l (s + 1) (length w) 0 n m
      ∙ rw (lt-leb (length l) z (letter-within l z q r t), eq-eqb (z + 1 + 0) (z + 1) (omega arith))

  pub starts_word : (p : Piece) (r : List ℕ) → drop s l ≡ spelled p ++ r → formed p ≡ true → stopped r ≡ true → starts_at l s ≡ word_from s p
  unfolding formed
  starts_word (plain []) r h f e = absurd (false≢true f)
  starts_word (plain (c ∷ cs)) r h f e = starts_plain c cs r h f e
  starts_word (text w) r h f e = starts_text w r h f e

module _ (l : List ℕ) (at : ℕ) where
  -- past the blank letters
  past_blanks : (b r : List ℕ) → drop at l ≡ b ++ r → every Blank b ≡ true → front Blank r ≡ 0 → word_at l at ≡ starts_at l (at + length b)
  unfolding word_at
  past_blanks b r h f e = rw (ap (front Blank) h ∙ front_is Blank b r f e)

  quote_no_blank : blank_letter (code "\"") ≡ false
  unfolding blank_letter
  quote_no_blank = refl

  no_blank : (p : Piece) (r : List ℕ) → formed p ≡ true → front Blank (spelled p ++ r) ≡ 0
  unfolding formed every is_in front
  no_blank (plain []) r f = absurd (false≢true f)
  no_blank (plain (c ∷ cs)) r f =
      let x = second (eqb c (code "\"")) (every Plain (c ∷ cs)) f in
      let y = both (is_in Plain c) (every Plain cs) x.1 in
      rw (second (blank_letter c) (not (eqb c (code "#"))) y.0).0
  no_blank (text w) r f = rw quote_no_blank

  no_blank_remark : (r : List ℕ) → comment r ≡ true → front Blank r ≡ 0
  unfolding comment front is_in blank_letter
  no_blank_remark [] e = refl
  no_blank_remark (c ∷ cs) e = rw (eqb-true c (code "#") e)

  pub word_none : (h : Wordless (drop at l)) → word_at l at ≡ NoWord (at + length h.blanks)
  word_none h =
      past_blanks h.blanks h.rest h.whole h.blank (no_blank_remark h.rest h.remark)
      ∙ starts_none l (at + length h.blanks) h.rest (rest_there l at h.blanks h.rest h.whole) h.remark

-- the reader's word at a place of the line is the word p, with what follows it
pub record Stands (l : List ℕ) (at : ℕ) (p : Piece) (rest : List ℕ) : Type 0 where
  pub start : ℕ
  pub word : word_at l at ≡ word_from start p
  pub there : drop start l ≡ spelled p ++ rest

pub begins_stands : (l : List ℕ) (at : ℕ) (p : Piece) (rest : List ℕ) → Begins p (drop at l) rest → Stands l at p rest
begins_stands l at p rest h =
    let t : drop (at + length h.blanks) l ≡ spelled p ++ rest = rest_there l at h.blanks (spelled p ++ rest) h.whole in
    record {
      start = at + length h.blanks;
      word = past_blanks l at h.blanks (spelled p ++ rest) h.whole h.blank (no_blank l at p rest h.word) ∙ starts_word l (at + length h.blanks) p rest t h.word h.stop;
      there = t;
    }

front-first : (k : Class) (c : ℕ) (cs : List ℕ) → front k (c ∷ cs) ≡ 0 → is_in k c ≡ false
unfolding front
front-first k c cs h = by_test (is_in k c) (λ e. absurd (let z : 1 + front k cs ≡ 0 = rw e at h in omega arith)) (λ e. e)

text-letter : (c : ℕ) → is_in Text c ≡ false → not (eqb c (code "\"")) ≡ false
unfolding is_in
text-letter c e = e

text-formed : (w : List ℕ) → every Text w ≡ true → formed (text w) ≡ true
unfolding formed
text-formed w e = e

-- after blank letters b, the letter c, which is not blank
module _ (l : List ℕ) (at : ℕ) (b : List ℕ) (c : ℕ) (cs : List ℕ) (h : drop at l ≡ b ++ (c ∷ cs)) (f : every Blank b ≡ true) (e : front Blank (c ∷ cs) ≡ 0) where
  next-plain : eqb c (code "#") ≡ false → eqb c (code "\"") ≡ false → Next l at
  unfolding formed every is_in
  next-plain x y =
      let n = front Plain cs in
      let w = take n cs in
      let rest = drop n cs in
      let z : blank_letter c ≡ false = front-first Blank c cs e in
      let g : every Plain (c ∷ w) ≡ true = rw (z, x) (front-every Plain cs) in
      found (plain (c ∷ w)) rest
      (record {
        blanks = b;
        whole = h ∙ ap (λ (r : List ℕ). b ++ (c ∷ r)) (sym (take-append-drop n cs));
        blank = f;
        word = rw y g;
        stop = front-stopped rest (front-after Plain cs);
      })

  start : ℕ
  start = at + length b

  -- the letters of a text
  letters_there : drop (start + 1) l ≡ cs
  unfolding start
  letters_there = letter-after l start c cs (rest_there l at b (c ∷ cs) h)

  text_there : eqb c (code "\"") ≡ true → word_at l at ≡ text_at l (start + 1)
  unfolding start
  text_there x = past_blanks l at b (c ∷ cs) h f e ∙ at_letter l start c cs (rest_there l at b (c ∷ cs) h) ∙ rw (eqb-true c (code "\"") x)

  -- what follows the letters of the text
  text_rest : (r : List ℕ) → drop (front Text cs) cs ≡ r → drop (start + 1 + front Text cs) l ≡ r
  text_rest r t = sym (drop-drop (front Text cs) (start + 1) l) ∙ ap (drop (front Text cs)) letters_there ∙ t

  text-read : (m : ℕ) → front Plain (drop (start + 1 + front Text cs + 1) l) ≡ m → text_at l (start + 1)
      ≡ cond (leb (length l) (start + 1 + front Text cs)) (Broken (start + 1 + front Text cs) ClosingQuote)
      (cond (eqb (start + 1 + front Text cs + 1 + m) (start + 1 + front Text cs + 1)) (TextWord (start + 1) (start + 1 + front Text cs)) (Broken (start + 1 + front Text cs + 1) SpaceAfterQuote))
  text-read m g = text_by l (start + 1) (front Text cs) m (ap (front Text) letters_there) g

  not_closed : drop (front Text cs) cs ≡ [] → text_at l (start + 1) ≡ Broken (start + 1 + front Text cs) ClosingQuote
  not_closed t =
      text-read (front Plain (drop (start + 1 + front Text cs + 1) l)) refl
      ∙ rw (le-leb (length l) (start + 1 + front Text cs) (nothing_there l (start + 1 + front Text cs) (text_rest [] t)))

  not_stopped : (x : ℕ) (rest : List ℕ) → drop (front Text cs) cs ≡ x ∷ rest → stopped rest ≡ false → text_at l (start + 1) ≡ Broken (start + 1 + front Text cs + 1) SpaceAfterQuote
  not_stopped x rest t g =
      let z = start + 1 + front Text cs in
      let m : front Plain (drop (z + 1) l) ≡ front Plain rest = ap (front Plain) (letter-after l z x rest (text_rest (x ∷ rest) t)) in
      let some : front Plain rest ≡ 0 → ⊥ = λ n. true≢false (sym (front-stopped rest n) ∙ g) in
      text-read (front Plain rest) m
      ∙ rw (lt-leb (length l) z (letter-within l z x rest (text_rest (x ∷ rest) t)), ne_eqb (z + 1 + front Plain rest) (z + 1) (λ n. some (omega arith)))

  next-text : (r : List ℕ) → drop (front Text cs) cs ≡ r → eqb c (code "\"") ≡ true → Next l at
  next-text [] t x = broken (start + 1 + front Text cs) ClosingQuote (text_there x ∙ not_closed t)
  next-text (y ∷ rest) t x = by_test (stopped rest) (λ g. closed g) (λ g. broken (start + 1 + front Text cs + 1) SpaceAfterQuote (text_there x ∙ not_stopped y rest t g))
    where
      quoted : y ≡ code "\""
      quoted = eqb-true y (code "\"") (not-false (eqb y (code "\"")) (text-letter y (front-first Text y rest (ap (front Text) (sym t) ∙ front-after Text cs))))

      w : List ℕ
      w = take (front Text cs) cs

      closed : stopped rest ≡ true → Next l at
      closed g =
          found (text w) rest
          (record {
            blanks = b;
            whole = h ∙ ap₂ (λ (m : ℕ) (r : List ℕ). b ++ (m ∷ r)) (eqb-true c (code "\"") x)
                (sym (take-append-drop (front Text cs) cs) ∙ ap (λ (r : List ℕ). w ++ r) t ∙ ap (λ (m : ℕ). w ++ (m ∷ rest)) quoted ∙ sym (append_assoc w (code "\"" ∷ []) rest));
            blank = f;
            word = text-formed w (front-every Text cs);
            stop = g;
          })

-- after blank letters
next-after : (l : List ℕ) (at : ℕ) (b r : List ℕ) → drop at l ≡ b ++ r → every Blank b ≡ true → front Blank r ≡ 0 → Next l at
unfolding comment
next-after l at b [] h f e = none (record { blanks = b; rest = []; whole = h; blank = f; remark = refl })
next-after l at b (c ∷ cs) h f e =
    by_test (eqb c (code "#"))
    (λ x. none (record { blanks = b; rest = c ∷ cs; whole = h; blank = f; remark = x }))
    (λ x. by_test (eqb c (code "\"")) (λ y. next-text l at b c cs h f e (drop (front Text cs) cs) refl y) (λ y. next-plain l at b c cs h f e x y))

pub look : (l : List ℕ) (at : ℕ) → Next l at
look l at =
    let d = drop at l in
    let n = front Blank d in
    next-after l at (take n d) (drop n d) (sym (take-append-drop n d)) (front-every Blank d) (front-after Blank d)

-- ---- where the line goes on after it

pub after_there : (l : List ℕ) (s : ℕ) (p : Piece) (r : List ℕ) → drop s l ≡ spelled p ++ r → drop (after (length l) (word_from s p)) l ≡ r
unfolding after
after_there l s (plain w) r h = rest_there l s w r h
after_there l s (text w) r h =
    let z = s + 1 + length w in
    let t : drop z l ≡ code "\"" ∷ r = rest_there l (s + 1) w (code "\"" ∷ r) (inside l s w r h) in
    rw (lt-ltb z (length l) (letter-within l z (code "\"") r t)) (letter-after l z (code "\"") r t)
