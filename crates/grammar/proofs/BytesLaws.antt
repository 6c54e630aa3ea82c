-- A word as bytes, by hex digits or an answer: the reader takes exactly the words of the table.
use Rattle.std.specs.Prelude.{◌≡◌, Bool, cond, ◌⊎◌, eqb, ltb}
use Rattle.std.proofs.Math.Path.{refl, sym, ap}
use Rattle.std.proofs.Common.{ap₂, ◌∙◌, subst, take-append-drop}
use Rattle.std.proofs.Math.Bool.{true, false, not, false≢true}
use Rattle.std.proofs.Math.Logic.{inl, inr, ⊎_elim}
use mathlib.Core.List.{List, [], ◌∷◌, ◌++◌, head-eq_of_cons-eq, tail-eq_of_cons-eq}
use Prim.Native.Nat.{ℕ, suc, ◌+◌, ◌-◌, ◌/◌, ◌%◌, ◌≤◌, ◌<◌}
use Prim.Native.Char.{code}
use native.Mathlib.Omega.{arith}
use Rattle.std.proofs.Math.Dec.{leb}
use Rattle.std.proofs.Math.ListN.{length, get_or, take, drop, length-append}
use Rattle.std.proofs.Math.Seq.{drop_at, length-take-le}
use borrow.Author.Tests.{eqb-true, eqb-false, ne_eqb, ltb-true, ltb-false, leb-true, leb-false, lt-leb, lt-ltb, le-ltb}
use Rattle.ground.specs.Search.{by_test}
use Rattle.ground.specs.Lists.{padded, padded_all}
use Rattle.stream.specs.Fields.{part, part_length}
use Rattle.stream.proofs.FieldLaws.{part_rest}
use Rattle.values.specs.declared.Origin.TheVariants.{HexDigits, Answered as FromAnswer}
use Rattle.values.specs.declared.Source.{Source}
use Rattle.values.specs.Numbers.{decimal_value, up_to, above_limit, within_limit}
use Rattle.values.specs.Sources.{unhex, meant, source, answer_source}
use Rattle.values.specs.Values.{Value, fitting, wrong, hex_block, data_of, hex_data, answer_block, answer_data, answer_for, expected_bytes, answer_found, hex_for, answer_value, bytes_value}
use Rattle.words.specs.declared.Class.TheVariants.{Digit, Hex}
use Rattle.words.specs.declared.Expected.TheVariants.{Bytes as SomeBytes}
use Rattle.words.specs.Letters.{between, is_in, front}
use Rattle.grammar.specs.Lines.{every}
use Rattle.grammar.specs.Means.{Number, OfAnswer, Ordinal}
use Rattle.grammar.proofs.LetterLaws.{shifted-leb, letter_there, letter-after, part_there}
use Rattle.grammar.specs.NumberLaws.{Exact}
use Rattle.grammar.proofs.NumberLaws.{no_value, a_value, exact_is, exact_for, run_ends}
use Rattle.grammar.specs.BytesLaws.{bytes_of, Sized, InHex}

-- ---- hex digits

pub unhex-length : (w : List ℕ) → length (unhex w) ≡ length w / 2
unfolding unhex
unhex-length [] = refl
unhex-length (a ∷ []) = refl
unhex-length (a ∷ b ∷ cs) = let h = unhex-length cs in omega arith

module _ (l kept : List ℕ) (s : ℕ) (w r : List ℕ) (h : drop s l ≡ w ++ r) where
  long : s + length w - s ≡ length w
  long = omega arith

  meant-hex : meant (source HexDigits s (s + length w)) l kept ≡ unhex w
  unfolding meant
  meant-hex = ap unhex (part_there l s w r h)

  -- where its letters are not all hex digits, or not sixteen
  no_block : (ltb (front Hex (drop s l)) 16 ≡ true) ⊎ (eqb (length w) 16 ≡ false) → (hex_block l s (s + length w)).fits ≡ false
  unfolding hex_block wrong
  no_block (inl e) = let n : s + front Hex (drop s l) - s ≡ front Hex (drop s l) = omega arith in rw (n, e)
  no_block (inr e) = by_test (ltb (s + front Hex (drop s l) - s) 16) (λ t. rw t) (λ t. rw (t, long, e))

  pub block_exact : Exact (hex_block l s (s + length w)) (bytes_of l kept true) (InHex true w)
  unfolding hex_block fitting
  block_exact =
      let v = hex_block l s (s + length w) in
      let f = bytes_of l kept true in
      let run = run_ends l s w r h Hex in
      by_test (eqb (length w) 16)
      (λ e. let n = eqb-true (length w) 16 e in
      by_test (every Hex w)
      (λ all.
      let far = ltb-false (s + front Hex (drop s l)) (s + length w) (run ∙ ap not all) in
      let is : padded 8 (meant (source HexDigits s (s + length w)) l kept) ≡ unhex w = ap (padded 8) meant-hex ∙ padded_all 8 (unhex w) (omega (arith, unhex-length w)) in
      a_value v f (InHex true w) (fitting 0 (source HexDigits s (s + length w)))
      (rw (le-ltb (s + front Hex (drop s l) - s) 16 (omega arith), long, e)) refl
      (record { hex = all; even = omega arith; value = sym is }, n)
      (λ b x. is ∙ x.0.value))
      (λ none.
      let near = ltb-true (s + front Hex (drop s l)) (s + length w) (run ∙ ap not none) in
      no_value v f (InHex true w) (no_block (inl (lt-ltb (front Hex (drop s l)) 16 (omega arith)))) (λ b x. false≢true (sym none ∙ x.0.hex))))
      (λ e. no_value v f (InHex true w) (no_block (inr e)) (λ b x. eqb-false (length w) 16 e x.1))

  data_read : hex_data l s (s + length w)
      ≡ cond (not (every Hex w)) (wrong (s + front Hex (drop s l)) SomeBytes) (cond (eqb (length w % 2) 0) (data_of s (length w / 2) (source HexDigits s (s + length w))) (wrong (s + length w) SomeBytes))
  unfolding hex_data
  data_read = rw (run_ends l s w r h Hex, long)

  pub data_exact : Exact (hex_data l s (s + length w)) (bytes_of l kept false) (InHex false w)
  unfolding data_of fitting wrong
  data_exact =
      let v = hex_data l s (s + length w) in
      let f = bytes_of l kept false in
      let n = unhex-length w in
      by_test (every Hex w)
      (λ all. by_test (eqb (length w % 2) 0)
      (λ e. by_test (leb (length w / 2) 65500)
      (λ small. a_value v f (InHex false w) (fitting 0 (source HexDigits s (s + length w))) (data_read ∙ rw (all, e, small)) refl
      (record { hex = all; even = eqb-true (length w % 2) 0 e; value = sym meant-hex }, rw (meant-hex, n) (leb-true (length w / 2) 65500 small))
      (λ b x. meant-hex ∙ x.0.value))
      (λ large. no_value v f (InHex false w) (ap (λ (u : Value). u.fits) data_read ∙ rw (all, e, large))
      (λ b x. let z = leb-false (length w / 2) 65500 large in omega (arith, n, ap length x.0.value, x.1))))
      (λ e. no_value v f (InHex false w) (ap (λ (u : Value). u.fits) data_read ∙ rw (all, e)) (λ b x. eqb-false (length w % 2) 0 e x.0.even)))
      (λ none. no_value v f (InHex false w) (ap (λ (u : Value). u.fits) data_read ∙ rw none) (λ b x. false≢true (sym none ∙ x.0.hex)))

-- ---- answers

module _ (l kept ends : List ℕ) (n : ℕ) where
  answer_is : (b : List ℕ) (a : OfAnswer kept ends n b) → answer_source (length kept) ends n ≡ source FromAnswer (length a.before) (length a.before + length b)
  unfolding answer_source
  answer_is b a =
      let m : length kept ≡ length a.before + (length b + length a.beyond) =
      ap length a.whole ∙ length-append a.before (b ++ a.beyond) ∙ ap (λ (k : ℕ). length a.before + k) (length-append b a.beyond) in
      rw (ne_eqb n 0 (λ e. omega (arith, a.given.0)), lt-leb (length ends) n a.given.1, le-ltb (length kept) (get_or ends n 0) (omega (arith, m, a.to)))
      (ap₂ (λ (x y : ℕ). source FromAnswer x y) (sym a.from) (sym a.to))

  -- its bytes, and how many they are
  answer_bytes : (b : List ℕ) → OfAnswer kept ends n b → meant (answer_source (length kept) ends n) l kept ≡ b
  unfolding meant
  answer_bytes b a =
      let t : drop (length a.before) kept ≡ b ++ a.beyond = ap (drop (length a.before)) a.whole ∙ drop_at a.before (b ++ a.beyond) (length a.before) refl in
      ap (λ (x : Source). meant x l kept) (answer_is b a) ∙ part_there kept (length a.before) b a.beyond t

  answer_start : (b : List ℕ) (a : OfAnswer kept ends n b) → (answer_source (length kept) ends n).start ≡ length a.before
  answer_start b a = ap (λ (x : Source). x.start) (answer_is b a)

  answer_end : (b : List ℕ) (a : OfAnswer kept ends n b) → (answer_source (length kept) ends n).end ≡ length a.before + length b
  answer_end b a = ap (λ (x : Source). x.end) (answer_is b a)

  -- an answer that has bytes
  answer_there : (answer_source (length kept) ends n).start < (answer_source (length kept) ends n).end → OfAnswer kept ends n (meant (answer_source (length kept) ends n) l kept)
  unfolding answer_source meant
  answer_there h =
      by_test (eqb n 0)
      (λ e. absurd (let z : 0 < 0 = rw e at h in omega arith))
      (λ e. by_test (leb (length ends) n)
      (λ f. absurd (let z : 0 < 0 = rw (e, f) at h in omega arith))
      (λ f. by_test (ltb (length kept) (get_or ends n 0))
      (λ g. absurd (let z : 0 < 0 = rw (e, f, g) at h in omega arith))
      (λ g.
      let x = get_or ends (n - 1) 0 in
      let y = get_or ends n 0 in
      let up : x < y = rw (e, f, g) at h in
      let within : y ≤ length kept = ltb-false (length kept) y g in
      let size : length (part x y kept) ≡ y - x = part_length x y kept (omega arith) within in
      let front-size : length (take x kept) ≡ x = length-take-le x kept (omega arith) in
      rw (e, f, g)
      (record {
        given = (omega (arith, eqb-false n 0 e), leb-false (length ends) n f);
        before = take x kept;
        beyond = drop y kept;
        whole = sym (take-append-drop x kept) ∙ ap (λ (t : List ℕ). take x kept ++ t) (part_rest x y kept (omega arith));
        from = front-size;
        to = omega (arith, size, front-size);
        some = omega (arith, size);
      }))))

  module _ (at : ℕ) where
    answer_block_lem : Exact (answer_block at (answer_source (length kept) ends n)) (bytes_of l kept true) (λ b. OfAnswer kept ends n b × (length b ≡ 8))
    unfolding answer_block fitting wrong
    answer_block_lem =
        let o = answer_source (length kept) ends n in
        let v = answer_block at o in
        let R : List ℕ → Type 0 = λ b. OfAnswer kept ends n b × (length b ≡ 8) in
        by_test (eqb (o.end - o.start) 8)
        (λ e.
        let m = eqb-true (o.end - o.start) 8 e in
        let a = answer_there (omega arith) in
        let eight : length (meant o l kept) ≡ 8 = omega (arith, m, answer_start (meant o l kept) a, answer_end (meant o l kept) a) in
        let is : padded 8 (meant o l kept) ≡ meant o l kept = padded_all 8 (meant o l kept) eight in
        a_value v (bytes_of l kept true) R (fitting 0 o) (rw e) refl (rw is (a, eight)) (λ b x. is ∙ answer_bytes b x.0))
        (λ e. no_value v (bytes_of l kept true) R (rw e)
        (λ b x. eqb-false (o.end - o.start) 8 e (omega (arith, answer_start b x.0, answer_end b x.0, x.1))))

    answer_data_lem : Exact (answer_data at (answer_source (length kept) ends n)) (bytes_of l kept false) (λ b. OfAnswer kept ends n b × (length b ≤ 65500))
    unfolding answer_data data_of fitting wrong
    answer_data_lem =
        let o = answer_source (length kept) ends n in
        let v = answer_data at o in
        let R : List ℕ → Type 0 = λ b. OfAnswer kept ends n b × (length b ≤ 65500) in
        by_test (ltb o.start o.end)
        (λ e.
        let a = answer_there (ltb-true o.start o.end e) in
        let size : o.end - o.start ≡ length (meant o l kept) = omega (arith, answer_start (meant o l kept) a, answer_end (meant o l kept) a) in
        by_test (leb (o.end - o.start) 65500)
        (λ small. a_value v (bytes_of l kept false) R (fitting 0 o) (rw (e, small)) refl (a, omega (arith, size, leb-true (o.end - o.start) 65500 small)) (λ b x. answer_bytes b x.0))
        (λ large. no_value v (bytes_of l kept false) R (rw (e, large))
        (λ b x. let z = leb-false (o.end - o.start) 65500 large in omega (arith, z, answer_start b x.0, answer_end b x.0, x.1))))
        (λ e. no_value v (bytes_of l kept false) R (rw e)
        (λ b x. let z = ltb-false o.start o.end e in omega (arith, z, answer_start b x.0, answer_end b x.0, x.0.some)))

    pub answer_exact : (eight : Bool) → Exact (answer_for eight at (answer_source (length kept) ends n)) (bytes_of l kept eight) (λ b. OfAnswer kept ends n b × Sized eight (length b))
    answer_exact true = answer_block_lem
    answer_exact false = answer_data_lem

-- a word of `$` and the letters ds
module _ (l kept ends : List ℕ) (s : ℕ) (ds r : List ℕ) (h : drop s l ≡ (code "$" ∷ ds) ++ r) where
  -- what it says is said by its letters after the `$`
  its_number : (b : List ℕ) → Ordinal kept ends (code "$" ∷ ds) b → (n : ℕ) × (0 < length ds) × Number 4294967295 ds n × OfAnswer kept ends n b
  its_number b x =
      let e : x.number ≡ ds = sym (tail-eq_of_cons-eq x.word) in
      (x.n, subst (λ (t : List ℕ). 0 < length t) e x.some, subst (λ (t : List ℕ). Number 4294967295 t x.n) e x.ordinal, x.answer)

  answer_read : (eight : Bool) → answer_value eight (length kept) ends l s (s + 1) (s + suc (length ds))
      ≡ cond (not (every Digit ds)) (wrong (s + 1 + front Digit (drop (s + 1) l)) (expected_bytes eight))
      (cond (leb (length ds) 0) (wrong (s + 1) (expected_bytes eight)) (answer_found eight (length kept) ends s (up_to 4294967295 (decimal_value ds))))
  unfolding answer_value
  answer_read eight =
      let t : drop (s + 1) l ≡ ds ++ r = letter-after l s (code "$") (ds ++ r) h in
      let z : s + suc (length ds) ≡ s + 1 + length ds = omega arith in
      let start : s + 1 ≡ s + 1 + 0 = omega arith in
      let none : leb (s + 1 + length ds) (s + 1) ≡ leb (length ds) 0 = ap (leb (s + 1 + length ds)) start ∙ shifted-leb (s + 1) (length ds) 0 in
      rw (z, run_ends l (s + 1) ds r t Digit, part_there l (s + 1) ds r t, none)

  pub ordinal_exact : (eight : Bool) → Exact (answer_value eight (length kept) ends l s (s + 1) (s + suc (length ds))) (bytes_of l kept eight)
      (λ b. Ordinal kept ends (code "$" ∷ ds) b × Sized eight (length b))
  unfolding answer_found wrong
  ordinal_exact eight =
      let v = answer_value eight (length kept) ends l s (s + 1) (s + suc (length ds)) in
      let f = bytes_of l kept eight in
      let R : List ℕ → Type 0 = λ b. Ordinal kept ends (code "$" ∷ ds) b × Sized eight (length b) in
      let n = decimal_value ds in
      by_test (every Digit ds)
      (λ all. by_test (leb (length ds) 0)
      (λ e. no_value v f R (ap (λ (u : Value). u.fits) (answer_read eight) ∙ rw (all, e)) (λ b x. omega (arith, leb-true (length ds) 0 e, (its_number b x.0).1)))
      (λ e. by_test (leb n 4294967295)
      (λ small.
      let w = leb-true n 4294967295 small in
      exact_is v f R (answer_for eight s (answer_source (length kept) ends n)) (answer_read eight ∙ rw (all, e, within_limit 4294967295 n w))
      (exact_for (answer_for eight s (answer_source (length kept) ends n)) f (λ b. OfAnswer kept ends n b × Sized eight (length b)) R
      (λ b x. (record { n = n; number = ds; word = refl; some = leb-false (length ds) 0 e; ordinal = record { digit = all; value = refl; within = w }; answer = x.0 }, x.1))
      (λ b x. let i = its_number b x.0 in (subst (λ (m : ℕ). OfAnswer kept ends m b) (sym i.2.value) i.3, x.1))
      (answer_exact l kept ends n s eight)))
      (λ large. no_value v f R (ap (λ (u : Value). u.fits) (answer_read eight) ∙ rw (all, e, above_limit 4294967295 n (leb-false n 4294967295 large)))
      (λ b x. let i = its_number b x.0 in omega (arith, leb-false n 4294967295 large, i.2.value, i.2.within)))))
      (λ none. no_value v f R (ap (λ (u : Value). u.fits) (answer_read eight) ∙ rw none) (λ b x. false≢true (sym none ∙ (its_number b x.0).2.digit)))

-- ---- blocks and data

module _ (l kept ends : List ℕ) (s c : ℕ) (cs r : List ℕ) (h : drop s l ≡ (c ∷ cs) ++ r) where
  hex_exact : (eight : Bool) → Exact (hex_for eight l s (s + suc (length cs))) (bytes_of l kept eight) (InHex eight (c ∷ cs))
  hex_exact true = block_exact l kept s (c ∷ cs) r h
  hex_exact false = data_exact l kept s (c ∷ cs) r h

  -- hex digits do not start with `$`
  no_hex : (eight : Bool) (b : List ℕ) → c ≡ code "$" → InHex eight (c ∷ cs) b → ⊥
  unfolding every is_in between
  no_hex eight b e x = false≢true (sym (ap (λ (m : ℕ). every Hex (m ∷ cs)) e) ∙ hex-of eight x)
    where
      hex-of : (eight : Bool) → InHex eight (c ∷ cs) b → every Hex (c ∷ cs) ≡ true
      hex-of true y = y.0.hex
      hex-of false y = y.0.hex

  pub bytes_exact : (eight : Bool) → Exact (bytes_value eight (length kept) ends l s (s + suc (length cs))) (bytes_of l kept eight)
      (λ b. InHex eight (c ∷ cs) b ⊎ (Ordinal kept ends (c ∷ cs) b × Sized eight (length b)))
  unfolding bytes_value
  bytes_exact eight =
      let v = bytes_value eight (length kept) ends l s (s + suc (length cs)) in
      let f = bytes_of l kept eight in
      let Q : List ℕ → Type 0 = λ b. Ordinal kept ends (c ∷ cs) b × Sized eight (length b) in
      let R : List ℕ → Type 0 = λ b. InHex eight (c ∷ cs) b ⊎ Q b in
      let there = letter_there l s c (cs ++ r) h in
      by_test (eqb c (code "$"))
      (λ e.
      let is = eqb-true c (code "$") e in
      let u = answer_value eight (length kept) ends l s (s + 1) (s + suc (length cs)) in
      exact_is v f R u (rw (there, e))
      (exact_for u f Q R (λ b x. inr x) (λ b x. ⊎_elim (λ y. absurd (no_hex eight b is y)) (λ y. y) x)
      (subst (λ (m : ℕ). Exact u f (λ b. Ordinal kept ends (m ∷ cs) b × Sized eight (length b))) (sym is) (ordinal_exact l kept ends s cs r (h ∙ ap (λ (m : ℕ). m ∷ (cs ++ r)) is) eight))))
      (λ e.
      let u = hex_for eight l s (s + suc (length cs)) in
      exact_is v f R u (rw (there, e))
      (exact_for u f (InHex eight (c ∷ cs)) R (λ b x. inl x) (λ b x. ⊎_elim (λ y. y) (λ y. absurd (eqb-false c (code "$") e (head-eq_of_cons-eq y.0.word))) x) (hex_exact eight)))
