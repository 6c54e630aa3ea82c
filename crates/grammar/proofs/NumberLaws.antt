-- A word as a number or a function: the reader takes exactly the words of the table.
use Rattle.std.specs.Prelude.{◌≡◌, true, false, not, ◌⊎◌, eqb, ltb, leb, drop}
use Rattle.std.proofs.Math.Path.{refl, sym, ap}
use Rattle.std.proofs.Common.{◌∙◌, true≢false, inl, inr, arith}
use Rattle.std.proofs.Math.Bool.{cond, false≢true}
use mathlib.Core.List.{List, [], ◌∷◌, ◌++◌, head-eq_of_cons-eq}
use Prim.Native.Nat.{ℕ, ◌+◌, ◌-◌}
use Prim.Native.Char.{code}
use Rattle.std.proofs.Math.ListN.{length}
use borrow.Author.Tests.{eqb-true, eq-eqb, ne_eqb, leb-true, leb-false}
use Rattle.ground.specs.Search.{by_test}
use Rattle.ground.specs.Rows.{digits}
use Rattle.printout.specs.Text.{letters}
use Rattle.values.specs.Numbers.{decimal_value, up_to, above_limit, within_limit}
use Rattle.values.specs.Values.{Value, fitting, wrong, numeric, number_found, number_value, function_letter, function_value}
use Rattle.words.specs.declared.Class.{Class}
use Rattle.words.specs.declared.Class.TheVariants.{Digit}
use Rattle.words.specs.declared.Expected.{Expected}
use Rattle.words.specs.declared.Expected.TheVariants.{Function as AFunction}
use Rattle.words.specs.Letters.{front}
use Rattle.grammar.specs.Lines.{every, plain}
use Rattle.grammar.specs.Means.{Numeral, Function}
use Rattle.grammar.proofs.LetterLaws.{shifted-ltb, front-within, letter_there, part_there}
use Rattle.grammar.specs.NumberLaws.{Exact}

module _ (v : Value) (bytes : Value → List ℕ) (R : List ℕ → Type 0) where
  pub no_value : v.fits ≡ false → ((b : List ℕ) → R b → ⊥) → Exact v bytes R
  no_value e h = record { fits-has = λ f. absurd (true≢false (sym f ∙ e)); has-fits = λ b r. absurd (h b r) }

  pub a_value : (u : Value) → v ≡ u → u.fits ≡ true → R (bytes u) → ((b : List ℕ) → R b → bytes u ≡ b) → Exact v bytes R
  a_value u e f r h = rw e (record { fits-has = λ x. r; has-fits = λ b x. (f, h b x) })

  pub exact_is : (u : Value) → v ≡ u → Exact u bytes R → Exact v bytes R
  exact_is u e x = rw e x

  pub exact_for : (Q : List ℕ → Type 0) → ((b : List ℕ) → R b → Q b) → ((b : List ℕ) → Q b → R b) → Exact v bytes R → Exact v bytes Q
  exact_for Q to from x = record { fits-has = λ f. to (bytes v) (x.fits-has f); has-fits = λ b q. x.has-fits b (from b q) }

-- ---- a plain word w that starts at s

module _ (l : List ℕ) (s : ℕ) (w r : List ℕ) (h : drop s l ≡ w ++ r) where
  -- whether all its letters are of a class
  pub run_ends : (k : Class) → ltb (s + front k (drop s l)) (s + length w) ≡ not (every k w)
  run_ends k = shifted-ltb s (front k (drop s l)) (length w) ∙ ap (λ (x : List ℕ). ltb (front k x) (length w)) h ∙ front-within k w r

  number_read : (e : Expected) (limit : ℕ) → number_value e limit l s (s + length w) ≡ cond (not (every Digit w)) (wrong (s + front Digit (drop s l)) e) (number_found e s (up_to limit (decimal_value w)))
  unfolding number_value
  number_read e limit = rw (run_ends Digit, part_there l s w r h)

  pub numeral_exact : (e : Expected) (size limit : ℕ) → Exact (number_value e limit l s (s + length w)) (λ v. digits 256 size v.number) (Numeral size limit (plain w))
  unfolding number_found fitting wrong
  numeral_exact e size limit =
      let v = number_value e limit l s (s + length w) in
      let f : Value → List ℕ = λ u. digits 256 size u.number in
      let n = decimal_value w in
      by_test (every Digit w)
      (λ all. by_test (leb n limit)
      (λ small. a_value v f (Numeral size limit (plain w)) (numeric n) (number_read e limit ∙ rw (all, within_limit limit n (leb-true n limit small))) refl
      (n, record { digit = all; value = refl; within = leb-true n limit small }, refl)
      (λ b x. ap (digits 256 size) x.1.value ∙ x.2))
      (λ large. no_value v f (Numeral size limit (plain w)) (ap (λ (u : Value). u.fits) (number_read e limit) ∙ rw (all, above_limit limit n (leb-false n limit large)))
      (λ b x. let z = leb-false n limit large in omega (arith, x.1.value, x.1.within))))
      (λ none. no_value v f (Numeral size limit (plain w)) (ap (λ (u : Value). u.fits) (number_read e limit) ∙ rw none) (λ b x. false≢true (sym none ∙ x.1.digit)))

-- ---- the function

one_letter : (c : ℕ) → function_letter c ≡ true → ((c ∷ [] ≡ letters "t") ⊎ ((c ∷ [] ≡ letters "r") ⊎ (c ∷ [] ≡ letters "s"))) × (digits 256 1 c ≡ c ∷ [])
unfolding function_letter digits
one_letter c h =
    by_test (eqb c (code "t"))
    (λ e. rw (eqb-true c (code "t") e) (inl refl, refl))
    (λ e. by_test (eqb c (code "r"))
    (λ f. rw (eqb-true c (code "r") f) (inr (inl refl), refl))
    (λ f. by_test (eqb c (code "s"))
    (λ g. rw (eqb-true c (code "s") g) (inr (inr refl), refl))
    (λ g. absurd (false≢true (rw (e, f, g) at h)))))

letter_one : (c : ℕ) → (c ∷ [] ≡ letters "t") ⊎ ((c ∷ [] ≡ letters "r") ⊎ (c ∷ [] ≡ letters "s")) → function_letter c ≡ true
unfolding function_letter
letter_one c (inl e) = rw (head-eq_of_cons-eq e)
letter_one c (inr (inl e)) = rw (head-eq_of_cons-eq e)
letter_one c (inr (inr e)) = rw (head-eq_of_cons-eq e)

-- it is one letter long
pub one_long : (w : List ℕ) → (w ≡ letters "t") ⊎ ((w ≡ letters "r") ⊎ (w ≡ letters "s")) → length w ≡ 1
one_long w (inl e) = ap length e
one_long w (inr (inl e)) = ap length e
one_long w (inr (inr e)) = ap length e

module _ (l : List ℕ) (s : ℕ) where
  not_one : (w : List ℕ) → (length w ≡ 1 → ⊥) → Exact (function_value l s (s + length w)) (λ v. digits 256 1 v.number) (Function (plain w))
  unfolding function_value wrong
  not_one w n =
      no_value (function_value l s (s + length w)) (λ v. digits 256 1 v.number) (Function (plain w))
      (rw (ne_eqb (s + length w - s) 1 (λ e. n (omega arith))))
      (λ b x. n (one_long w x.0))

  pub function_exact : (w r : List ℕ) → drop s l ≡ w ++ r → Exact (function_value l s (s + length w)) (λ v. digits 256 1 v.number) (Function (plain w))
  unfolding function_value wrong fitting
  function_exact [] r h = not_one [] (λ e. omega arith)
  function_exact (c ∷ x ∷ cs) r h = not_one (c ∷ x ∷ cs) (λ e. omega arith)
  function_exact (c ∷ []) r h =
      let v = function_value l s (s + 1) in
      let f : Value → List ℕ = λ u. digits 256 1 u.number in
      let read : v ≡ cond (function_letter c) (numeric c) (wrong s AFunction) = rw (eq-eqb (s + 1 - s) 1 (omega arith), letter_there l s c r h) in
      by_test (function_letter c)
      (λ e. let o = one_letter c e in
      a_value v f (Function (plain (c ∷ []))) (numeric c) (read ∙ rw e) refl (o.0, sym o.1) (λ b x. o.1 ∙ x.1))
      (λ e. no_value v f (Function (plain (c ∷ []))) (ap (λ (u : Value). u.fits) read ∙ rw e) (λ b x. false≢true (sym e ∙ letter_one c x.0)))
