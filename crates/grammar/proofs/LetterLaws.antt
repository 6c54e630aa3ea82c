-- Runs of letters of one class, and parts of a line.
use Rattle.std.specs.Prelude.{◌≡◌, Bool, true, false, cond, not, eqb, ltb, leb, get_or, take, drop}
use Rattle.std.proofs.Math.Path.{refl}
use Rattle.std.proofs.Common.{sym, ap, ◌∙◌, length-drop, drop-drop, take_at, drop_at, get_or-drop}
use Rattle.std.proofs.lemmas.Bool.{false≢true}
use mathlib.Core.List.{List, [], ◌∷◌, ◌++◌}
use Prim.Native.Nat.{ℕ, suc, ◌+◌, ◌-◌, ◌≤◌, ◌<◌}
use Prim.Native.Char.{code}
use native.Mathlib.Omega.{arith}
use Rattle.std.proofs.Math.ListN.{length}
use borrow.Author.Tests.{eqb-true, eq-eqb, ne_eqb, leb-true, leb-false, le-leb, lt-leb, lt-ltb, le-ltb}
use Rattle.ground.specs.Search.{by_test}
use Rattle.stream.specs.Fields.{part}
use Rattle.words.specs.declared.Class.{Class}
use Rattle.words.specs.declared.Class.TheVariants.{Plain}
use Rattle.words.specs.Letters.{blank_letter, is_in, front}
use Rattle.grammar.specs.Lines.{every, stopped}

-- ---- tests

pub both : (b c : Bool) → cond b c false ≡ true → (b ≡ true) × (c ≡ true)
both true c e = (refl, e)
both false c e = absurd (false≢true e)

pub second : (b c : Bool) → cond b false c ≡ true → (b ≡ false) × (c ≡ true)
second true c e = absurd (false≢true e)
second false c e = (refl, e)

-- the same added on both sides
pub shifted-leb : (s m n : ℕ) → leb (s + m) (s + n) ≡ leb m n
shifted-leb s m n =
    by_test (leb m n)
    (λ e. let h = leb-true m n e in le-leb (s + m) (s + n) (omega arith) ∙ sym e)
    (λ e. let h = leb-false m n e in lt-leb (s + m) (s + n) (omega arith) ∙ sym e)

pub shifted-ltb : (s m n : ℕ) → ltb (s + m) (s + n) ≡ ltb m n
shifted-ltb s m n = let e : suc (s + m) ≡ s + suc m = omega arith in rw e (shifted-leb s (suc m) n)

-- ---- runs of one class

module _ (k : Class) where
  -- a run goes on over letters of the class
  pub front-over : (b r : List ℕ) → every k b ≡ true → front k (b ++ r) ≡ length b + front k r
  unfolding every front
  front-over [] r h = omega arith
  front-over (c ∷ cs) r h =
      by_test (is_in k c)
      (λ e. let i = front-over cs r (rw e at h) in rw e (omega arith))
      (λ e. absurd (false≢true (rw e at h)))

  pub front_is : (b r : List ℕ) → every k b ≡ true → front k r ≡ 0 → front k (b ++ r) ≡ length b
  front_is b r h e = let f = front-over b r h in omega arith

  pub front-every : (l : List ℕ) → every k (take (front k l) l) ≡ true
  unfolding every front
  front-every [] = refl
  front-every (c ∷ cs) =
      let n : 1 + front k cs ≡ suc (front k cs) = omega arith in
      by_test (is_in k c) (λ e. rw (e, n, e) (front-every cs)) (λ e. rw e)

  pub front-after : (l : List ℕ) → front k (drop (front k l) l) ≡ 0
  unfolding front
  front-after [] = refl
  front-after (c ∷ cs) =
      let n : 1 + front k cs ≡ suc (front k cs) = omega arith in
      by_test (is_in k c) (λ e. rw (e, n) (front-after cs)) (λ e. rw (e, e))

  -- a word's letters are all of the class exactly where the run from its start does not end within it
  pub front-within : (w r : List ℕ) → ltb (front k (w ++ r)) (length w) ≡ not (every k w)
  unfolding every front
  front-within [] r = le-ltb (front k r) 0 (omega arith)
  front-within (c ∷ cs) r =
      by_test (is_in k c)
      (λ e. let n : suc (length cs) ≡ 1 + length cs = omega arith in rw (e, n) (shifted-ltb 1 (front k (cs ++ r)) (length cs) ∙ front-within cs r))
      (λ e. rw e (lt-ltb 0 (suc (length cs)) (omega arith)))

-- no plain letter follows: a blank letter, `#` or the end
stopped_is : (r : List ℕ) → eqb (front Plain r) 0 ≡ stopped r
unfolding front is_in stopped
stopped_is [] = refl
stopped_is (c ∷ cs) =
    by_test (blank_letter c)
    (λ e. rw e)
    (λ e. by_test (eqb c (code "#")) (λ h. rw (e, h)) (λ h. rw (e, h) (ne_eqb (1 + front Plain cs) 0 (λ q. omega arith))))

pub stopped-front : (r : List ℕ) → stopped r ≡ true → front Plain r ≡ 0
stopped-front r h = eqb-true (front Plain r) 0 (stopped_is r ∙ h)

pub front-stopped : (r : List ℕ) → front Plain r ≡ 0 → stopped r ≡ true
front-stopped r h = sym (stopped_is r) ∙ eq-eqb (front Plain r) 0 h

-- ---- a letter at a place

module _ (l : List ℕ) (s c : ℕ) (cs : List ℕ) (h : drop s l ≡ c ∷ cs) where
  pub letter-within : s < length l
  letter-within = omega (arith, sym (length-drop s l) ∙ ap length h)

  pub letter_there : get_or l s 0 ≡ c
  letter_there = ap (λ (n : ℕ). get_or l n 0) (omega arith) ∙ sym (get_or-drop s l 0 0) ∙ ap (λ (r : List ℕ). get_or r 0 0) h

  pub letter-after : drop (s + 1) l ≡ cs
  letter-after = sym (drop-drop 1 s l) ∙ ap (drop 1) h

pub nothing_there : (l : List ℕ) (s : ℕ) → drop s l ≡ [] → length l ≤ s
nothing_there l s h = omega (arith, sym (length-drop s l) ∙ ap length h)

-- a part of a line, and what follows it
module _ (l : List ℕ) (s : ℕ) (w r : List ℕ) (h : drop s l ≡ w ++ r) where
  pub part_there : part s (s + length w) l ≡ w
  part_there = let n : s + length w - s ≡ length w = omega arith in rw (n, h) (take_at w r (length w) refl)

  pub rest_there : drop (s + length w) l ≡ r
  rest_there = sym (drop-drop (length w) s l) ∙ ap (drop (length w)) h ∙ drop_at w r (length w) refl
