-- How long a command's fields can be, one after the other: only the data may be long, they come last, and a command with data has at most three fields.
use Rattle.std.specs.Prelude.{◌≡◌, refl, Bool, true, false, cond, ◌⊎◌, List, [], ◌∷◌, ℕ, suc, ◌+◌, ◌*◌, ◌≤◌, ◌<◌, eqb, leb, length}
use Rattle.std.proofs.Common.{sym, ap, ◌∙◌, subst, inl, inr, mul-suc, arith, eqb-true, leb-true}
use Rattle.std.specs.Prelude.{Some}
use Rattle.std.proofs.lemmas.Option.{none-some}
use Rattle.std.proofs.lemmas.Bool.{eqb-false}
use Rattle.ground.specs.Search.{by_test}
use Rattle.stream.specs.declared.Request.{Request}
use Rattle.stream.specs.Fields.{Bytes}
use Rattle.stream.specs.Commands.{Row as Form, commands, arguments_in, arguments_of, blank}
use Rattle.stream.specs.Grammar.{argument, among}
use Rattle.stream.specs.GrammarLaws.{ascending}
use Rattle.stream.proofs.GrammarLaws.{above, up_to, later}
use Rattle.grammar.proofs.LetterLaws.{both}
use Rattle.grammar.specs.Sizes.{few}

commands-few : few commands ≡ true
unfolding few among
commands-few = refl

row-few : (t : ℕ) (rs : List Form) (ks : List ℕ) → few rs ≡ true → arguments_in t rs ≡ Some ks → among 0x87 ks ≡ true → length ks ≤ 3
unfolding few
row-few t [] ks h e x = absurd (none-some ks e)
row-few t (r ∷ rs) ks h e x =
    let y = both _ (few rs) h in
    by_test (eqb t r.tag)
    (λ q.
    let is : r.arguments ≡ ks = cc in
    subst (λ (l : List ℕ). length l ≤ 3) is (leb-true (length r.arguments) 3 (sym (ap (λ (b : Bool). cond b (leb (length r.arguments) 3) true) (ap (among 0x87) is ∙ x)) ∙ y.0)))
    (λ q. row-few t rs ks y.1 (rw q at e) x)

-- a command has no data, or at most three fields
pub with_data : (t : ℕ) (ks : List ℕ) (a : Request) (d : Bytes) → arguments_of t ≡ Some ks → ((k : ℕ) → among k ks ≡ false → argument k a d ≡ argument k (blank t) [])
    → (length d ≡ 0) ⊎ (length ks ≤ 3)
unfolding arguments_of argument
with_data t ks a d known absent =
    by_test (among 0x87 ks)
    (λ x. inr (row-few t commands ks commands-few known x))
    (λ x. inl (ap length (absent 0x87 x)))

-- ---- one after the other

-- parts of at most c letters each, but for the one of the data, which has n more
module _ (part : ℕ → ℕ) (all : List ℕ → ℕ) (c n : ℕ) (none : all [] ≡ 0) (one : (k : ℕ) (ks : List ℕ) → all (k ∷ ks) ≡ part k + all ks)
    (small : (k : ℕ) → 0x80 < k → k ≤ 0x87 → k < 0x87 → part k ≤ c) (long : part 0x87 ≤ c + n) where
  -- the data come last
  last-length : (ks : List ℕ) → ascending 0x87 ks ≡ true → all (0x87 ∷ ks) ≤ c * suc (length ks) + n
  last-length [] up = omega (arith, one 0x87 [], none, long, mul-suc c 0)
  last-length (k ∷ ks) up = absurd (omega (arith, above 0x87 k ks up, up_to 0x87 k ks up))

  pub all_length : (m : ℕ) (ks : List ℕ) → 0x80 ≤ m → ascending m ks ≡ true → all ks ≤ c * length ks + n
  all_length m [] base up = omega (arith, none)
  all_length m (k ∷ ks) base up =
      let u = above m k ks up in
      let i = all_length k ks (omega arith) (later m k ks up) in
      by_test (eqb k 0x87)
      (λ e. subst (λ (j : ℕ). ascending j ks ≡ true → all (j ∷ ks) ≤ c * suc (length ks) + n) (sym (eqb-true k 0x87 e)) (last-length ks) (later m k ks up))
      (λ e.
      let w = small k (omega arith) (up_to m k ks up) (omega (arith, up_to m k ks up, eqb-false k 0x87 e)) in
      omega (arith, w, i, one k ks, mul-suc c (length ks)))
