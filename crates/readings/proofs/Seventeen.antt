-- 17 is answered exactly where reading comes to what is cut, and behind it comes no other answer.
use Rattle.std.specs.Prelude.{◌≡◌, true, ◌↔◌, length, List, [], ◌∷◌, ◌++◌, ℕ, zero, suc}
use Rattle.std.proofs.Common.{refl, sym, ap, ◌∙◌, true≢false, arith, eq-eqb}
use Rattle.std.proofs.lemmas.Bool.{false≢true}
use Rattle.stream.specs.declared.Field.{Field}
use Rattle.stream.specs.declared.Field.TheVariants.{Whole, Cut, End}
use Rattle.stream.specs.Fields.{Bytes, part, field_at, within}
use Rattle.rules.specs.World.{World}
use Rattle.rules.specs.Step.{number_of}
use Rattle.session.specs.Run.{answer_to, Answered, answered, go_on, carry_on, ran_from, turn}
use Rattle.readings.specs.Cut.{Reaches, here, behind, RunsOut, has17, Last}
use Rattle.readings.proofs.Cut.{not_17, seventeen}

none_more : (before : List Answered) (a : Answered) (rest : List Answered) → [] ≡ before ++ a ∷ rest → ⊥
none_more [] a rest e = cc
none_more (x ∷ before) a rest e = cc

tails : {x y : Answered} {xs ys : List Answered} → x ∷ xs ≡ y ∷ ys → xs ≡ ys
tails e = cc

module _ (s : Bytes) where
  found_at : (n : ℕ) → ((w : World) (out : Bytes) (at : ℕ) → has17 (carry_on n s w out at).answers ≡ true → RunsOut s at)
      → (w : World) (out : Bytes) (at : ℕ) (f : Field) → field_at s at ≡ f
      → has17 (go_on (carry_on n s) w out s f).answers ≡ true → RunsOut s at
  found_at n ih w out at (Whole tag start end) e h =
      let r = ih _ _ end (rw (not_17 w tag (part start end s) out) at h) in
      record { to = r.to; tag = r.tag; reached = behind e r.reached; cut = r.cut }
  found_at n ih w out at (Cut tag) e h = record { to = at; tag = tag; reached = here; cut = e }
  found_at n ih w out at End e h = absurd (false≢true h)

  found : (n : ℕ) (w : World) (out : Bytes) (at : ℕ) → has17 (carry_on n s w out at).answers ≡ true → RunsOut s at
  unfolding carry_on
  found zero w out at h = absurd (false≢true h)
  found (suc n) w out at h = found_at n (found n) w out at (field_at s at) refl h

  met : {at to : ℕ} (tag : ℕ) → Reaches s at to → field_at s to ≡ Cut tag
      → (w : World) (out : Bytes) → has17 (ran_from s w out at).answers ≡ true
  met tag (here {at = at}) c w out = rw (seventeen s w out at tag c)
  met tag (behind {at = at} {tag = t} {start = start} {end = end} e r) c w out =
      let b = within s at t start end e in
      let v = part start end s in
      let then = answer_to w t v out in
      rw (turn s w out at (omega (arith, b.0, b.1, b.2)), e, not_17 w t v out) (met tag r c then.world then.answered.output)

  -- 17 is answered exactly if reading comes to what is cut
  pub seventeen_exactly : (w : World) (out : Bytes) (at : ℕ) → has17 (ran_from s w out at).answers ≡ true ↔ RunsOut s at
  unfolding ran_from
  seventeen_exactly w out at = (found (length s) w out at, λ r. met r.tag r.reached r.cut w out)

  last_at : (n : ℕ) → ((w : World) (out : Bytes) (at : ℕ) → Last (carry_on n s w out at).answers)
      → (w : World) (out : Bytes) (f : Field) → Last (go_on (carry_on n s) w out s f).answers
  last_at n ih w out (Whole tag start end) [] a rest e h =
      let v = part start end s in
      let first : answered tag (answer_to w tag v out).answered ≡ a = cc in
      let is : number_of (answer_to w tag v out).answered.answer ≡ 17 =
      ap (λ (x : Answered). number_of x.told.answer) first ∙ h in
      absurd (true≢false (sym (eq-eqb _ 17 is) ∙ not_17 w tag v out))
  last_at n ih w out (Whole tag start end) (x ∷ before) a rest e h = ih _ _ end before a rest (tails e) h
  last_at n ih w out (Cut tag) [] a rest e h = cc
  last_at n ih w out (Cut tag) (x ∷ before) a rest e h = absurd (none_more before a rest (tails e))
  last_at n ih w out End before a rest e h = absurd (none_more before a rest e)

  last : (n : ℕ) (w : World) (out : Bytes) (at : ℕ) → Last (carry_on n s w out at).answers
  unfolding carry_on
  last zero w out at before a rest e h = absurd (none_more before a rest e)
  last (suc n) w out at before a rest e h = last_at n (last n) w out (field_at s at) before a rest e h

  -- it is the last
  pub seventeen_last : (w : World) (out : Bytes) (at : ℕ) → Last (ran_from s w out at).answers
  unfolding ran_from
  seventeen_last w out at = last (length s) w out at
