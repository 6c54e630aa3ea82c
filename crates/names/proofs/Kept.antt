-- Laws of names compared letter by letter, and of the names in groups. They stood in specs/; the code is proved without them.
use Rattle.std.specs.Prelude.{◌≡◌, refl, Bool, true, false, cond, List, [], ◌∷◌, ℕ, ◌+◌, ◌≤◌, ◌<◌, eqb, length, get_or, drop}
use Rattle.std.proofs.Common.{sym, ap, ◌∙◌, true≢false, add-one, drop_of_length-le, drop-cons}
use Rattle.std.proofs.lemmas.Bool.{false≢true}
use Rattle.ground.specs.Search.{by_test}
use Rattle.printout.specs.Rows.{Row}
use Rattle.names.specs.Names.{Start, capital, same_name, start_in, unknown}

-- ---- two names compared letter by letter

pub same_step : (w n : List ℕ) (i : ℕ) → i < length w → i < length n
    → same_name (drop i w) (drop i n) ≡ cond (eqb (capital (get_or w i 0)) (get_or n i 0)) (same_name (drop (i + 1) w) (drop (i + 1) n)) false
unfolding same_name
same_step w n i h k = rw (add-one, drop-cons w i 0 h, drop-cons n i 0 k)

pub same_end : (w n : List ℕ) (i : ℕ) → length w ≤ i → length n ≤ i → same_name (drop i w) (drop i n) ≡ true
unfolding same_name
same_end w n i h k = rw (drop_of_length-le w h, drop_of_length-le n k)

-- ---- the names in groups, one after the other: what a group gives by itself, s, is the answer where it is known

module _ (w : List ℕ) (else : Start) where
  pub in_group : (rs : List Row) (s : Start) → s ≡ start_in w rs unknown → s.known ≡ true → s ≡ start_in w rs else
  in_group rs s e h = e ∙ known rs (ap (λ (t : Start). t.known) (sym e) ∙ h)
    where
      known : (qs : List Row) → (start_in w qs unknown).known ≡ true → start_in w qs unknown ≡ start_in w qs else
      known [] k = absurd (false≢true k)
      known (r ∷ qs) k = by_test (same_name w r.words) (λ b. rw b) (λ b. rw b (known qs (rw b at k)))

  pub past_group : (rs : List Row) (s t : Start) → s ≡ start_in w rs unknown → s.known ≡ false → t ≡ else → t ≡ start_in w rs else
  past_group rs s t e h f = f ∙ sym (not_known rs (ap (λ (q : Start). q.known) (sym e) ∙ h))
    where
      not_known : (qs : List Row) → (start_in w qs unknown).known ≡ false → start_in w qs else ≡ else
      not_known [] k = refl
      not_known (r ∷ qs) k = by_test (same_name w r.words) (λ b. absurd (true≢false (rw b at k))) (λ b. rw b (not_known qs (rw b at k)))

-- ---- the rows one by one

pub skip : (b : Bool) (x y s : Start) → b ≡ false → s ≡ y → s ≡ cond b x y
skip b x y s e f = rw e f

pub hit : (b : Bool) (x y s : Start) → b ≡ true → s ≡ x → s ≡ cond b x y
hit b x y s e f = rw e f
