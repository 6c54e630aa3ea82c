-- A merge, told the other way: each identifier's requests in the run, picked out in their order, are its list.
use Rattle.std.specs.Prelude.{◌≡◌, refl, true, false, cond, ◌↔◌, ℕ, eqb}
use Rattle.std.proofs.Common.{sym, ap, ◌∙◌, true≢false, eqb-true, eq-eqb, ne_eqb}
use Rattle.std.proofs.Math.Path.{subst}
use mathlib.Core.List.{List, [], ◌∷◌, nil≢cons, tail-eq_of_cons-eq}
use Rattle.ground.specs.Search.{by_test}
use Rattle.merging.specs.Ids.{mem, Distinct}
use Rattle.merging.proofs.Ids.{mem_head, mem_tail, mem_apart}
use Rattle.merging.specs.Demand3.{Request, Lists, Run, users, list_of, Next, here, there, Finished, Merge, done, next}

module _ {C : Type 0} where
  -- the requests of u in the run, in their order
  abbrev pub of : ℕ → Run C → List (Request C)
  of u [] = []
  of u (x ∷ m) = cond (eqb u x.0) (x.1 ∷ of u m) (of u m)

  abbrev pub Picked : Lists C → Run C → Type 0
  Picked lists m = (u : ℕ) → of u m ≡ list_of u lists

  -- one who has no list asks for nothing
  pub no_list : (lists : Lists C) (u : ℕ) → mem u (users lists) ≡ false → list_of u lists ≡ []
  no_list [] u n = refl
  no_list (l ∷ ls) u n = by_test (eqb u l.0) (λ e. absurd (true≢false (rw e at n))) (λ e. rw e (no_list ls u (rw e at n)))

  -- ---- from the one to the other

  next_user : {lists rest : Lists C} {u : ℕ} {q : Request C} → Next C lists u q rest → mem u (users lists) ≡ true
  next_user (here {u = u} {ls = ls}) = mem_head u (users ls)
  next_user (there {l = l} {ls = ls} {u = u} n) = mem_tail u l.0 (users ls) (next_user n)

  next-users : {lists rest : Lists C} {u : ℕ} {q : Request C} → Next C lists u q rest → users rest ≡ users lists
  next-users here = refl
  next-users (there {l = l} n) = ap {B = List ℕ} (λ us. l.0 ∷ us) (next-users n)

  -- u's list is q and what is left of it; the others' lists stay
  next_list : {lists rest : Lists C} {u : ℕ} {q : Request C} → Next C lists u q rest → Distinct (users lists)
      → (v : ℕ) → list_of v lists ≡ cond (eqb v u) (q ∷ list_of v rest) (list_of v rest)
  next_list (here {u = u}) d v = by_test (eqb v u) (λ e. rw e) (λ e. rw e)
  next_list (there {l = l} {ls = ls} {rest = rest} {u = u} {q = q} n) d v =
      by_test (eqb v l.0)
      (λ e.
      let f : eqb v u ≡ false = ne_eqb v u (λ r. mem_apart u l.0 (users ls) (next_user n) d.0 (sym r ∙ eqb-true v l.0 e)) in
      rw (e, f))
      (λ e. rw e (next_list n d.1 v))

  finished_list : (lists : Lists C) → Finished lists → (u : ℕ) → list_of u lists ≡ []
  finished_list [] f u = refl
  finished_list (l ∷ ls) f u = by_test (eqb u l.0) (λ e. rw e f.0) (λ e. rw e (finished_list ls f.1 u))

  pub merge_picked : {lists : Lists C} {m : Run C} → Distinct (users lists) → Merge C lists m → Picked lists m
  merge_picked {lists} d (done f) v = sym (finished_list lists f v)
  merge_picked d (next {rest = rest} {m = m} n p) v =
      let ih : of v m ≡ list_of v rest = merge_picked (rw (next-users n) d) p v in
      rw ih (sym (next_list n d v))

  -- ---- and back

  -- what is left of the lists where u's next request is taken
  tail_of : List (Request C) → List (Request C)
  tail_of [] = []
  tail_of (q ∷ qs) = qs

  left_of : ℕ → Lists C → Lists C
  left_of u [] = []
  left_of u (l ∷ ls) = cond (eqb u l.0) ((l.0, tail_of l.1) ∷ ls) (l ∷ left_of u ls)

  take_next : (lists : Lists C) (u : ℕ) (q : Request C) (qs : List (Request C)) → list_of u lists ≡ q ∷ qs → Next C lists u q (left_of u lists)
  unfolding left_of tail_of
  take_next [] u q qs h = absurd (nil≢cons h)
  take_next (l ∷ ls) u q qs h =
      by_test (eqb u l.0)
      (λ e.
      let k : l.1 ≡ q ∷ qs = rw e at h in
      rw e (first l.0 l.1 k (eqb-true u l.0 e)))
      (λ e. rw e (there (take_next ls u q qs (rw e at h))))
    where
      first : (x : ℕ) (ys : List (Request C)) → ys ≡ q ∷ qs → u ≡ x → Next C ((x, ys) ∷ ls) u q ((x, tail_of ys) ∷ ls)
      first x ys k r = subst (λ (zs : List (Request C)). Next C ((x, zs) ∷ ls) u q ((x, tail_of zs) ∷ ls)) (sym k) (subst (λ (z : ℕ). Next C ((z, q ∷ qs) ∷ ls) u q ((z, qs) ∷ ls)) r here)

  all_finished : (lists : Lists C) → Distinct (users lists) → ((u : ℕ) → list_of u lists ≡ []) → Finished lists
  all_finished [] d h = tt
  all_finished (l ∷ ls) d h = (
    rw (eq-eqb l.0 l.0 refl) at (h l.0),
    all_finished ls d.1 λ u. by_test (mem u (users ls))
        (λ e. rw (ne_eqb u l.0 (mem_apart u l.0 (users ls) e d.0)) at (h u))
        (λ e. no_list ls u e),
  )

  pub picked_merge : (m : Run C) (lists : Lists C) → Distinct (users lists) → Picked lists m → Merge C lists m
  picked_merge [] lists d p = done (all_finished lists d (λ u. sym (p u)))
  picked_merge (x ∷ m) lists d p = next taken (picked_merge m (left_of x.0 lists) (rw (next-users taken) d) others)
    where
      taken : Next C lists x.0 x.1 (left_of x.0 lists)
      taken = take_next lists x.0 x.1 (of x.0 m) (sym (p x.0) ∙ rw (eq-eqb x.0 x.0 refl))

      others : Picked (left_of x.0 lists) m
      others v =
          let q : cond (eqb v x.0) (x.1 ∷ of v m) (of v m) ≡ cond (eqb v x.0) (x.1 ∷ list_of v (left_of x.0 lists)) (list_of v (left_of x.0 lists)) = p v ∙ next_list taken d v in
          by_test (eqb v x.0) (λ e. tail-eq_of_cons-eq (rw e at q)) (λ e. rw e at q)

  -- where each identifier has one list, the two forms are one
  pub two_forms : (lists : Lists C) → Distinct (users lists) → (m : Run C) → Merge C lists m ↔ Picked lists m
  two_forms lists one m = (merge_picked one, picked_merge m lists one)
