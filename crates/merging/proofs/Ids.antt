-- Lists of identifiers: who stands in one, whether anyone does twice, and how many different ones there are.
use Rattle.std.specs.Prelude.{◌≡◌, refl, true, false, cond, List, [], ◌∷◌, ◌++◌, ℕ, suc, ◌≤◌, eqb, length}
use Rattle.std.proofs.Common.{sym, ap, ◌∙◌, subst, zero-le, arith, eqb-true, eq-eqb, ne_eqb}
use Rattle.std.proofs.lemmas.Bool.{false≢true}
use Rattle.ground.specs.Search.{by_test}
use Rattle.merging.specs.Ids.{mem, Distinct, once, distinct}

-- ---- who stands in a list

pub mem_head : (u : ℕ) (xs : List ℕ) → mem u (u ∷ xs) ≡ true
mem_head u xs = rw (eq-eqb u u refl)

pub mem_tail : (u x : ℕ) (xs : List ℕ) → mem u xs ≡ true → mem u (x ∷ xs) ≡ true
mem_tail u x xs h = by_test (eqb u x) (λ e. rw e) (λ e. rw e h)

pub mem-left : (u : ℕ) (xs ys : List ℕ) → mem u xs ≡ true → mem u (xs ++ ys) ≡ true
mem-left u [] ys h = absurd (false≢true h)
mem-left u (x ∷ xs) ys h = by_test (eqb u x) (λ e. rw e) (λ e. rw e (mem-left u xs ys (rw e at h)))

pub mem_right : (u : ℕ) (xs ys : List ℕ) → mem u ys ≡ true → mem u (xs ++ ys) ≡ true
mem_right u [] ys h = h
mem_right u (x ∷ xs) ys h = mem_tail u x (xs ++ ys) (mem_right u xs ys h)

pub mem-once : (u : ℕ) (xs : List ℕ) → mem u xs ≡ true → mem u (once xs) ≡ true
mem-once u [] h = h
mem-once u (x ∷ xs) h =
    by_test (mem x xs)
    (λ m. rw m (by_test (eqb u x) (λ e. mem-once u xs (rw (eqb-true u x e) m)) (λ e. mem-once u xs (rw e at h))))
    (λ m. rw m (by_test (eqb u x) (λ e. rw e) (λ e. rw e (mem-once u xs (rw e at h)))))

-- who stands in a list is not one who does not
pub mem_apart : (u v : ℕ) (xs : List ℕ) → mem u xs ≡ true → mem v xs ≡ false → u ≡ v → ⊥
mem_apart u v xs h n q = false≢true (sym n ∙ subst (λ (x : ℕ). mem x xs ≡ true) q h)

pub distinct_by : (xs : List ℕ) → distinct xs ≡ true → Distinct xs
distinct_by [] e = tt
distinct_by (x ∷ xs) e = by_test (mem x xs) (λ m. absurd (false≢true (rw m at e))) (λ m. (m, distinct_by xs (rw m at e)))

-- ---- different identifiers that all stand in a list are no more than the list is long

remove : ℕ → List ℕ → List ℕ
remove x [] = []
remove x (y ∷ ys) = cond (eqb x y) ys (y ∷ remove x ys)

remove_length : (x : ℕ) (ys : List ℕ) → mem x ys ≡ true → suc (length (remove x ys)) ≡ length ys
unfolding remove
remove_length x [] h = absurd (false≢true h)
remove_length x (y ∷ ys) h = by_test (eqb x y) (λ e. rw e) (λ e. rw e (ap suc (remove_length x ys (rw e at h))))

remove_mem : (x u : ℕ) (ys : List ℕ) → eqb u x ≡ false → mem u ys ≡ true → mem u (remove x ys) ≡ true
unfolding remove
remove_mem x u [] n h = h
remove_mem x u (y ∷ ys) n h =
    by_test (eqb x y)
    (λ e. rw e (rw (sym (eqb-true x y e), n) at h))
    (λ e. rw e (by_test (eqb u y) (λ d. rw d) (λ d. rw d (remove_mem x u ys n (rw d at h)))))

pub pigeonhole : (xs ys : List ℕ) → Distinct xs → ((u : ℕ) → mem u xs ≡ true → mem u ys ≡ true) → length xs ≤ length ys
pigeonhole [] ys d s = zero-le
pigeonhole (x ∷ xs) ys d s =
    let ih : length xs ≤ length (remove x ys) =
    pigeonhole xs (remove x ys) d.1 (λ u h. remove_mem x u ys (ne_eqb u x (mem_apart u x xs h d.0)) (s u (mem_tail u x xs h))) in
    let e : suc (length (remove x ys)) ≡ length ys = remove_length x ys (s x (mem_head x xs)) in
    omega arith
