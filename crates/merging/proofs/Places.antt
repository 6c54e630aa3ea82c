-- What a look-up gives after a user's place was altered, and when there is room.
use Rattle.std.specs.Prelude.{◌≡◌, refl, Bool, true, false, cond, List, [], ◌∷◌, ℕ, suc, ◌≤◌, eqb, length}
use Rattle.std.proofs.Common.{sym, ap, ◌∙◌, true≢false, arith, lit≤, eqb-true, eq-eqb}
use Rattle.std.proofs.lemmas.Bool.{false≢true}
use Rattle.std.specs.Prelude.{Option, None, Some}
use Rattle.ground.specs.Search.{by_test}
use Rattle.state.specs.declared.Holdings.{Holdings}
use Rattle.state.specs.declared.Place.{Place}
use Rattle.state.specs.State.{vacant, seat, has, holders, find, all_taken, put, admit, give, leave, shut_to}
use Rattle.properties.specs.Single.{count, Single}
use Rattle.merging.specs.Ids.{mem, Distinct, distinct}
use Rattle.merging.proofs.Ids.{distinct_by, pigeonhole}

-- a place is u's, another's, or free
by_place {ℓ} : {P : Type ℓ} (u : ℕ) (p : Place)
    → (p.taken ≡ true → eqb u p.user ≡ true → P) → (p.taken ≡ true → eqb u p.user ≡ false → P) → (p.taken ≡ false → P) → P
by_place u p mine other free = by_test p.taken (λ k. by_test (eqb u p.user) (mine k) (other k)) free

-- u has no place, or he has one
pub by_find {ℓ} : {P : Type ℓ} (o : Option Holdings) → (o ≡ None → P) → ((g : Holdings) → o ≡ Some g → P) → P
by_find None f g = f refl
by_find (Some h) f g = g h refl

-- ---- who has a place, and who has none

pub find_none : (u : ℕ) (ps : List Place) → mem u (holders ps) ≡ false → find u ps ≡ None
find_none u [] n = refl
find_none u (p ∷ ps) n =
    by_place u p (λ k e. absurd (true≢false (rw (k, e) at n))) (λ k e. rw (k, e) (find_none u ps (rw (k, e) at n))) (λ k. rw k (find_none u ps (rw k at n)))

pub none_find : (u : ℕ) (ps : List Place) → find u ps ≡ None → mem u (holders ps) ≡ false
none_find u [] n = refl
none_find u (p ∷ ps) n =
    by_place u p (λ k e. let z : true ≡ false = cc (rw (k, e) at n) in rw (k, e) z) (λ k e. rw (k, e) (none_find u ps (rw (k, e) at n))) (λ k. rw k (none_find u ps (rw k at n)))

count_none : (u : ℕ) (ps : List Place) → count u ps ≤ 0 → find u ps ≡ None
count_none u [] c = refl
count_none u (p ∷ ps) c =
    by_test (has u p)
    (λ e. absurd (let z : suc (count u ps) ≤ 0 = rw e at c in omega arith))
    (λ e. ap (λ (b : Bool). cond b (Some p.holdings) (find u ps)) e ∙ count_none u ps (rw e at c))

-- ---- `put`: the place that u has

pub put-mine : (u : ℕ) (g h : Holdings) (ps : List Place) → find u ps ≡ Some g → find u (put u (seat u h) ps) ≡ Some h
put-mine u g h [] m = let z : true ≡ false = cc in absurd (true≢false z)
put-mine u g h (p ∷ ps) m =
    by_place u p (λ k e. rw (k, e, eq-eqb u u refl)) (λ k e. rw (k, e, e) (put-mine u g h ps (rw (k, e) at m))) (λ k. rw k (put-mine u g h ps (rw k at m)))

pub put-vacant : (u : ℕ) (ps : List Place) → count u ps ≤ 1 → find u (put u vacant ps) ≡ None
put-vacant u [] c = refl
put-vacant u (p ∷ ps) c =
    by_place u p
    (λ k e. let n : suc (count u ps) ≤ 1 = rw (k, e) at c in rw (k, e) (count_none u ps (omega arith)))
    (λ k e. rw (k, e, e) (put-vacant u ps (rw (k, e) at c)))
    (λ k. rw k (put-vacant u ps (rw k at c)))

put-length : (u : ℕ) (x : Place) (ps : List Place) → length (put u x ps) ≡ length ps
put-length u x [] = refl
put-length u x (p ∷ ps) = by_test (has u p) (λ e. rw e) (λ e. rw e (ap suc (put-length u x ps)))

-- ---- `admit`: the first free place

admit-mine : (u : ℕ) (h : Holdings) (ps : List Place) → find u ps ≡ None → all_taken ps ≡ false → find u (admit (seat u h) ps) ≡ Some h
admit-mine u h [] n a = absurd (true≢false a)
admit-mine u h (p ∷ ps) n a =
    by_place u p (λ k e. let z : true ≡ false = cc (rw (k, e) at n) in absurd (true≢false z))
    (λ k e. rw (k, e) (admit-mine u h ps (rw (k, e) at n) (rw k at a))) (λ k. rw (k, eq-eqb u u refl))

admit-length : (x : Place) (ps : List Place) → length (admit x ps) ≡ length ps
admit-length x [] = refl
admit-length x (p ∷ ps) = by_test p.taken (λ k. rw k (ap suc (admit-length x ps))) (λ k. rw k)

-- ---- `give` and `leave`

pub give-mine : (u : ℕ) (h : Holdings) (ps : List Place) → shut_to (find u ps) ps ≡ false → find u (give u h ps) ≡ Some h
unfolding give shut_to
give-mine u h ps s = by_find (find u ps) (λ e. rw e (admit-mine u h ps e (rw e at s))) (λ g e. rw e (put-mine u g h ps e))

pub give-length : (u : ℕ) (h : Holdings) (ps : List Place) → length (give u h ps) ≡ length ps
unfolding give
give-length u h ps = by_find (find u ps) (λ e. rw e (admit-length (seat u h) ps)) (λ g e. rw e (put-length u (seat u h) ps))

pub leave-mine : (u : ℕ) (ps : List Place) → count u ps ≤ 1 → find u (leave u ps) ≡ None
unfolding leave
leave-mine u ps c = put-vacant u ps c

pub leave-length : (u : ℕ) (ps : List Place) → length (leave u ps) ≡ length ps
unfolding leave
leave-length u ps = put-length u vacant ps

-- ---- room

fewer : (b : Bool) (n m : ℕ) → cond b (suc n) n ≤ m → n ≤ m
fewer true n m h = omega arith
fewer false n m h = h

-- nobody holds two places: nobody stands among the holders twice
single_distinct : (ps : List Place) → Single ps → Distinct (holders ps)
single_distinct [] s = tt
single_distinct (p ∷ ps) s =
    let r : Distinct (holders ps) = single_distinct ps (λ u. fewer (has u p) (count u ps) 1 (s u)) in
    by_test p.taken (λ k. rw k (none_find p.user ps (count_none p.user ps (last k)), r)) (λ k. rw k r)
  where
    last : p.taken ≡ true → count p.user ps ≤ 0
    last k =
        let z : has p.user p ≡ true = rw k (eq-eqb p.user p.user refl) in
        let n : suc (count p.user ps) ≤ 1 = rw z at (s p.user) in
        omega arith

absent : (u : ℕ) (ps : List Place) → mem u (holders ps) ≡ false → count u ps ≤ 0
absent u [] n = lit≤ tt
absent u (p ∷ ps) n =
    by_place u p (λ k e. absurd (true≢false (rw (k, e) at n))) (λ k e. rw (k, e) (absent u ps (rw (k, e) at n))) (λ k. rw k (absent u ps (rw k at n)))

-- and back, by the test
pub single_by : (ps : List Place) → distinct (holders ps) ≡ true → Single ps
single_by ps t = from ps (distinct_by (holders ps) t)
  where
    from : (ps : List Place) → Distinct (holders ps) → Single ps
    from [] d u = lit≤ tt
    from (p ∷ ps) d u =
        by_place u p
        (λ k e.
        let d' : Distinct (p.user ∷ holders ps) = rw k at d in
        let z : count u ps ≤ 0 = absent u ps (rw (eqb-true u p.user e) d'.0) in
        let g : suc (count u ps) ≤ 1 = omega arith in
        rw (k, e) g)
        (λ k e. let d' : Distinct (p.user ∷ holders ps) = rw k at d in rw (k, e) (from ps d'.1 u))
        (λ k. rw k (from ps (rw k at d) u))

taken-length : (ps : List Place) → all_taken ps ≡ true → length (holders ps) ≡ length ps
taken-length [] a = refl
taken-length (p ∷ ps) a = by_test p.taken (λ k. rw k (ap suc (taken-length ps (rw k at a)))) (λ k. absurd (false≢true (rw k at a)))

-- who: identifiers, no more than there are places, among them all that hold places. To each of them the facility is open
module _ (who : List ℕ) (ps : List Place) (single : Single ps) (outside : (v : ℕ) → mem v who ≡ false → find v ps ≡ None) (enough : length who ≤ length ps) where
  among : (v : ℕ) → mem v (holders ps) ≡ true → mem v who ≡ true
  among v h = by_test (mem v who) (λ t. t) (λ t. absurd (false≢true (sym (none_find v ps (outside v t)) ∙ h)))

  module _ (u : ℕ) (member : mem u who ≡ true) where
    room : find u ps ≡ None → all_taken ps ≡ false
    room n = by_test (all_taken ps) (λ a. absurd (full a)) (λ a. a)
      where
        all : (v : ℕ) → mem v (u ∷ holders ps) ≡ true → mem v who ≡ true
        all v h = by_test (eqb v u) (λ e. rw (eqb-true v u e) member) (λ e. among v (rw e at h))

        full : all_taken ps ≡ true → ⊥
        full a = omega (arith, pigeonhole (u ∷ holders ps) who (none_find u ps n, single_distinct ps single) all, taken-length ps a)

    pub open_to : shut_to (find u ps) ps ≡ false
    unfolding shut_to
    open_to = by_find (find u ps) (λ e. rw e (room e)) (λ g e. rw e)
