-- Theorems of an index that a search of the places tells, and of finding none, in the definition's words.
use Rattle.std.specs.Prelude.{◌≡◌, refl, Bool, true, false, not, is_none, option_map, Option, None, Some, List, [], ◌∷◌, ℕ, zero, suc, ◌+◌, ◌≤◌, ◌<◌, ◌≢◌, eqb, ltb, length, position, get_or, set}
use Rattle.std.proofs.Common.{sym, ap, ◌∙◌, lit≤, eqb-true, eq-eqb, ne_eqb, ltb-false, not-suc-le-zero, arith}
use Rattle.std.proofs.lemmas.Bool.{false≢true, eqb-false, not-false, not-true}
use Rattle.std.proofs.lemmas.List.Quantifiers.{position-Some}
use Rattle.ground.specs.Search.{by_test}
use Rattle.state.specs.declared.Place.{Place}
use Rattle.state.specs.declared.Holdings.{Holdings}
use Rattle.state.specs.State.{has, find, put, all_taken, admit, named, spare, seat, vacant, give, leave, shut_to}
use Rattle.state.specs.Located.{Before, Located, Free}
use Rattle.state.proofs.Positions.{stored, free, position_cons, position_none, put_is, find_is, admit_is, all_taken_is}

-- what the code's two tests of a place tell
pub has_yes : (u : ℕ) (p : Place) → p.taken ≡ true → p.user ≡ u → has u p ≡ true
has_yes u p k e = rw k (eq-eqb u p.user (sym e))

pub has-free : (u : ℕ) (p : Place) → p.taken ≡ false → has u p ≡ false
has-free u p k = rw k

pub has_other : (u : ℕ) (p : Place) → (p.user ≡ u → ⊥) → has u p ≡ false
has_other u p n = by_test p.taken (λ k. rw k (ne_eqb u p.user (λ q. n (sym q)))) (λ k. rw k)

-- one more place is passed
pub more : (f : Place → Bool) (ps : List Place) (i : ℕ) → Before f ps i → f (get_or ps i spare) ≡ false → Before f ps (i + 1)
more f ps i b n j h =
    by_test (eqb j i)
    (λ e. rw (eqb-true j i e) n)
    (λ e. let d : j ≢ i = eqb-false j i e in b j (omega arith))

later : (f : Place → Bool) (p : Place) (ps : List Place) (i : ℕ) → Before f (p ∷ ps) (suc i) → Before f ps i
later f p ps i b j h = b (suc j) (omega arith)

-- the index that `position` finds
position_at : (f : Place → Bool) (ps : List Place) (i : ℕ) → i < length ps → f (get_or ps i spare) ≡ true
    → Before f ps i → position f ps ≡ Some i
position_at f [] i l e b = absurd (not-suc-le-zero l)
position_at f (p ∷ ps) zero l e b = rw (position_cons f p ps, e)
position_at f (p ∷ ps) (suc i) l e b =
    rw (position_cons f p ps, b 0 (omega arith), position_at f ps i (omega arith) e (later f p ps i b))

position_nowhere : (f : Place → Bool) (ps : List Place) (n : ℕ) → length ps ≤ n → Before f ps n
    → position f ps ≡ None
position_nowhere f [] n l b = refl
position_nowhere f (p ∷ ps) zero l b = absurd (not-suc-le-zero l)
position_nowhere f (p ∷ ps) (suc n) l b =
    rw (position_cons f p ps, b 0 (omega arith), position_nowhere f ps n (omega arith) (later f p ps n b))

-- a place past the end is nobody's
inside : (u : ℕ) (ps : List Place) (i : ℕ) → has u (get_or ps i spare) ≡ true → i < length ps
inside u [] i e = absurd (false≢true e)
inside u (p ∷ ps) zero e = omega arith
inside u (p ∷ ps) (suc i) e = let h : i < length ps = inside u ps i e in omega arith

pub find_at : (u : ℕ) (ps : List Place) (i : ℕ) → has u (get_or ps i spare) ≡ true → Before (has u) ps i
    → find u ps ≡ Some (get_or ps i spare).holdings
find_at u ps i e b =
    find_is u ps ∙ ap (option_map (λ i. (get_or ps i spare).holdings)) (position_at (has u) ps i (inside u ps i e) e b)

pub put_at : (u : ℕ) (x : Place) (ps : List Place) (i : ℕ) → has u (get_or ps i spare) ≡ true → Before (has u) ps i
    → put u x ps ≡ set ps i x
put_at u x ps i e b = put_is u x ps ∙ ap (stored x ps) (position_at (has u) ps i (inside u ps i e) e b)

pub find_nowhere : (u : ℕ) (ps : List Place) (n : ℕ) → length ps ≤ n → Before (has u) ps n → find u ps ≡ None
find_nowhere u ps n l b =
    find_is u ps ∙ ap (option_map (λ i. (get_or ps i spare).holdings)) (position_nowhere (has u) ps n l b)

-- the first free place
pub admit_at : (x : Place) (ps : List Place) (i : ℕ) → i < length ps → (get_or ps i spare).taken ≡ false
    → ((j : ℕ) → j < i → (get_or ps j spare).taken ≡ true)
    → (admit x ps ≡ set ps i x) × (all_taken ps ≡ false)
admit_at x ps i l e b =
    let q = position_at free ps i l (ap not e) (λ j h. ap not (b j h)) in
    (admit_is x ps ∙ ap (stored x ps) q, all_taken_is ps ∙ ap is_none q)

-- ---- what std's `position`, by which the code searches, tells of the index

-- the first place of u
pub located_position : (u : ℕ) (ps : List Place) → length ps ≡ 16 → Located u ps (position (has u) ps)
located_position u ps l = by (position (has u) ps) refl
  where
    by : (o : Option ℕ) → position (has u) ps ≡ o → Located u ps o
    by None e = (l, λ j h. position_none (has u) ps spare e j (omega arith))
    by (Some i) e = let q = position-Some (has u) ps i spare e in (omega arith, q.1, q.2)

-- the first free place
pub free_position : (ps : List Place) → length ps ≡ 16 → Free ps (position free ps)
free_position ps l = by (position free ps) refl
  where
    by : (o : Option ℕ) → position free ps ≡ o → Free ps o
    by None e = (l, λ j h. not-false _ (position_none free ps spare e j (omega arith)))
    by (Some i) e =
        let q = position-Some free ps i spare e in
        (omega arith, l, not-true _ q.1, λ j h. not-false _ (q.2 j h))

-- ---- what a search found, in the definition's words

pub below16 : (u : ℕ) (ps : List Place) (r : Option ℕ) (i : ℕ) → Located u ps r → r ≡ Some i → i < 16
below16 u ps r i p e = let q : Located u ps (Some i) = rw e at p in q.0

pub find_found : (u : ℕ) (ps : List Place) (r : Option ℕ) (i : ℕ) → Located u ps r → r ≡ Some i → find u ps ≡ Some (get_or ps i spare).holdings
find_found u ps r i p e = let q : Located u ps (Some i) = rw e at p in find_at u ps i q.1 q.2

pub find_missing : (u : ℕ) (ps : List Place) (r : Option ℕ) → Located u ps r → r ≡ None → find u ps ≡ None
find_missing u ps r p e = let q : Located u ps None = rw e at p in find_nowhere u ps 16 (rw q.0 (lit≤ tt)) q.1

pub put_found : (u : ℕ) (x : Place) (ps : List Place) (r : Option ℕ) (i : ℕ) → Located u ps r → r ≡ Some i → put u x ps ≡ set ps i x
put_found u x ps r i p e = let q : Located u ps (Some i) = rw e at p in put_at u x ps i q.1 q.2

pub named_in : (i : ℕ) → named i ≡ true → (1 ≤ i) × (i ≤ 15)
unfolding named
named_in i h = by_test (ltb i 1) (λ a. absurd (false≢true (rw a at h)))
    (λ a. by_test (ltb 15 i) (λ b. absurd (false≢true (rw (a, b) at h))) (λ b. (ltb-false i 1 a, ltb-false 15 i b)))

-- ---- no place, or the first free one

pub shut_found : (u : ℕ) (ps : List Place) (r : Option ℕ) (i : ℕ) → Located u ps r → r ≡ Some i → shut_to (find u ps) ps ≡ false
unfolding shut_to
shut_found u ps r i p e = rw (find_found u ps r i p e)

all_at : (ps : List Place) (n : ℕ) → length ps ≤ n → ((j : ℕ) → j < n → (get_or ps j spare).taken ≡ true)
    → (x : Place) → (all_taken ps ≡ true) × (admit x ps ≡ ps)
all_at ps n l b x =
    let q = position_nowhere free ps n l (λ j h. ap not (b j h)) in
    (all_taken_is ps ∙ ap is_none q, admit_is x ps ∙ ap (stored x ps) q)

module _ (u : ℕ) (h : Holdings) (ps : List Place) (r : Option ℕ) (p : Located u ps r) where
  pub give_found : (i : ℕ) → r ≡ Some i → give u h ps ≡ set ps i (seat u h)
  unfolding give
  give_found i e = rw (find_found u ps r i p e) (put_found u (seat u h) ps r i p e)

  module _ (e : r ≡ None) (s : Option ℕ) (q : Free ps s) where
    pub give-free : (i : ℕ) → s ≡ Some i → give u h ps ≡ set ps i (seat u h)
    unfolding give
    give-free i d =
        let z : Free ps (Some i) = rw d at q in
        rw (find_missing u ps r p e) (admit_at (seat u h) ps i (omega arith) z.2 z.3).0

    pub give_full : s ≡ None → give u h ps ≡ ps
    unfolding give
    give_full d = let z : Free ps None = rw d at q in rw (find_missing u ps r p e) (all_at ps 16 (rw z.0 (lit≤ tt)) z.1 (seat u h)).1

    pub shut_free : (i : ℕ) → s ≡ Some i → shut_to (find u ps) ps ≡ false
    unfolding shut_to
    shut_free i d =
        let z : Free ps (Some i) = rw d at q in
        rw (find_missing u ps r p e) (admit_at (seat u h) ps i (omega arith) z.2 z.3).1

    pub shut_full : s ≡ None → shut_to (find u ps) ps ≡ true
    unfolding shut_to
    shut_full d = let z : Free ps None = rw d at q in rw (find_missing u ps r p e) (all_at ps 16 (rw z.0 (lit≤ tt)) z.1 (seat u h)).0

pub below16_free : (ps : List Place) (r : Option ℕ) (i : ℕ) → Free ps r → r ≡ Some i → i < 16
below16_free ps r i p e = let q : Free ps (Some i) = rw e at p in q.0

-- ---- leaving

put_nowhere : (u : ℕ) (x : Place) (ps : List Place) (n : ℕ) → length ps ≤ n → Before (has u) ps n
    → put u x ps ≡ ps
put_nowhere u x ps n l b = put_is u x ps ∙ ap (stored x ps) (position_nowhere (has u) ps n l b)

pub leave_found : (u : ℕ) (ps : List Place) (r : Option ℕ) (i : ℕ) → Located u ps r → r ≡ Some i → leave u ps ≡ set ps i vacant
unfolding leave
leave_found u ps r i p e = put_found u vacant ps r i p e

pub leave_missing : (u : ℕ) (ps : List Place) (r : Option ℕ) → Located u ps r → r ≡ None → leave u ps ≡ ps
unfolding leave
leave_missing u ps r p e = let q : Located u ps None = rw e at p in put_nowhere u vacant ps 16 (rw q.0 (lit≤ tt)) q.1
