-- From std's `position`, which the program's searches compute, to `find`, `put` and `admit`, the definition's words.
use Rattle.std.specs.Prelude.{◌≡◌, refl, Bool, true, false, cond, not, Option, None, Some, option_map, is_none, List, [], ◌∷◌, ℕ, suc, get_or, ◌+◌, ◌≤◌, ◌<◌, ltb, length, position, set}
use Rattle.std.specs.List.{position_or_len}
use Rattle.std.specs.Option.{option_or}
use Rattle.std.proofs.Common.{sym, ap, ltb-false, ltb-true, lt-ltb, le-ltb, arith}
use Rattle.std.proofs.lemmas.Bool.{false≢true}
use Rattle.std.proofs.lemmas.List.Sums.{fails_before_first}
use Rattle.ground.specs.Search.{by_test}
use Rattle.state.specs.declared.Place.{Place}
use Rattle.state.specs.declared.Holdings.{Holdings}
use Rattle.state.specs.State.{has, find, put, all_taken, admit, spare, seat, vacant, give, give_to, leave}

-- x at the index that a search found
abbrev pub stored : Place → List Place → Option ℕ → List Place
stored x ps None = ps
stored x ps (Some i) = set ps i x

abbrev pub free : Place → Bool
free p = not p.taken

pub position_cons : {X : Type 0} (f : X → Bool) (x : X) (xs : List X)
    → position f (x ∷ xs) ≡ cond (f x) (Some 0) (option_map suc (position f xs))
position_cons f x xs = by (f x) (position_or_len f xs) (length xs)
  where
    by : (b : Bool) (m n : ℕ)
        → cond (ltb (cond (not b) (1 + m) 0) (suc n)) (Some (cond (not b) (1 + m) 0)) None
        ≡ cond b (Some 0) (option_map suc (cond (ltb m n) (Some m) None))
    by true m n = rw (lt-ltb 0 (suc n) (omega arith))
    by false m n = by_test (ltb m n)
        (λ e. let h : m < n = ltb-true m n e in rw (lt-ltb (1 + m) (suc n) (omega arith), e) (ap Some (omega arith)))
        (λ e. let h : n ≤ m = ltb-false m n e in rw (le-ltb (1 + m) (suc n) (omega arith), e))

-- where nothing is found, the test fails at each index
pub position_none : {X : Type 0} (f : X → Bool) (xs : List X) (d : X) → position f xs ≡ None
    → (j : ℕ) → j < length xs → f (get_or xs j d) ≡ false
position_none f xs d e j h =
    by_test (ltb (position_or_len f xs) (length xs))
    (λ t. let n : Some (position_or_len f xs) ≡ None = rw t at e in absurd (cc))
    (λ t. let l = ltb-false (position_or_len f xs) (length xs) t in fails_before_first f xs j d (omega arith))

stored_cons : (b : Bool) (x p : Place) (ps : List Place) (o : Option ℕ)
    → stored x (p ∷ ps) (cond b (Some 0) (option_map suc o)) ≡ cond b (x ∷ ps) (p ∷ stored x ps o)
stored_cons true x p ps o = refl
stored_cons false x p ps None = refl
stored_cons false x p ps (Some i) = refl

none_cons : (b : Bool) (o : Option ℕ) → is_none (cond b (Some 0) (option_map suc o)) ≡ cond b false (is_none o)
none_cons true o = refl
none_cons false None = refl
none_cons false (Some i) = refl

pub put_is : (u : ℕ) (x : Place) (ps : List Place) → put u x ps ≡ stored x ps (position (has u) ps)
put_is u x [] = refl
put_is u x (p ∷ ps) = rw (position_cons (has u) p ps, stored_cons (has u p) x p ps (position (has u) ps), put_is u x ps)

pub leave_is : (u : ℕ) (ps : List Place) → leave u ps ≡ stored vacant ps (position (has u) ps)
unfolding leave
leave_is u ps = put_is u vacant ps

-- the first free place
pub admit_is : (x : Place) (ps : List Place) → admit x ps ≡ stored x ps (position free ps)
admit_is x [] = refl
admit_is x (p ∷ ps) =
    rw (position_cons free p ps, stored_cons (free p) x p ps (position free ps), admit_is x ps) (turned p.taken)
  where
    turned : (b : Bool)
        → cond b (p ∷ stored x ps (position free ps)) (x ∷ ps)
        ≡ cond (not b) (x ∷ ps) (p ∷ stored x ps (position free ps))
    turned true = refl
    turned false = refl

pub find_is : (u : ℕ) (ps : List Place)
    → find u ps ≡ option_map (λ i. (get_or ps i spare).holdings) (position (has u) ps)
find_is u [] = refl
find_is u (p ∷ ps) = rw (position_cons (has u) p ps, find_is u ps) (by (has u p) (position (has u) ps))
  where
    by : (b : Bool) (o : Option ℕ)
        → cond b (Some p.holdings) (option_map (λ i. (get_or ps i spare).holdings) o)
        ≡ option_map (λ i. (get_or (p ∷ ps) i spare).holdings) (cond b (Some 0) (option_map suc o))
    by true o = refl
    by false None = refl
    by false (Some i) = refl

pub all_taken_is : (ps : List Place) → all_taken ps ≡ is_none (position free ps)
all_taken_is [] = refl
all_taken_is (p ∷ ps) =
    rw (position_cons free p ps, none_cons (free p) (position free ps), all_taken_is ps) (turned p.taken)
  where
    turned : (b : Bool)
        → cond b (is_none (position free ps)) false ≡ cond (not b) false (is_none (position free ps))
    turned true = refl
    turned false = refl

-- a search by the user's identifier finds an index where `find` finds holdings
pub same_none : (u : ℕ) (ps : List Place) → is_none (position (has u) ps) ≡ is_none (find u ps)
same_none u [] = refl
same_none u (p ∷ ps) =
    rw (position_cons (has u) p ps, none_cons (has u p) (position (has u) ps), same_none u ps) (turned (has u p))
  where
    turned : (b : Bool) → cond b false (is_none (find u ps)) ≡ is_none (cond b (Some p.holdings) (find u ps))
    turned true = refl
    turned false = refl

pub give_is : (u : ℕ) (h : Holdings) (ps : List Place)
    → give u h ps ≡ stored (seat u h) ps (option_or (position (has u) ps) (position free ps))
unfolding give
give_is u h ps = by (find u ps) (position (has u) ps) (same_none u ps) (put_is u (seat u h) ps)
  where
    by : (o : Option Holdings) (r : Option ℕ) → is_none r ≡ is_none o
        → put u (seat u h) ps ≡ stored (seat u h) ps r
        → give_to o u h ps ≡ stored (seat u h) ps (option_or r (position free ps))
    by None None e q = admit_is (seat u h) ps
    by None (Some i) e q = absurd (false≢true e)
    by (Some g) None e q = absurd (false≢true (sym e))
    by (Some g) (Some i) e q = q
