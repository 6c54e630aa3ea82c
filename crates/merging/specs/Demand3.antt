-- Demand 3: users' lists of commands do not disturb one another, however they are merged. This file says it; `Theorem` proves it of `step`.
use Rattle.std.specs.Prelude.{◌≡◌, cond, List, [], ◌∷◌, ◌++◌, ℕ, ◌≤◌, eqb, length}
use Rattle.std.specs.Prelude.{Option}
use Rattle.state.specs.declared.Holdings.{Holdings}
use Rattle.state.specs.State.{Bytes, holders, find}
use Rattle.rules.specs.World.{World}
use Rattle.rules.specs.Step.{Told, Result}
use Rattle.properties.specs.Single.{Single}
use Rattle.merging.specs.Ids.{Distinct, different}

-- ---- lists and their merges

-- a user's command, with its own output buffer
pub record Request (C : Type 0) : Type 0 where
  pub command : C
  pub output : Bytes

-- users' lists: each with the identifier that it is the list of
abbrev pub Lists : Type 0 → Type 0
Lists C = List (ℕ × List (Request C))

-- a run: requests in the order in which they are carried out, each with its issuer
abbrev pub Run : Type 0 → Type 0
Run C = List (ℕ × Request C)

-- the identifiers that have lists
abbrev pub users : {C : Type 0} → Lists C → List ℕ
users [] = []
users (l ∷ ls) = l.0 ∷ users ls

-- u's list; one who has none asks for nothing
abbrev pub list_of : {C : Type 0} → ℕ → Lists C → List (Request C)
list_of u [] = []
list_of u (l ∷ ls) = cond (eqb u l.0) l.1 (list_of u ls)

-- u's list as a run by itself
abbrev pub alone : {C : Type 0} → ℕ → List (Request C) → Run C
alone u [] = []
alone u (q ∷ qs) = (u, q) ∷ alone u qs

-- q is the next request of u's list, and `rest` is what is then left of the lists
pub data Next (C : Type 0) : Lists C → ℕ → Request C → Lists C → Type 0 where
  here : {u : ℕ} {q : Request C} {qs : List (Request C)} {ls : Lists C} → Next C ((u, q ∷ qs) ∷ ls) u q ((u, qs) ∷ ls)
  there : {l : ℕ × List (Request C)} {ls rest : Lists C} {u : ℕ} {q : Request C} → Next C ls u q rest → Next C (l ∷ ls) u q (l ∷ rest)

-- nothing is left
abbrev pub Finished : {C : Type 0} → Lists C → Type 0
Finished [] = Unit {0}
Finished (l ∷ ls) = (l.1 ≡ []) × Finished ls

-- the run is a merge of the lists: it takes the next request of one of them, again and again, until nothing is left
pub data Merge (C : Type 0) : Lists C → Run C → Type 0 where
  done : {lists : Lists C} → Finished lists → Merge C lists []
  next : {lists rest : Lists C} {u : ℕ} {q : Request C} {m : Run C} → Next C lists u q rest → Merge C rest m → Merge C lists ((u, q) ∷ m)

-- ---- what comes of a run, where `step` is how one command is carried out

abbrev pub Step : Type 0 → Type 0
Step C = World → ℕ → C → Bytes → Result

abbrev pub serve : {C : Type 0} → Step C → World → ℕ × Request C → Result
serve step w x = step w x.0 x.1.command x.1.output

-- the world after the run
abbrev pub after : {C : Type 0} → Step C → World → Run C → World
after step w [] = w
after step w (x ∷ m) = after step (serve step w x).world m

-- what u gets: of each of his requests the answer, its eight bytes, and the whole output buffer as it then is
abbrev pub gets : {C : Type 0} → Step C → World → Run C → ℕ → List Told
gets step w [] u = []
gets step w (x ∷ m) u = cond (eqb u x.0) ((serve step w x).answered ∷ gets step (serve step w x).world m u) (gets step (serve step w x).world m u)

-- what u holds, wherever his place is
abbrev pub holds : World → ℕ → Option Holdings
holds w u = find u w.facility.places

-- ---- the demand

-- The record's type gives the sixteen places: its array has that length.
abbrev pub Undisturbed : {C : Type 0} → Step C → Type 0
Undisturbed {C} step =
    -- "Take any table and any starting state in which no identifier holds two places,"
    (w : World) → length w.facility.places ≡ 16 → Single w.facility.places
    -- "and several users' lists of commands, one list per identifier, none of them the officer's or the host's, each command with its own output buffer."
    → (lists : Lists C) → Distinct (users lists)
    -- "If those users and the identifiers already holding places number at most 16 together,"
    → different (users lists ++ holders w.facility.places) ≤ 16
    -- "then however the lists are merged, each in its own order,"
    → (m : Run C) → Merge C lists m
    -- "each user gets the replies and bytes of his list run alone,"
    → ((u : ℕ) → gets step w m u ≡ gets step w (alone u (list_of u lists)) u)
    -- "and every merge leaves the same table and the same holdings for each user."
    × ((m' : Run C) → Merge C lists m' → ((after step w m).table ≡ (after step w m').table) × ((u : ℕ) → holds (after step w m) u ≡ holds (after step w m') u))
