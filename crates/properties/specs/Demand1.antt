-- Demand 1, for every command at once: the reply is the lowest number of the command's own list whose condition holds, and 0 exactly where none holds;
-- a refusal returns its number and no bytes, and leaves state, table and output as they were; done, the six modes write no byte beyond the first n
-- (what those are: `Texts.wrote`), and no other command writes any.
use Rattle.std.specs.Prelude.{◌≡◌, Bool, List, [], ◌∷◌, map, ℕ, ◌<◌, leb, length, drop}
use Rattle.std.proofs.Math.Bool.{true, false, cond}
use Rattle.std.proofs.Math.Dec.{eqb}
use Rattle.cipher.specs.declared.modes.Mode.{Mode}
use Rattle.cipher.specs.declared.modes.Mode.TheVariants.{Ecbe, Ecbd, Cbce, Cbcd, Cfbe, Cfbd}
use Rattle.state.specs.State.{Bytes}
use Rattle.rules.specs.Commands.{UserCommand, RAS, LAU, CPW, GDK, LDK, GIV, LIV, EIV, RDK, mode, DAUT, Command, by, EIK, IPW, RPW, logout, refusals, effect}
use Rattle.rules.specs.World.{World, Own}
use Rattle.rules.specs.Refusals.{Test, first_of}
use Rattle.rules.specs.Step.{Refused, told, plain, number_of, Result, result}

-- ---- a list of tests

-- a test of the number n stands in the list, and its condition holds
abbrev pub holds : ℕ → List Test → Bool
holds n [] = false
holds n (r ∷ rs) = cond (eqb n r.number) (cond r.applies true (holds n rs)) (holds n rs)

-- the numbers rise, from m
abbrev pub rising : ℕ → List Test → Bool
rising m [] = true
rising m (r ∷ rs) = cond (leb m r.number) (rising r.number rs) false

-- n is the lowest number whose condition holds, 0 where none holds
pub record Lowest (l : List Test) (n : ℕ) : Type 0 where
  pub held : (n ≡ 0 → ⊥) → holds n l ≡ true
  pub least : (k : ℕ) → k < n → holds k l ≡ false
  pub none : n ≡ 0 → (k : ℕ) → holds k l ≡ false
  pub clear : ((k : ℕ) → holds k l ≡ false) → n ≡ 0

-- ---- the demand

-- how many bytes of the output a command writes where it is done
abbrev pub users_written : UserCommand → ℕ
users_written (RAS p) = 0
users_written LAU = 0
users_written (CPW p n) = 0
users_written (GDK p i b) = 0
users_written (LDK p i f b) = 0
users_written (GIV b) = 0
users_written (LIV f b) = 0
users_written (EIV b) = 0
users_written (RDK p i f b) = 0
users_written (mode m d) = length d
users_written (DAUT f d) = 0

abbrev pub written : Command → ℕ
written (by u c) = users_written c
written (EIK i b) = 0
written (IPW u p) = 0
written RPW = 0
written (logout u) = 0

-- the outcome r of a command with the tests l, which is to write n bytes, from the world w and the output out
pub record Demand1 (l : List Test) (n : ℕ) (w : World) (out : Bytes) (r : Result) : Type 0 where
  pub lowest : Lowest l (number_of r.answered.answer)
  -- refused: its number, no bytes, and the output and the world as they were
  pub unaltered : (number_of r.answered.answer ≡ 0 → ⊥) → r ≡ result (plain (Refused (number_of r.answered.answer)) out) w
  pub beyond : drop n r.answered.output ≡ drop n out
  pub size : length r.answered.output ≡ length out

-- what is checked of each command of users: its list rises, its effect is no refusal, and what its effect writes
abbrev pub Sound : ℕ → UserCommand → Bytes → Bool → Own → Type 0
Sound u c out shut o =
    let l = refusals u c (length out) shut o in
    let after = told (effect u c o) out in
    (rising 1 l ≡ true) × (number_of after.answer ≡ 0)
    × (first_of l ≡ 0 → (drop (users_written c) after.output ≡ drop (users_written c) out) × (length after.output ≡ length out))

-- ---- the page's column "refusals", number for number

abbrev pub mode_page : Mode → List ℕ
mode_page Ecbe = 1 ∷ 3 ∷ 10 ∷ 12 ∷ 13 ∷ []
mode_page Ecbd = 1 ∷ 3 ∷ 10 ∷ 12 ∷ 13 ∷ []
mode_page Cbce = 1 ∷ 3 ∷ 10 ∷ 11 ∷ 12 ∷ 13 ∷ []
mode_page Cbcd = 1 ∷ 3 ∷ 10 ∷ 11 ∷ 12 ∷ 13 ∷ []
mode_page Cfbe = 1 ∷ 3 ∷ 10 ∷ 11 ∷ 12 ∷ 13 ∷ []
mode_page Cfbd = 1 ∷ 3 ∷ 10 ∷ 11 ∷ 12 ∷ 13 ∷ []

-- (RDK asks 6 of two keys)
abbrev pub page : Command → List ℕ
page (by u (RAS p)) = 1 ∷ 2 ∷ 4 ∷ 6 ∷ 7 ∷ 8 ∷ 9 ∷ []
page (by u LAU) = 1 ∷ 3 ∷ []
page (by u (CPW p n)) = 1 ∷ 2 ∷ 3 ∷ 6 ∷ 7 ∷ 9 ∷ []
page (by u (GDK p i b)) = 1 ∷ 3 ∷ 6 ∷ []
page (by u (LDK p i f b)) = 1 ∷ 3 ∷ 5 ∷ 6 ∷ []
page (by u (GIV b)) = 1 ∷ 3 ∷ 10 ∷ []
page (by u (LIV f b)) = 1 ∷ 3 ∷ 5 ∷ 10 ∷ []
page (by u (EIV b)) = 1 ∷ 3 ∷ 10 ∷ []
page (by u (RDK p i f b)) = 1 ∷ 3 ∷ 5 ∷ 6 ∷ 6 ∷ []
page (by u (mode m d)) = mode_page m
page (by u (DAUT f d)) = 1 ∷ 3 ∷ 5 ∷ 10 ∷ 11 ∷ 12 ∷ []
page (EIK i k) = 6 ∷ 7 ∷ 14 ∷ []
page (IPW u p) = 1 ∷ 2 ∷ 6 ∷ 7 ∷ 15 ∷ []
page RPW = 2 ∷ 7 ∷ []
page (logout u) = 1 ∷ 3 ∷ []

-- n stands in the list; no number of the list is above n
abbrev pub among : ℕ → List ℕ → Bool
among n [] = false
among n (k ∷ ks) = cond (eqb n k) true (among n ks)

abbrev pub up_to : ℕ → List ℕ → Bool
up_to n [] = true
up_to n (k ∷ ks) = cond (leb k n) (up_to n ks) false

abbrev pub numbers : List Test → List ℕ
numbers l = map (λ (r : Test). r.number) l

-- the numbers of the list l are those of the page's list p; 16 and 17 are not among them, and each has two digits at most
abbrev pub Printed : List Test → List ℕ → Type 0
Printed l p = (numbers l ≡ p) × (among 16 p ≡ false) × (among 17 p ≡ false) × (up_to 99 p ≡ true)
