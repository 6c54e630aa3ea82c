-- Letters: which are blank, which are digits, and how many of a kind stand at the front.
use Rattle.std.specs.Prelude.{◌≡◌, Bool, true, false, cond, not, List, [], ◌∷◌, ℕ, zero, suc, ◌+◌, ◌≤◌, ◌<◌, eqb, leb, length, get_or, drop}
use Rattle.std.proofs.Common.{arith, add-one, length-drop, drop_of_length-le, drop-cons}
use Prim.Native.Char.{code}
use Rattle.ground.specs.Search.{by_test}
use Rattle.words.specs.declared.Class.{Class}
use Rattle.words.specs.declared.Class.TheVariants.{Blank, Plain, Text, Digit, Hex}

-- from the first to the last
unfoldable pub between : ℕ → ℕ → ℕ → Bool
between first last c = cond (leb first c) (leb c last) false

-- the space, the tab and the carriage return
unfoldable pub blank_letter : ℕ → Bool
blank_letter c = cond (eqb c 32) true (cond (eqb c 9) true (eqb c 13))

-- "Hex digits are 0 to 9, A to F and a to f."
unfoldable pub is_in : Class → ℕ → Bool
is_in Blank c = blank_letter c
is_in Plain c = cond (blank_letter c) false (not (eqb c (code "#")))
is_in Text c = not (eqb c (code "\""))
is_in Digit c = between (code "0") (code "9") c
is_in Hex c = cond (between (code "0") (code "9") c) true (cond (between (code "A") (code "F") c) true (between (code "a") (code "f") c))

-- how many letters at the front are of the class
unfoldable pub front : Class → List ℕ → ℕ
front k [] = 0
front k (c ∷ cs) = cond (is_in k c) (1 + front k cs) 0

-- where the run of letters of a class ends that starts there
abbrev pub run_end : Class → List ℕ → ℕ → ℕ
run_end k l at = at + front k (drop at l)

-- ---- a run of letters, one by one

pub front-on : (k : Class) (l : List ℕ) (i : ℕ) → i < length l → is_in k (get_or l i 0) ≡ true → i + 1 + front k (drop (i + 1) l) ≡ i + front k (drop i l)
unfolding front
front-on k l i h e = rw (add-one, drop-cons l i 0 h, e) (omega arith)

pub front_stop : (k : Class) (l : List ℕ) (i : ℕ) → i < length l → is_in k (get_or l i 0) ≡ false → i ≡ i + front k (drop i l)
unfolding front
front_stop k l i h e = rw (drop-cons l i 0 h, e) (omega arith)

pub front_end : (k : Class) (l : List ℕ) (i : ℕ) → length l ≤ i → i ≡ i + front k (drop i l)
unfolding front
front_end k l i h = rw drop_of_length-le (omega arith)

pub ruleset front_steps = (front-on, front_stop, front_end)

-- a run ends within the line
front-within : (k : Class) (l : List ℕ) → front k l ≤ length l
unfolding front
front-within k [] = omega arith
front-within k (c ∷ cs) = let h = front-within k cs in by_test (is_in k c) (λ e. rw e (omega arith)) (λ e. rw e (omega arith))

pub run_within : (k : Class) (l : List ℕ) (at : ℕ) → at ≤ length l → run_end k l at ≤ length l
run_within k l at h = let f = front-within k (drop at l) in omega (arith, length-drop at l)

-- where a letter stands that is not 0, the line has not ended
pub letter_there : (l : List ℕ) (at c : ℕ) → get_or l at 0 ≡ suc c → at < length l
letter_there [] at c e = omega (arith, e)
letter_there (x ∷ l) zero c e = omega arith
letter_there (x ∷ l) (suc at) c e = let h = letter_there l at c e in omega (arith, h)
