-- Numbers in decimal digits.
use Rattle.std.specs.Prelude.{◌≡◌, refl, Bool, true, false, cond, List, map, ℕ, ◌+◌, ◌-◌, ◌*◌, ◌^◌, ◌≤◌, ◌<◌, leb, length, get_or, drop}
use Rattle.std.proofs.Common.{sym, ap, ◌∙◌, mul-le-mul_left, arith, le-leb}
use Prim.Native.Char.{code}
use Rattle.std.proofs.Math.Nat.{one-le-pow}
use Rattle.std.proofs.lemmas.Bool.{lt-leb}
use Rattle.ground.specs.Rows.{row, row_split, row-map-step, row-map_end}

abbrev pub digit_value : ℕ → ℕ
digit_value c = c - code "0"

-- the number that decimal digits say
unfoldable pub decimal_value : List ℕ → ℕ
decimal_value w = row 10 0 (map digit_value w)

-- a number up to a limit, or that it is above it
pub record Upto : Type 0 where
  pub within : Bool
  pub number : ℕ

-- a number, if it is at most the limit
unfoldable pub up_to : ℕ → ℕ → Upto
up_to limit n = cond (leb n limit) (record { within = true; number = n }) (record { within = false; number = 0 })

-- ---- one digit more, for a loop

-- what has been read of a number is at most the number
pub read_below : (n i : ℕ) (w : List ℕ) → row 10 n (map digit_value (drop i w)) ≡ decimal_value w → n ≤ decimal_value w
read_below n i w e =
    let ds = map digit_value (drop i w) in
    let s : decimal_value w ≡ n * 10 ^ length ds + row 10 0 ds = sym e ∙ row_split 10 n ds in
    let one : 1 ≤ 10 ^ length ds = one-le-pow (length ds) 10 (omega arith) in
    let m : n * 1 ≤ n * 10 ^ length ds = mul-le-mul_left n one in
    omega (arith, s, m)

pub none_read : (w : List ℕ) → row 10 0 (map digit_value w) ≡ decimal_value w
unfolding decimal_value
none_read w = refl

-- one digit more, d
pub digit_more : (n i d : ℕ) (w : List ℕ) → row 10 n (map digit_value (drop i w)) ≡ decimal_value w → i < length w → d ≡ digit_value (get_or w i 0)
    → row 10 (n * 10 + d) (map digit_value (drop (i + 1) w)) ≡ decimal_value w
digit_more n i d w e h f =
    ap (λ (x : ℕ). row 10 (n * 10 + x) (map digit_value (drop (i + 1) w))) f ∙ sym (row-map-step 10 n digit_value w i h) ∙ e

pub digits_read : (n i : ℕ) (w : List ℕ) → row 10 n (map digit_value (drop i w)) ≡ decimal_value w
    → length w ≤ i → n ≡ decimal_value w
digits_read n i w e h = sym (row-map_end 10 n digit_value w i h) ∙ e

pub above_limit : (limit n : ℕ) → limit < n → up_to limit n ≡ record { within = false; number = 0 }
unfolding up_to
above_limit limit n h = rw (lt-leb n limit h)

pub within_limit : (limit n : ℕ) → n ≤ limit → up_to limit n ≡ record { within = true; number = n }
unfolding up_to
within_limit limit n h = rw (le-leb n limit h)

-- with one digit more it is above the limit
pub digit_above : (limit n i : ℕ) (w : List ℕ) → row 10 n (map digit_value (drop i w)) ≡ decimal_value w → i < length w
    → limit < n * 10 + digit_value (get_or w i 0)
    → up_to limit (decimal_value w) ≡ record { within = false; number = 0 }
digit_above limit n i w e h f =
    let k = read_below (n * 10 + digit_value (get_or w i 0)) (i + 1) w (digit_more n i (digit_value (get_or w i 0)) w e h refl) in
    above_limit limit (decimal_value w) (omega arith)

-- what the code that reads digits one by one is proved with
pub ruleset reading = (none_read, digit_more, digits_read, digit_above, above_limit, within_limit)
