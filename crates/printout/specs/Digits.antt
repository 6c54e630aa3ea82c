-- Numbers in decimal, bytes in upper-case hexadecimal.
use Rattle.std.specs.Prelude.{◌≡◌, true, false, cond, List, [], ◌∷◌, ◌++◌, ℕ, zero, suc, ◌+◌, ◌*◌, ◌/◌, ◌%◌, ◌^◌, ◌≤◌, ◌<◌, ltb, length, get_or, take, refl}
use Rattle.std.proofs.Common.{sym, ap, pow-suc, arith, lt-ltb, le-ltb}
use Rattle.printout.specs.Parts.{parts_more}

-- 0 to 9 are the letters 48 to 57, A to F 65 to 70
unfoldable pub hex_digit : ℕ → ℕ
hex_digit n = cond (ltb n 10) (48 + n) (55 + n)

unfoldable pub hex_byte : ℕ → List ℕ
hex_byte b = hex_digit (b / 16) ∷ hex_digit (b % 16) ∷ []

unfoldable pub hex : List ℕ → List ℕ
hex [] = []
hex (b ∷ bs) = hex_byte b ++ hex bs

-- one byte more
pub hex_more : (bs : List ℕ) (i : ℕ) → i < length bs → hex (take i bs) ++ hex_byte (get_or bs i 0) ≡ hex (take (i + 1) bs)
unfolding hex
hex_more bs i h = parts_more hex_byte hex refl (λ b bs. refl) bs i 0 h

-- at most so many digits
unfoldable pub decimal_in : ℕ → ℕ → List ℕ
decimal_in zero n = []
decimal_in (suc k) n = cond (ltb n 10) ((48 + n % 10) ∷ []) (decimal_in k (n / 10) ++ (48 + n % 10) ∷ [])

-- a number of the machine has at most twenty
unfoldable pub decimal : ℕ → List ℕ
decimal n = decimal_in 20 n

-- ---- a number's digits before the last, and the last

abbrev pub last_digit : ℕ → ℕ
last_digit n = 48 + n % 10

less : (n k : ℕ) → n < 10 ^ suc k → n / 10 < 10 ^ k
less n k h = let p : 10 ^ suc k ≡ 10 ^ k * 10 = pow-suc 10 k in omega (arith, p)

-- where k digits hold n, one more changes nothing
more : (k n : ℕ) → n < 10 ^ suc k → decimal_in (suc (suc k)) n ≡ decimal_in (suc k) n
unfolding decimal_in
more zero n h = let e : ltb n 10 ≡ true = lt-ltb n 10 (omega arith) in rw e
more (suc k) n h = ap (λ (l : List ℕ). cond (ltb n 10) (last_digit n ∷ []) (l ++ last_digit n ∷ [])) (more k (n / 10) (less n (suc k) h))

pub decimal-last : (n : ℕ) → n < 10 → decimal n ≡ last_digit n ∷ []
unfolding decimal decimal_in
decimal-last n h = let e : ltb n 10 ≡ true = lt-ltb n 10 h in rw e

pub decimal_step : (n : ℕ) → 10 ≤ n → n < 10 ^ 20 → decimal n ≡ decimal (n / 10) ++ last_digit n ∷ []
unfolding decimal decimal_in
decimal_step n h k = let e : ltb n 10 ≡ false = le-ltb n 10 h in rw e (ap (λ (l : List ℕ). l ++ last_digit n ∷ []) (sym (more 18 (n / 10) (less n 19 k))))

-- the two for the code that puts them
pub ruleset by_last = (decimal-last, decimal_step)
