-- How long a command's argument fields are.
use Rattle.std.specs.Prelude.{◌≡◌, cond, List, [], ◌∷◌, ℕ, ◌+◌, ◌≤◌, ◌<◌, eqb, length, get_or, drop, min}
use Rattle.std.proofs.Common.{add-one, drop_of_length-le, drop-cons}

-- the length of the field of the argument k, with n bytes of data: three bytes, and the argument's own
unfoldable pub one_size : ℕ → ℕ → ℕ
one_size k n =
    cond (eqb k 0x81) 7
    (cond (eqb k 0x82) 7
    (cond (eqb k 0x83) 4
    (cond (eqb k 0x84) 4
    (cond (eqb k 0x85) 11
    (cond (eqb k 0x86) 11
    (cond (eqb k 0x87) (3 + n) 3))))))

unfoldable pub all_sizes : List ℕ → ℕ → ℕ
all_sizes [] n = 0
all_sizes (k ∷ ks) n = one_size k n + all_sizes ks n

-- a length as the code counts it: what a usize cannot say is its greatest
abbrev pub counted : ℕ → ℕ
counted n = min n 18446744073709551615

-- ---- one argument more, as a loop counts them

pub sizes_step : (ks : List ℕ) (n i : ℕ) → i < length ks → all_sizes (drop i ks) n ≡ one_size (get_or ks i 0) n + all_sizes (drop (i + 1) ks) n
unfolding all_sizes
sizes_step ks n i h = rw (add-one, drop-cons ks i 0 h)

pub sizes_end : (ks : List ℕ) (n i : ℕ) → length ks ≤ i → all_sizes (drop i ks) n ≡ 0
unfolding all_sizes
sizes_end ks n i h = rw drop_of_length-le

pub ruleset sizes_counted = (sizes_step, sizes_end)
