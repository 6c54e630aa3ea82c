-- The computation with the keys in the other order undoes the computation.
use Rattle.std.proofs.Common.{◌≡◌, ap, ap₂, ◌∙◌, List, [], ◌∷◌, reverse, ℕ, ◌/◌, ◌%◌, ◌^◌, ◌<◌, arith, bit_xor}
use Rattle.std.proofs.Math.Pow.{high, low, split}
use Rattle.std.proofs.lemmas.Nat.{xor_lt}
use mathlib.Core.List.{reverse_aux}
use Rattle.engine.specs.Bits.{permuted}
use Rattle.engine.specs.Tables.{IP, IP⁻¹, E, P}
use Rattle.engine.specs.Fips46.{f, substituted, rounds, computed}
use Rattle.ground.specs.Xor.{xor_twice}
use Rattle.engine.proofs.Permutations.{permuted_lt, permuted-permuted, permuted-counted}

-- ---- the rounds

pub f_lt : (r k : ℕ) → f r k < 2 ^ 32
unfolding f
f_lt r k = permuted_lt 32 P (substituted (bit_xor k (permuted 32 E r)))

pub rounds_lt : (ks : List ℕ) (l r : ℕ) → l < 2 ^ 32 → r < 2 ^ 32 → rounds ks l r < 2 ^ 64
unfolding rounds
rounds_lt [] l r hl hr = omega arith
rounds_lt (k ∷ ks) l r hl hr = rounds_lt ks r (bit_xor l (f r k)) hr (xor_lt 32 l (f r k) hl (f_lt r k))

-- the rounds with the keys in the other order undo the rounds
rounds_back : (ks js : List ℕ) (l r : ℕ) → l < 2 ^ 32 → r < 2 ^ 32
    → rounds (reverse_aux ks js) (rounds ks l r / 2 ^ 32) (rounds ks l r % 2 ^ 32) ≡ rounds js r l
unfolding rounds
rounds_back [] js l r hl hr = ap₂ (rounds js) (high r 32 hl) (low r 32 hl)
rounds_back (k ∷ ks) js l r hl hr =
    rounds_back ks (k ∷ js) r (bit_xor l (f r k)) hr (xor_lt 32 l (f r k) hl (f_lt r k)) ∙ ap (rounds js r) (xor_twice l (f r k))

-- ---- the permutations at the two ends

pub ip_then : (x : ℕ) → x < 2 ^ 64 → permuted 64 IP⁻¹ (permuted 64 IP x) ≡ x
ip_then x h = permuted-permuted 64 x IP IP⁻¹ tt ∙ permuted-counted 64 x h

pub then_ip : (x : ℕ) → x < 2 ^ 64 → permuted 64 IP (permuted 64 IP⁻¹ x) ≡ x
then_ip x h = permuted-permuted 64 x IP⁻¹ IP tt ∙ permuted-counted 64 x h

-- ---- a block, as a word

pub computed_lt : (ks : List ℕ) (b : ℕ) → computed ks b < 2 ^ 64
unfolding computed
computed_lt ks b = permuted_lt 64 IP⁻¹ _

rounds_undo : (ks : List ℕ) (y : ℕ) → y < 2 ^ 64
    → rounds (reverse ks) (rounds ks (y / 2 ^ 32) (y % 2 ^ 32) / 2 ^ 32) (rounds ks (y / 2 ^ 32) (y % 2 ^ 32) % 2 ^ 32) ≡ y
unfolding rounds
rounds_undo ks y h = rounds_back ks [] (y / 2 ^ 32) (y % 2 ^ 32) (omega arith) (omega arith) ∙ split y 32

pub computed_back : (ks : List ℕ) (b : ℕ) → b < 2 ^ 64 → computed (reverse ks) (computed ks b) ≡ b
unfolding computed
computed_back ks b h =
    let y : permuted 64 IP b < 2 ^ 64 = permuted_lt 64 IP b in
    ap (λ (z : ℕ). permuted 64 IP⁻¹ (rounds (reverse ks) (z / 2 ^ 32) (z % 2 ^ 32)))
    (then_ip (rounds ks (permuted 64 IP b / 2 ^ 32) (permuted 64 IP b % 2 ^ 32)) (rounds_lt ks _ _ (omega arith) (omega arith)))
    ∙ ap (permuted 64 IP⁻¹) (rounds_undo ks (permuted 64 IP b) y)
    ∙ ip_then b h
