-- Laws of permutations by tables: one after another is one by the composed table, and the table 1, 2, .. w changes nothing.
use Rattle.std.proofs.Common.{◌≡◌, refl, ap, ap₂, ◌∙◌, List, [], ◌∷◌, map, ℕ, zero, suc, ◌+◌, ◌-◌, ◌/◌, ◌%◌, ◌^◌, ◌≤◌, ◌<◌}
use Rattle.std.proofs.Common.{mod-lt, arith, T, leb, length, get_or}
use Rattle.std.proofs.lemmas.List.{length-map, get_or-map}
use Rattle.ground.specs.Tests.{both, both_right, within, entry}
use Rattle.ground.specs.Rows.{row, digits, row_lt, row-digit, row-digits}
use Rattle.engine.specs.Bits.{bit, permuted}

pub bit_lt : (w x n : ℕ) → bit w x n < 2
bit_lt w x n = mod-lt (x / 2 ^ (w - n)) (omega arith)

bits_below : (w x : ℕ) (ns : List ℕ) (i : ℕ) → get_or (map (bit w x) ns) i 0 < 2
bits_below w x [] i = omega arith
bits_below w x (n ∷ ns) zero = bit_lt w x n
bits_below w x (n ∷ ns) (suc i) = bits_below w x ns i

pub permuted_lt : (w : ℕ) (ns : List ℕ) (x : ℕ) → permuted w ns x < 2 ^ length ns
permuted_lt w ns x = rw (length-map ns (bit w x)) at (row_lt 2 (map (bit w x) ns) (bits_below w x ns))

-- bit n of a permuted word is the bit that entry n names
bit-permuted : (v x : ℕ) (ns : List ℕ) (i : ℕ) → i < length ns → bit (length ns) (permuted v ns x) (suc i) ≡ bit v x (get_or ns i 0)
bit-permuted v x ns i h =
    rw (length-map ns (bit v x)) at (row-digit 2 0 (map (bit v x) ns) (bits_below v x ns) i (rw (length-map ns (bit v x)) h))
    ∙ get_or-map (bit v x) ns i 0 0 h

-- the table of a permutation by ns and then by us
abbrev pub composed : List ℕ → List ℕ → List ℕ
composed ns us = map (λ u. get_or ns (u - 1) 0) us

bits-composed : (v x : ℕ) (ns us : List ℕ) → T (within 1 (length ns) us)
    → map (bit (length ns) (permuted v ns x)) us ≡ map (bit v x) (composed ns us)
bits-composed v x ns [] t = refl
bits-composed v x ns (u ∷ us) t =
    let n : (1 ≤ u) × (u ≤ length ns) = entry 1 (length ns) (u ∷ us) t 0 (omega arith) in
    let e : u ≡ suc (u - 1) = omega arith in
    ap₂ (λ (d : ℕ) (ds : List ℕ). d ∷ ds)
    (ap (bit (length ns) (permuted v ns x)) e ∙ bit-permuted v x ns (u - 1) (omega arith))
    (bits-composed v x ns us (both_right (both (leb 1 u) (leb u (length ns))) (within 1 (length ns) us) t))

pub permuted-permuted : (v x : ℕ) (ns us : List ℕ) → T (within 1 (length ns) us)
    → permuted (length ns) us (permuted v ns x) ≡ permuted v (composed ns us) x
permuted-permuted v x ns us t = ap (row 2 0) (bits-composed v x ns us t)

-- the numbers after k, n of them
abbrev pub counted : ℕ → ℕ → List ℕ
counted k zero = []
counted k (suc n) = suc k ∷ counted (suc k) n

bits-counted : (w x k n : ℕ) → k + n ≡ w → map (bit w x) (counted k n) ≡ digits 2 n x
unfolding digits
bits-counted w x k zero h = refl
bits-counted w x k (suc n) h =
    let e : w - suc k ≡ n = omega arith in
    ap₂ (λ (d : ℕ) (ds : List ℕ). d ∷ ds) (ap (λ (m : ℕ). x / 2 ^ m % 2) e) (bits-counted w x (suc k) n (omega arith))

pub permuted-counted : (w x : ℕ) → x < 2 ^ w → permuted w (counted 0 w) x ≡ x
permuted-counted w x h = ap (row 2 0) (bits-counted w x 0 w (omega arith)) ∙ row-digits 2 w x h
