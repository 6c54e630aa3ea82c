-- What the functions compute, entry by entry. Setting parity and notarizing leave eight bytes, each with an odd number of ones; setting parity leaves a byte as it
-- is exactly where it has such a number already; and the parity that a key had plays no part in notarizing.
use Rattle.std.proofs.Common.{◌≡◌, refl, sym, ap, ap₂, ◌∙◌, true, List, [], ◌∷◌, ◌++◌, map, ℕ, zero, suc, ◌+◌, ◌*◌, ◌/◌, ◌%◌, ◌^◌, ◌<◌, div-one}
use Rattle.std.proofs.Common.{⊎_elim, eq-zero-or-pos, arith, bit_xor, count_ones, length, get_or, lit<, eqb, eq-eqb, ne_eqb, eqb-true}
use Rattle.std.proofs.Math.Nat.{pow-succ', div-div-eq-div-mul}
use Rattle.std.proofs.lemmas.Bool.{eqb-false}
use Rattle.std.proofs.lemmas.List.{length-map}
use Rattle.std.proofs.lemmas.Nat.{xor_lt, ones_cat, ones_le_self, zero_from_ones}
use Rattle.std.specs.Int.{from_bool}
use Rattle.ground.specs.Rows.{digits, digits_below}
use Rattle.ground.specs.Search.{by_test}
use Rattle.ground.specs.Lists.{listed, Below, below_append}
use Rattle.cipher.specs.Cipher.{Octets}
use Rattle.keys.specs.Keys.{sum, odd, ones, all_odd, mixed, parity_of, groups, mixed_in, notarized}

-- ---- the number of ones

-- the ones of all bits but the last, and the last
sum_split : (n b : ℕ) → sum (digits 2 (suc n) b) ≡ sum (digits 2 n (b / 2)) + b % 2
unfolding digits
sum_split zero b = omega (arith, div-one b)
sum_split (suc n) b =
    let e : b / 2 ^ suc n ≡ b / 2 / 2 ^ n = ap (λ (m : ℕ). b / m) (pow-succ' 2 n) ∙ sym (div-div-eq-div-mul b 2 (2 ^ n)) in
    omega (arith, ap (λ (m : ℕ). m % 2) e, sum_split n b)

-- the library counts the ones of k bits
counted : (k b : ℕ) → b < 2 ^ k → count_ones b ≡ sum (digits 2 k b)
unfolding digits
counted zero b h = omega (arith, ones_le_self b)
counted (suc k) b h =
    let p : count_ones (b / 2 * 2 ^ 1 + b % 2) ≡ count_ones (b / 2) + count_ones (b % 2) = ones_cat 1 (b / 2) (b % 2) (omega arith) in
    let w : b / 2 * 2 ^ 1 + b % 2 ≡ b = omega arith in
    let q : count_ones (b % 2) ≡ b % 2 = one_bit (b % 2) (omega arith) in
    sym (ap count_ones w) ∙ p ∙ ap₂ (λ (m n : ℕ). m + n) (counted k (b / 2) (omega (arith, pow-succ' 2 k))) q ∙ sym (sum_split k b)
  where
    one_bit : (d : ℕ) → d < 2 → count_ones d ≡ d
    one_bit zero l = omega (arith, ones_le_self 0)
    one_bit (suc zero) l =
        ⊎_elim (λ z. absurd (omega (arith, zero_from_ones 1 z))) (λ p. omega (arith, ones_le_self 1)) (eq-zero-or-pos (count_ones 1))
    one_bit (suc (suc d)) l = absurd (omega arith)

pub odd_is : (s : ℕ) → s < 128 → s * 2 + from_bool (eqb (count_ones s % 2) 0) ≡ odd s
unfolding odd
odd_is s h =
    rw (counted 7 s h)
    (by_test (eqb (sum (digits 2 7 s) % 2) 0) (λ e. let z = eqb-true _ _ e in rw e (omega arith)) (λ e. let z = eqb-false _ _ e in rw e (omega arith)))

pub notarized_is : (k : List ℕ) (i j : ℕ) → length k ≡ 8
    → notarized k i j
    ≡ mixed (get_or k 0 0) (i / 2097152 % 128) ∷ mixed (get_or k 1 0) (i / 16384 % 128) ∷ mixed (get_or k 2 0) (i / 128 % 128) ∷ mixed (get_or k 3 0) (i % 128)
    ∷ mixed (get_or k 4 0) (j / 2097152 % 128) ∷ mixed (get_or k 5 0) (j / 16384 % 128) ∷ mixed (get_or k 6 0) (j / 128 % 128) ∷ mixed (get_or k 7 0) (j % 128) ∷ []
unfolding notarized mixed_in groups digits
notarized_is k i j h =
    ap (λ (l : List ℕ). mixed_in l (groups i ++ groups j)) (listed 8 k h)
    ∙ rw (div-one i, div-one j)

-- ---- eight bytes

odd_lt : (s : ℕ) → s < 128 → odd s < 256
unfolding odd
odd_lt s h = omega arith

half_lt : (x : ℕ) → x < 256 → x / 2 < 128
half_lt x h = omega arith

map_below : (b : List ℕ) → Below 256 b → Below 256 (map (λ x. odd (x / 2)) b)
map_below [] h i = lit< tt
map_below (x ∷ xs) h zero = odd_lt (x / 2) (half_lt x (h 0))
map_below (x ∷ xs) h (suc i) = map_below xs (λ j. h (suc j)) i

pub parity_octets : (b : List ℕ) → Octets b → Octets (parity_of b)
unfolding parity_of
parity_octets b o = record { eight = length-map b (λ x. odd (x / 2)) ∙ o.eight; small = map_below b o.small }

mixed_in_below : (k gs : List ℕ) → Below 256 k → Below 128 gs → Below 256 (mixed_in k gs)
unfolding mixed_in mixed
mixed_in_below [] gs h l i = lit< tt
mixed_in_below (b ∷ bs) [] h l i = lit< tt
mixed_in_below (b ∷ bs) (g ∷ gs) h l zero = odd_lt (bit_xor (b / 2) g) (xor_lt 7 (b / 2) g (half_lt b (h 0)) (l 0))
mixed_in_below (b ∷ bs) (g ∷ gs) h l (suc i) = mixed_in_below bs gs (λ j. h (suc j)) (λ j. l (suc j)) i

groups_below : (i : ℕ) → Below 128 (groups i)
unfolding groups
groups_below i = digits_below 128 4 i (lit< tt)

pub notarized_octets : (k : List ℕ) (i j : ℕ) → Octets k → Octets (notarized k i j)
unfolding notarized
notarized_octets k i j o = record {
  eight = ap length (notarized_is k i j o.eight);
  small = mixed_in_below k (groups i ++ groups j) o.small (below_append 128 (groups i) (groups j) (groups_below i) (groups_below j));
}

-- ---- each with an odd number of ones

-- without its last bit the byte is the seven bits again
odd_half : (s : ℕ) → odd s / 2 ≡ s
unfolding odd
odd_half s = omega arith

ones_split : (b : ℕ) → ones b ≡ sum (digits 2 7 (b / 2)) + b % 2
unfolding ones
ones_split b = sum_split 7 b

odd-ones : (s : ℕ) → ones (odd s) % 2 ≡ 1
unfolding odd
odd-ones s = rw (ones_split, odd_half s) (omega arith)

pub parity_odd : (b : List ℕ) → all_odd (parity_of b) ≡ true
unfolding all_odd parity_of
parity_odd [] = refl
parity_odd (x ∷ xs) = rw (eq-eqb _ _ (odd-ones (x / 2))) (parity_odd xs)

mixed_in-odd : (k gs : List ℕ) → all_odd (mixed_in k gs) ≡ true
unfolding all_odd mixed_in mixed
mixed_in-odd [] gs = refl
mixed_in-odd (b ∷ bs) [] = refl
mixed_in-odd (b ∷ bs) (g ∷ gs) = rw (eq-eqb _ _ (odd-ones (bit_xor (b / 2) g))) (mixed_in-odd bs gs)

pub notarized-odd : (k : List ℕ) (i j : ℕ) → all_odd (notarized k i j) ≡ true
unfolding notarized
notarized-odd k i j = mixed_in-odd k (groups i ++ groups j)

-- a byte is as setting parity leaves it exactly where it has an odd number of ones
pub odd-kept : (b : ℕ) → eqb b (odd (b / 2)) ≡ eqb (ones b % 2) 1
unfolding odd
odd-kept b =
    by_test (eqb (ones b % 2) 1)
    (λ e. let h : b ≡ odd (b / 2) = omega (arith, ones_split b, eqb-true (ones b % 2) 1 e) in eq-eqb _ _ h ∙ sym e)
    (λ e. let h : b ≡ odd (b / 2) → ⊥ = λ q. eqb-false (ones b % 2) 1 e (omega (arith, ones_split b)) in ne_eqb _ _ h ∙ sym e)

-- ---- the parity that a key had is ignored

-- a key mixes as the same key with its parity set
mixed_in_parity : (k gs : List ℕ) → mixed_in (parity_of k) gs ≡ mixed_in k gs
unfolding mixed_in mixed parity_of
mixed_in_parity [] gs = refl
mixed_in_parity (b ∷ bs) [] = refl
mixed_in_parity (b ∷ bs) (g ∷ gs) = ap₂ (λ (x : ℕ) (xs : List ℕ). odd (bit_xor x g) ∷ xs) (odd_half (b / 2)) (mixed_in_parity bs gs)

pub notarized_parity : (k : List ℕ) (i j : ℕ) → notarized (parity_of k) i j ≡ notarized k i j
unfolding notarized
notarized_parity k i j = mixed_in_parity k (groups i ++ groups j)

parity_halves : (k : List ℕ) → parity_of k ≡ map odd (map (λ (b : ℕ). b / 2) k)
unfolding parity_of
parity_halves [] = refl
parity_halves (b ∷ bs) = ap (λ (l : List ℕ). odd (b / 2) ∷ l) (parity_halves bs)

-- two keys that differ only in the last bits of their bytes notarize alike
pub notarized_alike : (k k' : List ℕ) (i j : ℕ) → parity_of k ≡ parity_of k' → notarized k i j ≡ notarized k' i j
notarized_alike k k' i j e = sym (notarized_parity k i j) ∙ ap (λ (l : List ℕ). notarized l i j) e ∙ notarized_parity k' i j

-- that is: two keys whose leftmost seven bits agree, byte for byte
pub same_parity : (k k' : List ℕ) → map (λ (b : ℕ). b / 2) k ≡ map (λ (b : ℕ). b / 2) k' → parity_of k ≡ parity_of k'
same_parity k k' e = parity_halves k ∙ ap (map odd) e ∙ sym (parity_halves k')
