-- The last bit of each byte of a key plays no part.
use Rattle.std.proofs.Common.{◌≡◌, refl, sym, ap, ap₂, ◌∙◌, List, [], ◌∷◌, map, Bool, true, ℕ, zero, suc, ◌+◌, ◌-◌, ◌*◌, ◌/◌, ◌%◌, ◌^◌, ◌≤◌, ◌<◌}
use Rattle.std.proofs.lemmas.List.{get_or-map}
use Rattle.std.proofs.Common.{pow-suc, arith, T, leb, leb→le, pow-add, length, get_or}
use Rattle.std.proofs.Math.Nat.{div-div-eq-div-mul}
use Rattle.std.proofs.Math.Pow.{field, mod-mod-pow}
use Rattle.ground.specs.Tests.{both, both_left, both_right}
use Rattle.ground.specs.Rows.{row, row-digit}
use Rattle.engine.specs.Bits.{bit, word}
use Rattle.engine.specs.Tables.{PC-1, shifts}
use Rattle.engine.specs.Fips46.{KS, scheduled}
use Rattle.cipher.specs.Cipher.{Octets}

pow256 : (n : ℕ) → 256 ^ n ≡ 2 ^ (n * 8)
pow256 zero = refl
pow256 (suc n) =
    let m : suc n * 8 ≡ n * 8 + 8 = omega arith in
    pow-suc 256 n ∙ ap (λ (k : ℕ). k * 256) (pow256 n) ∙ sym (ap (λ (k : ℕ). 2 ^ k) m ∙ pow-add 2 (n * 8) 8)

-- a bit of a byte that is not its last, from the byte without its last bit
low_bit : (z s : ℕ) → s < 7 → z / 2 ^ (7 - s) % 2 ≡ z % 256 / 2 / 2 ^ (6 - s) % 2
low_bit z s h =
    let a : s + 1 + (7 - s) ≡ 8 = omega arith in
    let b : 7 - s ≡ 1 + (6 - s) = omega arith in
    sym (mod-mod-pow (z / 2 ^ (7 - s)) s 1)
    ∙ ap (λ (n : ℕ). n % 2) (sym (field z (s + 1) (7 - s)))
    ∙ ap (λ (n : ℕ). z % 2 ^ n / 2 ^ (7 - s) % 2) a
    ∙ ap (λ (n : ℕ). z % 256 / n % 2) (ap (λ (n : ℕ). 2 ^ n) b ∙ pow-add 2 1 (6 - s))
    ∙ ap (λ (n : ℕ). n % 2) (sym (div-div-eq-div-mul (z % 256) 2 (2 ^ (6 - s))))

-- a bit of a key
key-bit : (k : List ℕ) → Octets k → (n : ℕ) → 1 ≤ n → n ≤ 64 → 1 ≤ n % 8
    → bit 64 (word k) n ≡ get_or (map (λ b. b / 2) k) ((n - 1) / 8) 0 / 2 ^ (6 - (n - 1) % 8) % 2
key-bit k o n h₁ h₂ h₃ =
    let i : (n - 1) / 8 < length k = omega (arith, o.eight) in
    let e : 64 - n ≡ (8 - suc ((n - 1) / 8)) * 8 + (7 - (n - 1) % 8) = omega arith in
    let s : (n - 1) % 8 < 7 = omega arith in
    ap (λ (m : ℕ). word k / m % 2) (ap (λ (m : ℕ). 2 ^ m) e ∙ pow-add 2 ((8 - suc ((n - 1) / 8)) * 8) (7 - (n - 1) % 8) ∙ ap (λ (m : ℕ). m * 2 ^ (7 - (n - 1) % 8)) (sym (pow256 (8 - suc ((n - 1) / 8)))))
    ∙ ap (λ (m : ℕ). m % 2) (sym (div-div-eq-div-mul (word k) (256 ^ (8 - suc ((n - 1) / 8))) (2 ^ (7 - (n - 1) % 8))))
    ∙ low_bit (word k / 256 ^ (8 - suc ((n - 1) / 8))) ((n - 1) % 8) s
    ∙ ap (λ (m : ℕ). m / 2 / 2 ^ (6 - (n - 1) % 8) % 2) (rw o.eight at (row-digit 256 0 k o.small ((n - 1) / 8) i))
    ∙ ap (λ (m : ℕ). m / 2 ^ (6 - (n - 1) % 8) % 2) (sym (get_or-map (λ b. b / 2) k ((n - 1) / 8) 0 0 i))

-- each entry names a bit of a key that is not the last of its byte
abbrev keyed : List ℕ → Bool
keyed [] = true
keyed (n ∷ ns) = both (both (both (leb 1 n) (leb n 64)) (leb 1 (n % 8))) (keyed ns)

module _ (k k' : List ℕ) (o : Octets k) (o' : Octets k') (e : map (λ (b : ℕ). b / 2) k ≡ map (λ (b : ℕ). b / 2) k') where
  same_bits : (ns : List ℕ) → T (keyed ns) → map (bit 64 (word k)) ns ≡ map (bit 64 (word k')) ns
  same_bits [] t = refl
  same_bits (n ∷ ns) t =
      let u : T (both (both (leb 1 n) (leb n 64)) (leb 1 (n % 8))) = both_left (both (both (leb 1 n) (leb n 64)) (leb 1 (n % 8))) (keyed ns) t in
      let v : T (both (leb 1 n) (leb n 64)) = both_left (both (leb 1 n) (leb n 64)) (leb 1 (n % 8)) u in
      let a : 1 ≤ n = leb→le 1 n (both_left (leb 1 n) (leb n 64) v) in
      let b : n ≤ 64 = leb→le n 64 (both_right (leb 1 n) (leb n 64) v) in
      let c : 1 ≤ n % 8 = leb→le 1 (n % 8) (both_right (both (leb 1 n) (leb n 64)) (leb 1 (n % 8)) u) in
      ap₂ (λ (x : ℕ) (xs : List ℕ). x ∷ xs)
      (key-bit k o n a b c ∙ ap (λ (l : List ℕ). get_or l ((n - 1) / 8) 0 / 2 ^ (6 - (n - 1) % 8) % 2) e ∙ sym (key-bit k' o' n a b c))
      (same_bits ns (both_right (both (both (leb 1 n) (leb n 64)) (leb 1 (n % 8))) (keyed ns) t))

  pub KS_parity : KS (word k) ≡ KS (word k')
  unfolding KS
  KS_parity = ap (λ (bs : List ℕ). scheduled shifts (row 2 0 bs / 2 ^ 28) (row 2 0 bs % 2 ^ 28)) (same_bits PC-1 tt)
