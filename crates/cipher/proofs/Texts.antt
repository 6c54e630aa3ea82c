-- A text of bytes as blocks, and what the loops over a text keep.
use Rattle.std.proofs.Common.{◌≡◌, refl, sym, ap, ap₂, ◌∙◌, ⊎_elim, List, [], ◌∷◌, ◌++◌, map, append_assoc, append-nil, ℕ, zero, suc, min}
use Rattle.std.proofs.Common.{◌+◌, ◌-◌, ◌*◌, ◌/◌, ◌%◌, ◌<◌, ◌≤◌, arith, length, get_or, take, drop, replicate, bit_xor, length-drop, length-append}
use Rattle.std.proofs.Common.{drop_of_length-le, take-append-drop, drop-drop, take_all, take_at, drop_at}
use Rattle.std.proofs.lemmas.Bool.{cases_lt}
use Rattle.std.proofs.lemmas.List.{length-replicate, replicate-append-replicate, drop_more, drop_all, nil_from_length}
use Rattle.std.proofs.lemmas.Slice.{take-put_mid, drop-put_mid}
use Rattle.std.specs.Simd.{first_chunks}
use borrow.Rule.Slice.PartMut.{put_mid}
use Rattle.ground.specs.Lists.{padded, padded-length, padded_all, padded_fill}
use Rattle.fips81.specs.declared.Turn.{Turn}
use Rattle.cipher.specs.Bits.{word, bytes}
use Rattle.fips81.specs.Fips81.{chain, given, left, cut, blocks, joined, filled}

-- ---- the first block, and the rest

pub blocks-first : (t : List ℕ) → 8 ≤ length t → blocks t ≡ word (take 8 t) ∷ blocks (drop 8 t)
unfolding blocks cut
blocks-first t h =
    let e : length t / 8 ≡ suc (length (drop 8 t) / 8) = omega (arith, length-drop 8 t) in
    ap (λ (n : ℕ). cut n t) e

pub blocks_none : (t : List ℕ) → length t < 8 → blocks t ≡ []
unfolding blocks cut
blocks_none t h =
    let e : length t / 8 ≡ 0 = omega arith in
    ap (λ (n : ℕ). cut n t) e

pub blocks_one : (b : List ℕ) → length b ≡ 8 → blocks b ≡ word b ∷ []
blocks_one b h =
    blocks-first b (omega arith)
    ∙ ap₂ (λ (c r : List ℕ). word c ∷ r) (take_all 8 b (omega arith)) (ap blocks (drop_of_length-le b {i = 8} (omega arith)) ∙ blocks_none [] (omega arith))

-- a block, and more
pub blocks_front : (x q : List ℕ) → length x ≡ 8 → blocks (x ++ q) ≡ word x ∷ blocks q
blocks_front x q h =
    blocks-first (x ++ q) (omega (arith, length-append x q))
    ∙ ap₂ (λ (b r : List ℕ). word b ∷ blocks r) (take_at x q 8 h) (drop_at x q 8 h)

-- ---- the loop over a text, its blocks b one after another, from block i on

chunks-cut : (n : ℕ) (t : List ℕ) → map word (first_chunks 8 n t) ≡ cut n t
unfolding cut
chunks-cut zero t = refl
chunks-cut (suc n) t = ap (λ (l : List ℕ). word (take 8 t) ∷ l) (chunks-cut n (drop 8 t))

-- the library's chunks of eight bytes are the blocks
pub chunks-blocks : (t : List ℕ) → map word (first_chunks 8 (length t / 8) t) ≡ blocks t
unfolding blocks
chunks-blocks t = chunks-cut (length t / 8) t

module _ (turn : ℕ → ℕ → Turn) (v : ℕ) (b : List (List ℕ)) (i : ℕ) where
  next : i < length b → map word (drop i b) ≡ word (get_or b i []) ∷ map word (drop (i + 1) b)
  next h = ap (map word) (drop_more b i [] h)

  pub left_step : (r : Turn) → r ≡ turn v (word (get_or b i [])) → i < length b
      → left turn r.leaves (map word (drop (i + 1) b)) ≡ left turn v (map word (drop i b))
  unfolding left
  left_step r e h = ap (λ (z : Turn). left turn z.leaves (map word (drop (i + 1) b))) e ∙ sym (ap (left turn v) (next h))

  pub left_end : length b ≤ i → left turn v (map word (drop i b)) ≡ v
  unfolding left
  left_end h = ap (λ (l : List (List ℕ)). left turn v (map word l)) (drop_all i b h)

  -- the block that is given, as the bytes y, is written at block i
  pub given-step : (r : Turn) → r ≡ turn v (word (get_or b i [])) → i < length b
      → (k : ℕ) (out y : List ℕ) → y ≡ bytes r.gives → length y ≡ 8 → 8 * i ≤ length out
      → take (8 * (i + 1)) (put_mid (8 * i) k out y) ++ joined (given turn r.leaves (map word (drop (i + 1) b)))
      ≡ take (8 * i) out ++ joined (given turn v (map word (drop i b)))
  unfolding given joined
  given-step r e h k out y g n l =
      ap (λ (w : List ℕ). w ++ joined (given turn r.leaves (map word (drop (i + 1) b)))) (take-put_mid (8 * i) k out y (8 * (i + 1)) (omega arith) l)
      ∙ append_assoc (take (8 * i) out) y _
      ∙ ap (λ (w : List ℕ). take (8 * i) out ++ w)
      (ap (λ (w : List ℕ). w ++ joined (given turn r.leaves (map word (drop (i + 1) b)))) g
      ∙ ap (λ (z : Turn). bytes z.gives ++ joined (given turn z.leaves (map word (drop (i + 1) b)))) e
      ∙ sym (ap (λ (w : List ℕ). joined (given turn v w)) (next h)))

  pub given_end : length b ≤ i → joined (given turn v (map word (drop i b))) ≡ []
  unfolding given joined
  given_end h = ap (λ (l : List (List ℕ)). joined (given turn v (map word l))) (drop_all i b h)

-- what stands after the block is not touched
pub rest_step : (i k : ℕ) (out₀ out y : List ℕ) → k ≡ 8 → length y ≡ 8 → 8 * i ≤ length out → drop (8 * i) out ≡ drop (8 * i) out₀
    → drop (8 * (i + 1)) (put_mid (8 * i) k out y) ≡ drop (8 * (i + 1)) out₀
rest_step i k out₀ out y f n h e =
    let m : 8 * (i + 1) ≡ 8 * i + 8 = omega arith in
    drop-put_mid (8 * i) k out y (8 * (i + 1)) (omega arith) h (n ∙ sym f)
    ∙ rw m (sym (drop-drop 8 (8 * i) out) ∙ ap (drop 8) e ∙ drop-drop 8 (8 * i) out₀)

-- at the end what was written stands before what was there
pub written : (out out₀ w : List ℕ) (i : ℕ) → take i out ≡ w → drop i out ≡ drop i out₀ → out ≡ w ++ drop i out₀
written out out₀ w i t d = sym (take-append-drop i out) ∙ ap₂ (λ (a b : List ℕ). a ++ b) t d

-- ---- the loop over a record, whose last block may be short

pub filled-length : (t : List ℕ) → length (filled t) ≡ length t + (8 - length t % 8) % 8
unfolding filled
filled-length t = length-append t (replicate ((8 - length t % 8) % 8) 0) ∙ ap (λ (n : ℕ). length t + n) (length-replicate ((8 - length t % 8) % 8) 0)

-- zero bytes that fill a record no further than its last block leave the filled record as it is
pub filled-zeros : (t : List ℕ) (n : ℕ) → n ≤ (8 - length t % 8) % 8 → filled (t ++ replicate n 0) ≡ filled t
unfolding filled
filled-zeros t n h =
    let l : length (t ++ replicate n 0) ≡ length t + n = length-append t (replicate n 0) ∙ ap (λ (m : ℕ). length t + m) (length-replicate n 0) in
    let e : n + (8 - length (t ++ replicate n 0) % 8) % 8 ≡ (8 - length t % 8) % 8 = omega arith in
    append_assoc t (replicate n 0) _
    ∙ ap (λ (z : List ℕ). t ++ z) (replicate-append-replicate n ((8 - length (t ++ replicate n 0) % 8) % 8) 0 ∙ ap (λ (m : ℕ). replicate m 0) e)

filled_whole : (x r : List ℕ) → length x ≡ 8 → filled (x ++ r) ≡ x ++ filled r
unfolding filled
filled_whole x r h =
    let l : length (x ++ r) ≡ 8 + length r = length-append x r ∙ ap (λ (n : ℕ). n + length r) h in
    let e : (8 - length (x ++ r) % 8) % 8 ≡ (8 - length r % 8) % 8 = omega arith in
    append_assoc x r _ ∙ ap (λ (n : ℕ). x ++ (r ++ replicate n 0)) e

filled_short : (x : List ℕ) → 0 < length x → length x < 8 → filled x ≡ padded 8 x
unfolding filled
filled_short x p h =
    let e : (8 - length x % 8) % 8 ≡ 8 - length x = omega arith in
    ap (λ (n : ℕ). x ++ replicate n 0) e ∙ sym (padded_fill 8 x (omega arith))

filled_none : (t : List ℕ) → length t ≡ 0 → blocks (filled t) ≡ []
filled_none t h = blocks_none (filled t) (omega (arith, filled-length t))

-- a chunk x of a record is, with its filling, a block of the filled record
filled_first : (t x r : List ℕ) → t ≡ x ++ r → length x ≡ min 8 (length t) → 0 < length t
    → blocks (filled t) ≡ word (padded 8 x) ∷ blocks (filled r)
filled_first t x r e l p =
    let n : length t ≡ length x + length r = ap length e ∙ length-append x r in
    ap (λ (z : List ℕ). blocks (filled z)) e
    ∙ ⊎_elim
    (λ s.
    let z : r ≡ [] = nil_from_length r (omega arith) in
    rw (z, append-nil x, filled_short x (omega arith) (omega arith), filled_none [] refl) (blocks_one (padded 8 x) (padded-length 8 x)))
    (λ s.
    let w : length x ≡ 8 = omega arith in
    rw (filled_whole x r w, padded_all 8 x w) (blocks_front x (filled r) w))
    (cases_lt (length t) 8)

module _ (g : ℕ → ℕ) (v : ℕ) (t : List ℕ) where
  pub chained_step : (x r : List ℕ) (n y : ℕ) → n ≡ 8 → t ≡ x ++ r → length x ≡ min n (length t) → 0 < length t
      → y ≡ g (bit_xor (word (padded 8 x)) v) → left (chain g) y (blocks (filled r)) ≡ left (chain g) v (blocks (filled t))
  unfolding left chain
  chained_step x r n y k e l p q =
      ap (λ (z : ℕ). left (chain g) z (blocks (filled r))) q
      ∙ sym (ap (left (chain g) v) (filled_first t x r e (l ∙ ap (λ (m : ℕ). min m (length t)) k) p))

  pub chained_end : length t ≡ 0 → left (chain g) v (blocks (filled t)) ≡ v
  unfolding left
  chained_end h = ap (left (chain g) v) (filled_none t h)
