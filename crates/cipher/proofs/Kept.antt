-- Lemmas of the code as it was before, kept: what it is proved with now is elsewhere.
use Rattle.std.proofs.Common.{◌≡◌, sym, ap, ap₂, ◌∙◌, ⊎_elim, eq-zero-or-pos, List, [], ◌∷◌, ◌++◌, append_assoc, ℕ, ◌+◌, ◌-◌, ◌%◌, ◌<◌, ◌≤◌, arith}
use Rattle.std.proofs.Common.{length, take, drop, replicate, length-drop, length-append, drop_of_length-le, drop-drop, take_all}
use Rattle.std.proofs.lemmas.List.{length-replicate, take-append-le, drop-append-le}
use Rattle.std.proofs.lemmas.List.Edits.{sets}
use Rattle.ground.specs.Rows.{digits}
use Rattle.ground.specs.Lists.{take-sets, drop-sets, padded, padded-take, padded_fill}
use Rattle.fips81.specs.declared.Turn.{Turn}
use Rattle.cipher.specs.Bits.{word, bytes}
use Rattle.fips81.specs.Fips81.{given, left, blocks, joined, filled}
use Rattle.cipher.proofs.Texts.{blocks-first, blocks_none}

-- from i on, where a block is read with its filling
blocks_at : (t : List ℕ) (i : ℕ) → i + 8 ≤ length t → blocks (drop i t) ≡ word (padded 8 (drop i t)) ∷ blocks (drop (i + 8) t)
blocks_at t i h =
    let k : 8 ≤ length (drop i t) = omega (arith, length-drop i t) in
    blocks-first (drop i t) k ∙ ap₂ (λ (b r : List ℕ). word b ∷ blocks r) (sym (padded-take 8 (drop i t) k)) (drop-drop 8 i t)

-- ---- the loop over a text: from i on, a turn on the block that is read there

module _ (turn : ℕ → ℕ → Turn) (v : ℕ) (t : List ℕ) (i : ℕ) where
  pub left_step : (r : Turn) → r ≡ turn v (word (padded 8 (drop i t))) → i + 8 ≤ length t
      → left turn r.leaves (blocks (drop (i + 8) t)) ≡ left turn v (blocks (drop i t))
  unfolding left
  left_step r e h = ap (λ (z : Turn). left turn z.leaves (blocks (drop (i + 8) t))) e ∙ sym (ap (left turn v) (blocks_at t i h))

  pub left_end : length t ≤ i → left turn v (blocks (drop i t)) ≡ v
  unfolding left
  left_end h = ap (left turn v) (ap blocks (drop_of_length-le t h) ∙ blocks_none [] (omega arith))

  -- the block that is given is written at i
  pub given-step : (r : Turn) → r ≡ turn v (word (padded 8 (drop i t))) → i + 8 ≤ length t → (out o : List ℕ) → i + 8 ≤ length out → o ≡ sets out i (bytes r.gives)
      → take (i + 8) o ++ joined (given turn r.leaves (blocks (drop (i + 8) t))) ≡ take i out ++ joined (given turn v (blocks (drop i t)))
  unfolding given joined digits
  given-step r e h out o k s =
      ap (λ (l : List ℕ). l ++ joined (given turn r.leaves (blocks (drop (i + 8) t)))) (ap (take (i + 8)) s ∙ take-sets out (bytes r.gives) i k)
      ∙ append_assoc (take i out) (bytes r.gives) _
      ∙ ap (λ (l : List ℕ). take i out ++ l)
      (ap (λ (z : Turn). bytes z.gives ++ joined (given turn z.leaves (blocks (drop (i + 8) t)))) e
      ∙ sym (ap (λ (l : List ℕ). joined (given turn v l)) (blocks_at t i h)))

  pub given_end : length t ≤ i → joined (given turn v (blocks (drop i t))) ≡ []
  unfolding given joined
  given_end h = ap (λ (l : List ℕ). joined (given turn v l)) (ap blocks (drop_of_length-le t h) ∙ blocks_none [] (omega arith))

-- what stands after the block is not touched
pub rest_step : (out₀ out o : List ℕ) (i y : ℕ) → i + 8 ≤ length out → o ≡ sets out i (bytes y) → drop i out ≡ drop i out₀ → drop (i + 8) o ≡ drop (i + 8) out₀
unfolding digits
rest_step out₀ out o i y h s e =
    ap (drop (i + 8)) s ∙ drop-sets out (bytes y) i h ∙ sym (drop-drop 8 i out) ∙ ap (drop 8) e ∙ drop-drop 8 i out₀

-- a block read with its filling is a block of the filled record
pub filled_at : (t : List ℕ) (i : ℕ) → i % 8 ≡ 0 → i < length t → padded 8 (drop i t) ≡ padded 8 (drop i (filled t))
unfolding filled
filled_at t i m h =
    let z : List ℕ = replicate ((8 - length t % 8) % 8) 0 in
    let d : List ℕ = drop i t in
    let l : length d ≡ length t - i = length-drop i t in
    let s : drop i (t ++ z) ≡ d ++ z = drop-append-le i t z (omega arith) in
    let a : length (d ++ z) ≡ length d + (8 - length t % 8) % 8 = length-append d z ∙ ap (λ (n : ℕ). length d + n) (length-replicate ((8 - length t % 8) % 8) 0) in
    ⊎_elim
    (λ e.
    let k : 8 ≤ length d = omega arith in
    padded-take 8 d k ∙ sym (take-append-le 8 d z k) ∙ sym (padded-take 8 (d ++ z) (omega arith)) ∙ ap (padded 8) (sym s))
    (λ p.
    let q : (8 - length t % 8) % 8 ≡ 8 - length d = omega arith in
    padded_fill 8 d (omega arith) ∙ ap (λ (n : ℕ). d ++ replicate n 0) (sym q)
    ∙ sym (take_all 8 (d ++ z) (omega arith)) ∙ sym (padded-take 8 (d ++ z) (omega arith)) ∙ ap (padded 8) (sym s))
    (eq-zero-or-pos (8 - length d))
