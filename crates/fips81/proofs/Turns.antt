-- Laws of the modes on units, over any cipher on words of 64 bits: joining, undoing, and the vector afterwards; then under a key.
use Rattle.std.proofs.Common.{◌≡◌, length, get_or, refl, ap, ◌∙◌, div-one, mod-lt, arith, List, [], ◌∷◌, ◌++◌, reverse, ℕ, zero, suc, ◌+◌, ◌*◌, ◌^◌}
use Rattle.std.proofs.Common.{◌<◌}
use Rattle.std.proofs.Math.Arith.{digits_mod}
use Rattle.std.specs.Int.Bits.{bit_xor, xor_lt}
use Rattle.ground.specs.Lists.{Below}
use Rattle.ground.specs.Xor.{xor_twice}
use Rattle.engine.specs.Bits.{word}
use Rattle.engine.specs.Fips46.{computed, KS}
use Rattle.engine.proofs.Undoing.{computed_lt, computed_back}
use Rattle.fips81.specs.declared.Turn.{Turn}
use Rattle.fips81.specs.Fips81.{codebook, chain, unchain, pad, fed, feedback, unfeedback, given, left}
use Rattle.fips81.specs.Fips81.{Way, ECB, CBC, CFB, Direction, enciphers, deciphers, turned, keys_for}
use Rattle.fips81.specs.Keyed.{turn_of}

-- ---- two calls equal one call on the joined text, whatever the mode

module _ (turn : ℕ → ℕ → Turn) where
  pub given-length : (v : ℕ) (xs : List ℕ) → length (given turn v xs) ≡ length xs
  unfolding given
  given-length v [] = refl
  given-length v (x ∷ xs) = ap suc (given-length (turn v x).leaves xs)

  pub given_join : (v : ℕ) (xs ys : List ℕ) → given turn v (xs ++ ys) ≡ given turn v xs ++ given turn (left turn v xs) ys
  unfolding given left
  given_join v [] ys = refl
  given_join v (x ∷ xs) ys = ap (λ (l : List ℕ). (turn v x).gives ∷ l) (given_join (turn v x).leaves xs ys)

  pub left_join : (v : ℕ) (xs ys : List ℕ) → left turn v (xs ++ ys) ≡ left turn (left turn v xs) ys
  unfolding left
  left_join v [] ys = refl
  left_join v (x ∷ xs) ys = left_join (turn v x).leaves xs ys

-- ---- undoing

-- `back` gives back the units below n that `turn` took, and leaves the same vector
pub record Undoes (n : ℕ) (turn back : ℕ → ℕ → Turn) : Type 0 where
  pub same : (v x : ℕ) → v < 2 ^ 64 → x < n → back v (turn v x).gives ≡ record { gives = x; leaves = (turn v x).leaves }
  pub kept : (v x : ℕ) → v < 2 ^ 64 → (turn v x).leaves < 2 ^ 64

module _ {n : ℕ} {turn back : ℕ → ℕ → Turn} (u : Undoes n turn back) where
  pub given_back : (v : ℕ) (xs : List ℕ) → v < 2 ^ 64 → Below n xs → given back v (given turn v xs) ≡ xs
  unfolding given
  given_back v [] h b = refl
  given_back v (x ∷ xs) h b =
      ap (λ (t : Turn). t.gives ∷ given back t.leaves (given turn (turn v x).leaves xs)) (u.same v x h (b 0))
      ∙ ap (λ (l : List ℕ). x ∷ l) (given_back (turn v x).leaves xs (u.kept v x h) (λ i. b (suc i)))

  pub left_back : (v : ℕ) (xs : List ℕ) → v < 2 ^ 64 → Below n xs → left back v (given turn v xs) ≡ left turn v xs
  unfolding given left
  left_back v [] h b = refl
  left_back v (x ∷ xs) h b =
      ap (λ (t : Turn). left back t.leaves (given turn (turn v x).leaves xs)) (u.same v x h (b 0))
      ∙ left_back (turn v x).leaves xs (u.kept v x h) (λ i. b (suc i))

-- a cipher, and what undoes it
module _ (g d : ℕ → ℕ) (gd : (x : ℕ) → x < 2 ^ 64 → d (g x) ≡ x) (glt : (x : ℕ) → g x < 2 ^ 64) where
  pub codebook_undone : Undoes (2 ^ 64) (codebook g) (codebook d)
  unfolding codebook
  codebook_undone = record {
    same = λ v x h k. ap (λ (y : ℕ). record { gives = y; leaves = v }) (gd x k);
    kept = λ v x h. h;
  }

  pub chain_undone : Undoes (2 ^ 64) (chain g) (unchain d)
  unfolding chain unchain
  chain_undone = record {
    same = λ v x h k. ap (λ (y : ℕ). record { gives = y; leaves = g (bit_xor x v) }) (ap (λ (y : ℕ). bit_xor y v) (gd (bit_xor x v) (xor_lt 64 x v k h)) ∙ xor_twice x v);
    kept = λ v x h. glt (bit_xor x v);
  }

-- feedback of any width is undone by the same direction of the cipher
pub feedback_undone : (w : ℕ) (g : ℕ → ℕ) (n : ℕ) → Undoes n (feedback w g) (unfeedback w g)
unfolding feedback unfeedback fed
feedback_undone w g n = record {
  same = λ v x h k. ap (λ (y : ℕ). record { gives = y; leaves = fed w v (bit_xor x (pad w g v)) }) (xor_twice x (pad w g v));
  kept = λ v x h. mod-lt (v * 2 ^ w + bit_xor x (pad w g v)) (omega arith);
}

-- ---- feedback of 64 bits

fed_64 : (v c : ℕ) → c < 2 ^ 64 → fed 64 v c ≡ c
unfolding fed
fed_64 v c h = digits_mod v h

pad_64 : (g : ℕ → ℕ) (v : ℕ) → pad 64 g v ≡ g v
unfolding pad
pad_64 g v = div-one (g v)

module _ (g : ℕ → ℕ) (v x : ℕ) (h : x < 2 ^ 64) where
  pub feedback_64 : g v < 2 ^ 64 → feedback 64 g v x ≡ record { gives = bit_xor x (g v); leaves = bit_xor x (g v) }
  unfolding feedback
  feedback_64 k =
      ap (λ (y : ℕ). record { gives = bit_xor x y; leaves = fed 64 v (bit_xor x y) }) (pad_64 g v)
      ∙ ap (λ (y : ℕ). record { gives = bit_xor x (g v); leaves = y }) (fed_64 v (bit_xor x (g v)) (xor_lt 64 x (g v) h k))

  pub unfeedback_64 : unfeedback 64 g v x ≡ record { gives = bit_xor x (g v); leaves = x }
  unfolding unfeedback
  unfeedback_64 =
      ap (λ (y : ℕ). record { gives = bit_xor x y; leaves = fed 64 v x }) (pad_64 g v)
      ∙ ap (λ (y : ℕ). record { gives = bit_xor x (g v); leaves = y }) (fed_64 v x h)

-- ---- words of 64 bits stay words of 64 bits, and the vector afterwards

pub record Bounded (turn : ℕ → ℕ → Turn) : Type 0 where
  pub gives_lt : (v x : ℕ) → v < 2 ^ 64 → x < 2 ^ 64 → (turn v x).gives < 2 ^ 64
  pub leaves_lt : (v x : ℕ) → v < 2 ^ 64 → x < 2 ^ 64 → (turn v x).leaves < 2 ^ 64

-- the last of the units, or what was there before
abbrev pub last : ℕ → List ℕ → ℕ
last v [] = v
last v (x ∷ xs) = last x xs

module _ {turn : ℕ → ℕ → Turn} (b : Bounded turn) where
  pub given_below : (v : ℕ) (xs : List ℕ) → v < 2 ^ 64 → Below (2 ^ 64) xs → Below (2 ^ 64) (given turn v xs)
  unfolding given
  given_below v [] h k i = k i
  given_below v (x ∷ xs) h k zero = b.gives_lt v x h (k 0)
  given_below v (x ∷ xs) h k (suc i) = given_below (turn v x).leaves xs (b.leaves_lt v x h (k 0)) (λ j. k (suc j)) i

  pub left_lt : (v : ℕ) (xs : List ℕ) → v < 2 ^ 64 → Below (2 ^ 64) xs → left turn v xs < 2 ^ 64
  unfolding left
  left_lt v [] h k = h
  left_lt v (x ∷ xs) h k = left_lt (turn v x).leaves xs (b.leaves_lt v x h (k 0)) (λ j. k (suc j))

-- the vector afterwards, for units with the property P
module _ (turn : ℕ → ℕ → Turn) (P : ℕ → Type 0) where
  -- a mode that leaves what it gives leaves the last unit that it gives
  pub left-given : ((v x : ℕ) → P x → (turn v x).leaves ≡ (turn v x).gives) → (v : ℕ) (xs : List ℕ) → ((i : ℕ) → P (get_or xs i 0)) → left turn v xs ≡ last v (given turn v xs)
  unfolding left given
  left-given e v [] k = refl
  left-given e v (x ∷ xs) k = left-given e (turn v x).leaves xs (λ j. k (suc j)) ∙ ap (λ (y : ℕ). last y (given turn (turn v x).leaves xs)) (e v x (k 0))

  -- a mode that leaves what it takes leaves the last unit that it takes
  pub left-taken : ((v x : ℕ) → P x → (turn v x).leaves ≡ x) → (v : ℕ) (xs : List ℕ) → ((i : ℕ) → P (get_or xs i 0)) → left turn v xs ≡ last v xs
  unfolding left
  left-taken e v [] k = refl
  left-taken e v (x ∷ xs) k = ap (λ (y : ℕ). left turn y xs) (e v x (k 0)) ∙ left-taken e x xs (λ j. k (suc j))

-- a mode that leaves the vector
pub left_still : (turn : ℕ → ℕ → Turn) → ((v x : ℕ) → (turn v x).leaves ≡ v) → (v : ℕ) (xs : List ℕ) → left turn v xs ≡ v
unfolding left
left_still turn e v [] = refl
left_still turn e v (x ∷ xs) = ap (λ (y : ℕ). left turn y xs) (e v x) ∙ left_still turn e v xs

module _ (g : ℕ → ℕ) (glt : (x : ℕ) → g x < 2 ^ 64) where
  pub codebook_bounded : Bounded (codebook g)
  unfolding codebook
  codebook_bounded = record { gives_lt = λ v x h k. glt x; leaves_lt = λ v x h k. h }

  pub chain_bounded : Bounded (chain g)
  unfolding chain
  chain_bounded = record { gives_lt = λ v x h k. glt (bit_xor x v); leaves_lt = λ v x h k. glt (bit_xor x v) }

  pub unchain_bounded : Bounded (unchain g)
  unfolding unchain
  unchain_bounded = record { gives_lt = λ v x h k. xor_lt 64 (g x) v (glt x) h; leaves_lt = λ v x h k. k }

  pub feedback_bounded : Bounded (feedback 64 g)
  feedback_bounded = record {
    gives_lt = λ v x h k. rw (feedback_64 g v x k (glt v)) (xor_lt 64 x (g v) k (glt v));
    leaves_lt = λ v x h k. rw (feedback_64 g v x k (glt v)) (xor_lt 64 x (g v) k (glt v));
  }

  pub unfeedback_bounded : Bounded (unfeedback 64 g)
  unfeedback_bounded = record {
    gives_lt = λ v x h k. rw (unfeedback_64 g v x k) (xor_lt 64 x (g v) k (glt v));
    leaves_lt = λ v x h k. rw (unfeedback_64 g v x k) k;
  }

-- ---- under a key k

pub turn_bounded : (w : Way) (d : Direction) (k : List ℕ) → Bounded (turn_of w d k)
unfolding turned
turn_bounded ECB enciphers k = codebook_bounded _ (computed_lt _)
turn_bounded ECB deciphers k = codebook_bounded _ (computed_lt _)
turn_bounded CBC enciphers k = chain_bounded _ (computed_lt _)
turn_bounded CBC deciphers k = unchain_bounded _ (computed_lt _)
turn_bounded CFB enciphers k = feedback_bounded _ (computed_lt _)
turn_bounded CFB deciphers k = unfeedback_bounded _ (computed_lt _)

-- deciphering undoes enciphering; CFB by the cipher in its enciphering direction
pub turn_undone : (w : Way) (k : List ℕ) → Undoes (2 ^ 64) (turn_of w enciphers k) (turn_of w deciphers k)
unfolding turned keys_for
turn_undone ECB k = codebook_undone (computed (KS (word k))) (computed (reverse (KS (word k)))) (computed_back (KS (word k))) (computed_lt (KS (word k)))
turn_undone CBC k = chain_undone (computed (KS (word k))) (computed (reverse (KS (word k)))) (computed_back (KS (word k))) (computed_lt (KS (word k)))
turn_undone CFB k = feedback_undone 64 (computed (KS (word k))) (2 ^ 64)
