-- Texts of bytes and lists of words are the same thing: cutting and joining are inverse, and go through `++`.
use Rattle.std.proofs.Common.{◌≡◌, refl, sym, ap, ap₂, ◌∙◌, List, [], ◌∷◌, ◌++◌, append_assoc, append-nil, ℕ, zero, suc, ◌+◌, ◌-◌, ◌*◌, ◌/◌, ◌%◌, ◌^◌}
use Rattle.std.proofs.Common.{◌<◌, ◌≤◌, arith, lit<, length, take, drop, length-drop, length-append, length-take, take-append-drop, length-take-le}
use Rattle.std.proofs.Math.Seq.{drop-append-add}
use Rattle.std.proofs.lemmas.List.{take-append-le, drop-append-le}
use Rattle.ground.specs.Rows.{digits, row_lt, shorter, digits-row, row-digits, digits_below, digits-length}
use Rattle.ground.specs.Lists.{Below, below_take, below_drop, below_append, none}
use Rattle.cipher.specs.Bits.{word, bytes}
use Rattle.fips81.specs.Fips81.{cut, blocks, joined, last_block}
use Rattle.cipher.specs.Cipher.{Octets, Whole}
use Rattle.fips81.proofs.Turns.{last}

-- ---- eight bytes and a word

pub word_lt : (b : List ℕ) → length b ≤ 8 → Below 256 b → word b < 2 ^ 64
word_lt b h s = shorter 256 {i = length b} {n = 8} (lit< tt) h (row_lt 256 b s)

pub bytes_word : (b : List ℕ) → Octets b → bytes (word b) ≡ b
bytes_word b o = rw o.eight at (digits-row 256 0 b o.small)

pub word_bytes : (x : ℕ) → x < 2 ^ 64 → word (bytes x) ≡ x
word_bytes x h = row-digits 256 8 x h

pub bytes_octets : (x : ℕ) → Octets (bytes x)
bytes_octets x = record { eight = digits-length 256 8 x; small = digits_below 256 8 x (lit< tt) }

-- ---- a text and its blocks

cut-length : (n : ℕ) (t : List ℕ) → length (cut n t) ≡ n
unfolding cut
cut-length zero t = refl
cut-length (suc n) t = ap suc (cut-length n (drop 8 t))

pub blocks-length : (t : List ℕ) → length (blocks t) ≡ length t / 8
unfolding blocks
blocks-length t = cut-length (length t / 8) t

cut_below : (n : ℕ) (t : List ℕ) → Below 256 t → Below (2 ^ 64) (cut n t)
unfolding cut
cut_below zero t b i = lit< tt
cut_below (suc n) t b zero = word_lt (take 8 t) (omega (arith, length-take 8 t)) (below_take 256 8 t (lit< tt) b)
cut_below (suc n) t b (suc i) = cut_below n (drop 8 t) (below_drop 256 8 t b) i

pub blocks_below : (t : List ℕ) → Below 256 t → Below (2 ^ 64) (blocks t)
unfolding blocks
blocks_below t b = cut_below (length t / 8) t b

joined-cut : (n : ℕ) (t : List ℕ) → length t ≡ n * 8 → Below 256 t → joined (cut n t) ≡ t
unfolding joined cut
joined-cut zero t h b = sym (none t (omega arith))
joined-cut (suc n) t h b =
    let k : 8 ≤ length t = omega arith in
    let l : length (drop 8 t) ≡ n * 8 = omega (arith, length-drop 8 t) in
    ap₂ (λ (x y : List ℕ). x ++ y)
    (bytes_word (take 8 t) (record { eight = length-take-le 8 t k; small = below_take 256 8 t (lit< tt) b }))
    (joined-cut n (drop 8 t) l (below_drop 256 8 t b))
    ∙ take-append-drop 8 t

pub joined-blocks : (t : List ℕ) → Whole t → joined (blocks t) ≡ t
unfolding blocks
joined-blocks t w = let b : length t % 8 ≡ 0 = w.blocks in joined-cut (length t / 8) t (omega arith) w.small

cut-joined : (xs : List ℕ) → Below (2 ^ 64) xs → cut (length xs) (joined xs) ≡ xs
unfolding joined cut digits
cut-joined [] b = refl
cut-joined (x ∷ xs) b = ap₂ (λ (y : ℕ) (ys : List ℕ). y ∷ ys) (word_bytes x (b 0)) (cut-joined xs (λ i. b (suc i)))

pub joined_length : (xs : List ℕ) → length (joined xs) ≡ length xs * 8
unfolding joined digits
joined_length [] = refl
joined_length (x ∷ xs) = let e : length (joined xs) ≡ length xs * 8 = joined_length xs in omega (arith, length-append (bytes x) (joined xs))

pub blocks-joined : (xs : List ℕ) → Below (2 ^ 64) xs → blocks (joined xs) ≡ xs
unfolding blocks
blocks-joined xs b =
    let e : length (joined xs) / 8 ≡ length xs = omega (arith, joined_length xs) in
    ap (λ (n : ℕ). cut n (joined xs)) e ∙ cut-joined xs b

joined_below : (xs : List ℕ) → Below 256 (joined xs)
unfolding joined
joined_below [] = λ i. lit< tt
joined_below (x ∷ xs) = below_append 256 (bytes x) (joined xs) (bytes_octets x).small (joined_below xs)

pub joined_whole : (xs : List ℕ) → Whole (joined xs)
joined_whole xs = record { blocks = omega (arith, joined_length xs); small = joined_below xs }

pub joined-append : (xs ys : List ℕ) → joined (xs ++ ys) ≡ joined xs ++ joined ys
unfolding joined
joined-append [] ys = refl
joined-append (x ∷ xs) ys = ap (λ (l : List ℕ). bytes x ++ l) (joined-append xs ys) ∙ sym (append_assoc (bytes x) (joined xs) (joined ys))

cut-append : (n m : ℕ) (s t : List ℕ) → length s ≡ n * 8 → cut (n + m) (s ++ t) ≡ cut n s ++ cut m t
unfolding cut
cut-append zero m s t h =
    let e : 0 + m ≡ m = omega arith in
    rw (none s (omega arith)) (ap (λ (k : ℕ). cut k t) e)
cut-append (suc n) m s t h =
    let k : 8 ≤ length s = omega arith in
    let l : length (drop 8 s) ≡ n * 8 = omega (arith, length-drop 8 s) in
    let e : suc n + m ≡ suc (n + m) = omega arith in
    ap (λ (j : ℕ). cut j (s ++ t)) e
    ∙ ap₂ (λ (a b : List ℕ). word a ∷ cut (n + m) b) (take-append-le 8 s t k) (drop-append-le 8 s t k)
    ∙ ap (λ (r : List ℕ). word (take 8 s) ∷ r) (cut-append n m (drop 8 s) t l)

pub blocks-append : (s t : List ℕ) → length s % 8 ≡ 0 → blocks (s ++ t) ≡ blocks s ++ blocks t
unfolding blocks
blocks-append s t h =
    let e : length (s ++ t) / 8 ≡ length s / 8 + length t / 8 = omega (arith, length-append s t) in
    ap (λ (n : ℕ). cut n (s ++ t)) e ∙ cut-append (length s / 8) (length t / 8) s t (omega arith)

-- ---- the last block

pub last-joined : (v x : ℕ) (xs : List ℕ) → last_block (joined (x ∷ xs)) ≡ bytes (last v (x ∷ xs))
unfolding joined last_block digits
last-joined v x [] = append-nil (bytes x)
last-joined v x (y ∷ ys) =
    let e : length (bytes x ++ joined (y ∷ ys)) - 8 ≡ 8 + (length (joined (y ∷ ys)) - 8) = omega (arith, length-append (bytes x) (joined (y ∷ ys)), joined_length (y ∷ ys)) in
    ap (λ (n : ℕ). drop n (bytes x ++ joined (y ∷ ys))) e
    ∙ drop-append-add (bytes x) (joined (y ∷ ys)) (length (joined (y ∷ ys)) - 8)
    ∙ last-joined x y ys
