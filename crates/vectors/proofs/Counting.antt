-- Laws of the counts, and of a table's rows.
use Rattle.std.proofs.Common.{◌≡◌, ℕ, zero, suc, ◌+◌, ◌*◌, ◌<◌, ◌≤◌, Bool, true, false, cond, List, [], refl, get_or, take, drop, slice_index, ap, ◌∙◌, add-one, arith, get_or-take, get_or-drop, drop-drop}
use Rattle.std.specs.Simd.{first_chunks}
use Rattle.std.specs.Str.{bytes_eq}
use Rattle.cipher.specs.Cipher.{enciphered, deciphered}
use Rattle.vectors.specs.Answers.{one, right, key_at, plain_at, cipher_at, forwards, backwards}

-- row i of the rows of three
row_at : (t : List ℕ) (n i : ℕ) → i < n → get_or (first_chunks 3 n t) i [] ≡ take 3 (drop (3 * i) t)
row_at t zero i h = absurd (omega arith)
row_at t (suc n) zero h = refl
row_at t (suc n) (suc i) h =
    let e : 3 + 3 * i ≡ 3 * suc i = omega arith in
    row_at (drop 3 t) n i (omega arith) ∙ ap (take 3) (drop-drop (3 * i) 3 t ∙ ap (λ (k : ℕ). drop k t) e)

-- number j of row i stands at 3 i + j of the table
pub row_read : (t : List ℕ) (b : List (List ℕ)) (n i j k : ℕ) → b ≡ first_chunks 3 n t → i < n → j < 3 → 3 * i + j ≡ k
    → get_or (get_or b i []) j 0 ≡ slice_index t k
row_read t b n i j k e h l f =
    ap (λ (r : List (List ℕ)). get_or (get_or r i []) j 0) e
    ∙ ap (λ (r : List ℕ). get_or r j 0) (row_at t n i h)
    ∙ get_or-take 3 (drop (3 * i) t) j 0 l ∙ get_or-drop (3 * i) t j 0 ∙ ap (λ (m : ℕ). get_or t m 0) f

pub one_most : (answer published : List ℕ) → one answer published ≤ 1
unfolding one
one_most a p = most (bytes_eq a p)
  where
    most : (b : Bool) → cond b 1 0 ≤ 1
    most true = omega arith
    most false = omega arith

-- one answer more
right_next : (answer published : ℕ → List ℕ) (n : ℕ) → right answer published (n + 1) ≡ right answer published n + one (answer n) (published n)
unfolding right
right_next a p n = rw add-one

pub forwards_next : (t : List ℕ) (n : ℕ) → forwards t (n + 1) ≡ forwards t n + one (enciphered (key_at t n) (plain_at t n)) (cipher_at t n)
unfolding forwards
forwards_next t n = right_next (λ (i : ℕ). enciphered (key_at t i) (plain_at t i)) (cipher_at t) n

pub backwards_next : (t : List ℕ) (n : ℕ) → backwards t (n + 1) ≡ backwards t n + one (deciphered (key_at t n) (cipher_at t n)) (plain_at t n)
unfolding backwards
backwards_next t n = right_next (λ (i : ℕ). deciphered (key_at t i) (cipher_at t i)) (plain_at t) n
