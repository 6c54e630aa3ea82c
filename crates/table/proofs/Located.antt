-- Theorems of the number of an entry that a search of the table tells, and of finding none, in the definition's words.
use Rattle.std.specs.Prelude.{◌≡◌, refl, true, false, Option, None, Some, [], ◌∷◌, ◌++◌, ℕ, zero, suc, ◌+◌, ◌*◌, ◌-◌, ◌/◌, ◌≤◌, ◌<◌, eqb, length, take, drop, get_or, position, ◌≢◌}
use Rattle.std.specs.Simd.{first_chunks}
use Rattle.std.proofs.Common.{sym, ap, ap₂, ◌∙◌, append_assoc, append-nil, not-suc-le-zero, arith, length-append, add-one, eqb-true, ne_eqb, take-add, drop-drop, drop-cons, take_at, drop_at, length-take-le}
use Rattle.std.proofs.Math.Numerals.{add-two, add-three, add-four, add_five, add_six, add_seven}
use Rattle.std.proofs.Math.Seq.{take-length, drop-length}
use Rattle.std.proofs.lemmas.Bool.{eqb-false}
use Rattle.std.proofs.lemmas.List.Quantifiers.{position-Some}
use borrow.Rule.Slice.PartMut.{mid_of, put_mid, mid_len, Post-is}
use Rattle.ground.specs.Rows.{row, digits, digits-length}
use Rattle.ground.specs.Search.{by_test}
use Rattle.state.specs.State.{Bytes}
use Rattle.state.proofs.Positions.{position_cons, position_none}
use Rattle.table.specs.Entries.{free_id, id_of, id_at, entries, is_of, entry_in, enter_in, entry_of, enter, enrol_in}
use Rattle.table.specs.Located.{NotBefore, Entered}
use Rattle.table.proofs.Positions.{shift0, entry_is_at, id_first, kept_first, found, found_in, changed, kept, entered_in, taken, taken_in}

-- the four bytes of an identifier
pub id_bytes : (t : Bytes) (i : ℕ) → i + 12 ≤ length t
    → id_of (drop i t) ≡ get_or t i 0 * 16777216 + get_or t (i + 1) 0 * 65536 + get_or t (i + 2) 0 * 256 + get_or t (i + 3) 0
unfolding id_of row
id_bytes t i l =
    rw (drop-cons t i 0 (omega arith), drop-cons t (suc i) 0 (omega arith), drop-cons t (suc (suc i)) 0 (omega arith), drop-cons t (suc (suc (suc i))) 0 (omega arith), add-one i, add-two i, add-three i)
    (omega arith)

-- one more entry is passed
pub more : (u : ℕ) (t : Bytes) (k : ℕ) → NotBefore u t k → (id_at t k ≡ u → ⊥) → NotBefore u t (k + 1)
more u t k b n j h =
    by_test (eqb j k)
    (λ e. rw (eqb-true j k e) (ne_eqb u (id_at t k) (λ q. n (sym q))))
    (λ e. let d : j ≢ k = eqb-false j k e in b j (omega arith))

later : (u : ℕ) (t : Bytes) (k : ℕ) → NotBefore u t (suc k) → NotBefore u (drop 12 t) k
later u t k b j h = rw (shift0 j t) at (b (suc j) (omega arith))

-- the number that `position` finds
position_at : (n u : ℕ) (t : Bytes) (k : ℕ) → k < n → NotBefore u t k → eqb u (id_at t k) ≡ true
    → position (is_of u) (first_chunks 12 n t) ≡ Some k
position_at zero u t k h b e = absurd (not-suc-le-zero h)
position_at (suc n) u t zero h b e = rw (position_cons (is_of u) (take 12 t) (first_chunks 12 n (drop 12 t)), id_first t, e)
position_at (suc n) u t (suc k) h b e =
    let z : eqb u (id_of t) ≡ false = b 0 (omega arith) in
    let i = position_at n u (drop 12 t) k (omega arith) (later u t k b) (rw (shift0 k t) at e) in
    rw (position_cons (is_of u) (take 12 t) (first_chunks 12 n (drop 12 t)), id_first t, z, i)

position_nowhere : (n u : ℕ) (t : Bytes) → NotBefore u t n → position (is_of u) (first_chunks 12 n t) ≡ None
position_nowhere zero u t b = refl
position_nowhere (suc n) u t b =
    let z : eqb u (id_of t) ≡ false = b 0 (omega arith) in
    let i = position_nowhere n u (drop 12 t) (later u t n b) in
    rw (position_cons (is_of u) (take 12 t) (first_chunks 12 n (drop 12 t)), id_first t, z, i)

pub entry_at : (n u : ℕ) (t : Bytes) (k : ℕ) → k < n → NotBefore u t k → eqb u (id_at t k) ≡ true
    → entry_in n u t ≡ Some (take 8 (drop (k * 12 + 4) t))
entry_at n u t k h b e =
    found_in n u t
    ∙ ap (found t) (position_at n u t k h b e)
    ∙ ap Some (kept_first (drop (k * 12) t) ∙ ap (take 8) (drop-drop 4 (k * 12) t))

pub entry_nowhere : (n u : ℕ) (t : Bytes) → NotBefore u t n → entry_in n u t ≡ None
entry_nowhere n u t b = found_in n u t ∙ ap (found t) (position_nowhere n u t b)

pub enter_at : (n u : ℕ) (b t : Bytes) (k : ℕ) → k < n → NotBefore u t k → eqb u (id_at t k) ≡ true
    → enter_in n u b t ≡ take (k * 12 + 4) t ++ (b ++ drop (k * 12 + 12) t)
enter_at n u b t k h nb e =
    entered_in n u b t
    ∙ ap (changed (kept b) t) (position_at n u t k h nb e)
    ∙ rw (take-add (k * 12) 4 t, append_assoc (take (k * 12) t) (take 4 (drop (k * 12) t)), drop-drop)

-- eight bytes from o on
pub eight_bytes : (t : Bytes) (o : ℕ) → o + 8 ≤ length t
    → get_or t o 0 ∷ get_or t (o + 1) 0 ∷ get_or t (o + 2) 0 ∷ get_or t (o + 3) 0 ∷ get_or t (o + 4) 0 ∷ get_or t (o + 5) 0 ∷ get_or t (o + 6) 0 ∷ get_or t (o + 7) 0 ∷ []
    ≡ take 8 (drop o t)
eight_bytes t o l =
    rw (drop-cons t o 0 (omega arith), drop-cons t (suc o) 0 (omega arith), drop-cons t (suc (suc o)) 0 (omega arith), drop-cons t (suc (suc (suc o))) 0 (omega arith), drop-cons t (suc (suc (suc (suc o)))) 0 (omega arith), drop-cons t (suc (suc (suc (suc (suc o))))) 0 (omega arith), drop-cons t (suc (suc (suc (suc (suc (suc o)))))) 0 (omega arith), drop-cons t (suc (suc (suc (suc (suc (suc (suc o))))))) 0 (omega arith), add-one o, add-two o, add-three o, add-four o, add_five o, add_six o, add_seven o)

-- ---- what std's `position`, by which the code searches, tells of the number

length-chunks : (n : ℕ) (t : Bytes) → length (first_chunks 12 n t) ≡ n
length-chunks zero t = refl
length-chunks (suc n) t = ap suc (length-chunks n (drop 12 t))

id_of_entry : (t : Bytes) (k : ℕ) → k < length t / 12 → id_of (get_or (entries t) k []) ≡ id_at t k
id_of_entry t k h = rw (entry_is_at t k [] (omega arith)) (id_first (drop (k * 12) t))

-- the first entry of u
pub entered_position : (u : ℕ) (t : Bytes) → Entered u t (position (is_of u) (entries t))
entered_position u t = by (position (is_of u) (entries t)) refl
  where
    n : length (entries t) ≡ length t / 12
    n = length-chunks (length t / 12) t

    by : (o : Option ℕ) → position (is_of u) (entries t) ≡ o → Entered u t o
    by None e = λ j h. rw (← id_of_entry t j h) (position_none (is_of u) (entries t) [] e j (omega (arith, n)))
    by (Some k) e =
        let q = position-Some (is_of u) (entries t) k [] e in
        let l : k < length t / 12 = omega (arith, n) in
        let below : NotBefore u t k = λ j h. rw (← id_of_entry t j (omega arith)) (q.2 j h) in
        (l, rw (← id_of_entry t k l) q.1, below)

-- ---- what a search found, in the definition's words

pub entry_inside : (u : ℕ) (t : Bytes) (r : Option ℕ) (k : ℕ) → Entered u t r → r ≡ Some k → k * 12 + 12 ≤ length t
entry_inside u t r k p e = let q : Entered u t (Some k) = rw e at p in omega (arith, q.0)

pub entry_found : (u : ℕ) (t : Bytes) (r : Option ℕ) (k : ℕ) → Entered u t r → r ≡ Some k → entry_of u t ≡ Some (take 8 (drop (k * 12 + 4) t))
unfolding entry_of
entry_found u t r k p e = let q : Entered u t (Some k) = rw e at p in entry_at (length t / 12) u t k q.0 q.2 q.1

pub entry_missing : (u : ℕ) (t : Bytes) (r : Option ℕ) → Entered u t r → r ≡ None → entry_of u t ≡ None
unfolding entry_of
entry_missing u t r p e = let q : Entered u t None = rw e at p in entry_nowhere (length t / 12) u t q

pub enter_found : (u : ℕ) (b t : Bytes) (r : Option ℕ) (k : ℕ) → Entered u t r → r ≡ Some k → enter u b t ≡ take (k * 12 + 4) t ++ (b ++ drop (k * 12 + 4 + 8) t)
unfolding enter
enter_found u b t r k p e =
    let q : Entered u t (Some k) = rw e at p in
    let s : k * 12 + 4 + 8 ≡ k * 12 + 12 = omega arith in
    rw s (enter_at (length t / 12) u b t k q.0 q.2 q.1)

enter_nowhere : (n u : ℕ) (b t : Bytes) → NotBefore u t n → enter_in n u b t ≡ t
enter_nowhere n u b t h = entered_in n u b t ∙ ap (changed (kept b) t) (position_nowhere n u t h)

pub enter_missing : (u : ℕ) (b t : Bytes) (r : Option ℕ) → Entered u t r → r ≡ None → enter u b t ≡ t
unfolding enter
enter_missing u b t r p e = let q : Entered u t None = rw e at p in enter_nowhere (length t / 12) u b t q

-- a part copied to o, as the copy tells it
pub put-part : (t b ys : Bytes) (o : ℕ) → o + length b ≤ length t → ys ≡ take (length b) b ++ drop (length b) (mid_of o (o + length b - o) t)
    → put_mid o (o + length b - o) t ys ≡ take o t ++ (b ++ drop (o + length b) t)
put-part t b ys o l h =
    rw (Post-is o (o + length b) t (omega arith), h, take-length b, rest, append-nil b)
  where
    m : length b ≡ length (mid_of o (o + length b - o) t)
    m = omega (arith, mid_len o (o + length b) t l)

    rest : drop (length b) (mid_of o (o + length b - o) t) ≡ []
    rest = ap (λ (n : ℕ). drop n (mid_of o (o + length b - o) t)) m ∙ drop-length (mid_of o (o + length b - o) t)

-- ---- the first free entry taken

pub enrol_at : (n u : ℕ) (b t : Bytes) (k : ℕ) → k < n → NotBefore free_id t k → eqb free_id (id_at t k) ≡ true
    → enrol_in n u b t ≡ take (k * 12) t ++ (digits 256 4 u ++ (b ++ drop (k * 12 + 12) t))
enrol_at n u b t k h nb e = taken_in n u b t ∙ ap (changed (taken u b) t) (position_at n free_id t k h nb e) ∙ rw drop-drop

enrol_nowhere : (n u : ℕ) (b t : Bytes) → NotBefore free_id t n → enrol_in n u b t ≡ t
enrol_nowhere n u b t h = taken_in n u b t ∙ ap (changed (taken u b) t) (position_nowhere n free_id t h)

pub enrol_missing : (u : ℕ) (b t : Bytes) (r : Option ℕ) → Entered free_id t r → r ≡ None → enrol_in (length t / 12) u b t ≡ t
enrol_missing u b t r p e = let q : Entered free_id t None = rw e at p in enrol_nowhere (length t / 12) u b t q

-- four bytes at o, and then eight behind them
two_parts : (t a b : Bytes) (o : ℕ) → o + 12 ≤ length t → length a ≡ 4
    → take (o + 4) (take o t ++ (a ++ drop (o + 4) t)) ++ (b ++ drop (o + 4 + 8) (take o t ++ (a ++ drop (o + 4) t)))
    ≡ take o t ++ (a ++ (b ++ drop (o + 12) t))
two_parts t a b o l e =
    let h : length (take o t ++ a) ≡ o + 4 = length-append (take o t) a ∙ ap₂ (λ (m n : ℕ). m + n) (length-take-le o t (omega arith)) e in
    let s : take o t ++ (a ++ drop (o + 4) t) ≡ (take o t ++ a) ++ drop (o + 4) t = sym (append_assoc (take o t) a (drop (o + 4) t)) in
    let p : take (o + 4) (take o t ++ (a ++ drop (o + 4) t)) ≡ take o t ++ a = ap (take (o + 4)) s ∙ take_at (take o t ++ a) (drop (o + 4) t) (o + 4) h in
    let d : drop (o + 4) (take o t ++ (a ++ drop (o + 4) t)) ≡ drop (o + 4) t = ap (drop (o + 4)) s ∙ drop_at (take o t ++ a) (drop (o + 4) t) (o + 4) h in
    let n : o + 4 + 8 ≡ o + 12 = omega arith in
    let q : drop (o + 4 + 8) (take o t ++ (a ++ drop (o + 4) t)) ≡ drop (o + 12) t =
    sym (drop-drop 8 (o + 4) (take o t ++ (a ++ drop (o + 4) t))) ∙ ap (drop 8) d ∙ drop-drop 8 (o + 4) t ∙ ap (λ (m : ℕ). drop m t) n in
    ap₂ (λ (x y : Bytes). x ++ (b ++ y)) p q ∙ append_assoc (take o t) a (b ++ drop (o + 12) t)

-- the two stores that take a free entry
pub enrol_found : (u : ℕ) (b t t₁ t₂ : Bytes) (r : Option ℕ) (k : ℕ) → Entered free_id t r → r ≡ Some k → length b ≡ 8
    → t₁ ≡ take (k * 12) t ++ (digits 256 4 u ++ drop (k * 12 + length (digits 256 4 u)) t)
    → t₂ ≡ take (k * 12 + 4) t₁ ++ (b ++ drop (k * 12 + 4 + length b) t₁)
    → t₂ ≡ enrol_in (length t / 12) u b t
enrol_found u b t t₁ t₂ r k p e l e₁ e₂ =
    let q : Entered free_id t (Some k) = rw e at p in
    let four : length (digits 256 4 u) ≡ 4 = digits-length 256 4 u in
    let f₁ : t₁ ≡ take (k * 12) t ++ (digits 256 4 u ++ drop (k * 12 + 4) t) = e₁ ∙ ap (λ (n : ℕ). take (k * 12) t ++ (digits 256 4 u ++ drop (k * 12 + n) t)) four in
    e₂
    ∙ ap (λ (n : ℕ). take (k * 12 + 4) t₁ ++ (b ++ drop (k * 12 + 4 + n) t₁)) l
    ∙ ap (λ (x : Bytes). take (k * 12 + 4) x ++ (b ++ drop (k * 12 + 4 + 8) x)) f₁
    ∙ two_parts t (digits 256 4 u) b (k * 12) (omega (arith, q.0)) four
    ∙ sym (enrol_at (length t / 12) u b t k q.0 q.2 q.1)
