-- From std's `position`, which the program's search computes, to `entry_in`, `enter_in` and `enrol_in`, the definition's words.
use Rattle.std.specs.Prelude.{◌≡◌, refl, Bool, true, false, cond, Option, None, Some, option_map, [], ◌∷◌, ◌++◌, ℕ, zero, suc, ◌+◌, ◌*◌, ◌/◌, ◌≤◌, ◌<◌, eqb, length, position, take, drop, get_or}
use Rattle.std.specs.Simd.{first_chunks}
use Rattle.std.specs.Int.{from_be_bytes}
use Rattle.std.proofs.Common.{sym, ap, ◌∙◌, append_assoc, not-suc-le-zero, arith, take-append-drop, take-add, drop-drop, lit≤, w32, append-nil, length-append, length-drop, take_at, drop_of_length-le}
use Rattle.std.proofs.lemmas.List.{drop-take}
use Rattle.state.specs.State.{Bytes}
use Rattle.state.proofs.Positions.{position_cons}
use Rattle.ground.specs.Rows.{row, digits}
use Rattle.table.specs.Entries.{free_id, id_of, entries, is_of, entry_in, enter_in, entry_of, enter, enrol_in}

-- ---- the entries

pub shift0 : (k : ℕ) (t : Bytes) → drop (suc k * 12) t ≡ drop (k * 12) (drop 12 t)
shift0 k t = let e : suc k * 12 ≡ 12 + k * 12 = omega arith in rw e (sym (drop-drop (k * 12) 12 t))

chunk_at : (n k : ℕ) (t d : Bytes) → k < n → get_or (first_chunks 12 n t) k d ≡ take 12 (drop (k * 12) t)
chunk_at zero k t d h = absurd (not-suc-le-zero h)
chunk_at (suc n) zero t d h = refl
chunk_at (suc n) (suc k) t d h = chunk_at n k (drop 12 t) d (omega arith) ∙ ap (take 12) (sym (shift0 k t))

pub entry_is_at : (t : Bytes) (k : ℕ) (d : Bytes) → k * 12 + 12 ≤ length t
    → get_or (entries t) k d ≡ take 12 (drop (k * 12) t)
entry_is_at t k d h = chunk_at (length t / 12) k t d (omega arith)

-- ---- the first bytes of an entry are those of the table from there on

pub take_take : (n m : ℕ) (t : Bytes) → n ≤ m → take n (take m t) ≡ take n t
take_take zero m t h = refl
take_take (suc n) zero t h = absurd (not-suc-le-zero h)
take_take (suc n) (suc m) [] h = refl
take_take (suc n) (suc m) (x ∷ t) h = ap (λ (r : Bytes). x ∷ r) (take_take n m t (omega arith))

pub id_first : (t : Bytes) → id_of (take 12 t) ≡ id_of t
unfolding id_of
id_first t = rw (take_take 4 12 t (lit≤ tt))

pub kept_first : (t : Bytes) → take 8 (drop 4 (take 12 t)) ≡ take 8 (drop 4 t)
kept_first t = rw (drop-take 4 8 t) (take_take 8 8 (drop 4 t) (lit≤ tt))

-- an identifier is read from four bytes, the high one first
pub id_is : (e : Bytes) → 4 ≤ length e
    → from_be_bytes w32 (get_or e 0 0 ∷ get_or e 1 0 ∷ get_or e 2 0 ∷ get_or e 3 0 ∷ []) ≡ id_of e
unfolding id_of row
id_is (a ∷ b ∷ c ∷ d ∷ e) h = omega arith
id_is [] h = absurd (omega arith)
id_is (a ∷ []) h = absurd (omega arith)
id_is (a ∷ b ∷ []) h = absurd (omega arith)
id_is (a ∷ b ∷ c ∷ []) h = absurd (omega arith)

-- ---- what a search says

-- what the entry keeps that a search found
abbrev pub found : Bytes → Option ℕ → Option Bytes
found t o = option_map (λ k. take 8 (drop 4 (take 12 (drop (k * 12) t)))) o

found_cons : (b : Bool) (t : Bytes) (o : Option ℕ)
    → cond b (Some (take 8 (drop 4 t))) (found (drop 12 t) o)
    ≡ found t (cond b (Some 0) (option_map suc o))
found_cons true t o = ap Some (sym (kept_first t))
found_cons false t None = refl
found_cons false t (Some k) = ap (λ (s : Bytes). Some (take 8 (drop 4 (take 12 s)))) (sym (shift0 k t))

pub found_in : (n u : ℕ) (t : Bytes) → entry_in n u t ≡ found t (position (is_of u) (first_chunks 12 n t))
unfolding entry_in
found_in zero u t = refl
found_in (suc n) u t =
    rw (position_cons (is_of u) (take 12 t) (first_chunks 12 n (drop 12 t)), id_first t, found_in n u (drop 12 t))
    (found_cons (eqb u (id_of t)) t (position (is_of u) (first_chunks 12 n (drop 12 t))))

pub entry_is : (u : ℕ) (t : Bytes)
    → entry_of u t ≡ option_map (λ k. take 8 (drop 4 (take 12 (drop (k * 12) t)))) (position (is_of u) (entries t))
unfolding entry_of
entry_is u t = found_in (length t / 12) u t

-- the table with the entry changed that a search found: f makes its bytes, and those behind it, anew
abbrev pub changed : (Bytes → Bytes) → Bytes → Option ℕ → Bytes
changed f t None = t
changed f t (Some k) = take (k * 12) t ++ f (drop (k * 12) t)

changed_cons : (f : Bytes → Bytes) (b : Bool) (t : Bytes) (o : Option ℕ)
    → cond b (f t) (take 12 t ++ changed f (drop 12 t) o) ≡ changed f t (cond b (Some 0) (option_map suc o))
changed_cons f true t o = refl
changed_cons f false t None = take-append-drop 12 t
changed_cons f false t (Some k) =
    let d : suc k * 12 ≡ 12 + k * 12 = omega arith in
    rw (shift0 k t, d, take-add 12 (k * 12) t, append_assoc (take 12 t) (take (k * 12) (drop 12 t)))

-- the user's entry with the eight bytes b
abbrev pub kept : Bytes → Bytes → Bytes
kept b t = take 4 t ++ (b ++ drop 12 t)

pub entered_in : (n u : ℕ) (b t : Bytes)
    → enter_in n u b t ≡ changed (kept b) t (position (is_of u) (first_chunks 12 n t))
unfolding enter_in
entered_in zero u b t = refl
entered_in (suc n) u b t =
    rw (position_cons (is_of u) (take 12 t) (first_chunks 12 n (drop 12 t)), id_first t, entered_in n u b (drop 12 t))
    (changed_cons (kept b) (eqb u (id_of t)) t (position (is_of u) (first_chunks 12 n (drop 12 t))))

-- a free entry that becomes u's
abbrev pub taken : ℕ → Bytes → Bytes → Bytes
taken u b t = digits 256 4 u ++ (b ++ drop 12 t)

pub taken_in : (n u : ℕ) (b t : Bytes)
    → enrol_in n u b t ≡ changed (taken u b) t (position (is_of free_id) (first_chunks 12 n t))
unfolding enrol_in
taken_in zero u b t = refl
taken_in (suc n) u b t =
    rw (position_cons (is_of free_id) (take 12 t) (first_chunks 12 n (drop 12 t)), id_first t, taken_in n u b (drop 12 t))
    (changed_cons (taken u b) (eqb free_id (id_of t)) t (position (is_of free_id) (first_chunks 12 n (drop 12 t))))

module _ (u : ℕ) (b t : Bytes) (o : Option ℕ) (e : o ≡ position (is_of u) (entries t)) where
  pub enter_none : o ≡ None → t ≡ enter u b t
  unfolding enter
  enter_none n = rw (entered_in (length t / 12) u b t, ← e, n)

  pub enter_some : (k : ℕ) → o ≡ Some k → (t' : Bytes) → length b ≡ 8
      → t' ≡ take (k * 12 + 4) t ++ (b ++ drop (k * 12 + 4 + length b) t) → t' ≡ enter u b t
  unfolding enter
  enter_some k s t' l h =
      let m : k * 12 + 4 + length b ≡ k * 12 + 12 = omega arith in
      let a = append_assoc (take (k * 12) t) (take 4 (drop (k * 12) t)) (b ++ drop (k * 12 + 12) t) in
      rw (entered_in (length t / 12) u b t, ← e, s, h, m, take-add (k * 12) 4 t, a, drop-drop 12 (k * 12) t)

module _ (u : ℕ) (b t : Bytes) (o : Option ℕ) (e : o ≡ position (is_of free_id) (entries t)) where
  pub enrol_none : o ≡ None → t ≡ enrol_in (length t / 12) u b t
  enrol_none n = rw (taken_in (length t / 12) u b t, ← e, n)

  pub enrol_some : (k : ℕ) → o ≡ Some k → (t' c : Bytes) → length c ≡ 12 → c ≡ digits 256 4 u ++ b
      → t' ≡ take (k * 12) t ++ (c ++ drop (k * 12 + length c) t) → t' ≡ enrol_in (length t / 12) u b t
  enrol_some k s t' c l d h =
      let a = append_assoc (digits 256 4 u) b (drop (k * 12 + 12) t) in
      rw (taken_in (length t / 12) u b t, ← e, s, h, l, d, a, drop-drop 12 (k * 12) t)

-- ---- an entry made of its two parts

pub entry_made : (z id b e₁ e₂ : Bytes) → length z ≡ 12 → length id ≡ 4 → length b ≡ 8
    → e₁ ≡ id ++ drop (0 + length id) z → e₂ ≡ take 4 e₁ ++ (b ++ drop (4 + length b) e₁) → e₂ ≡ id ++ b
entry_made z id b e₁ e₂ l m n f g =
    let w : length e₁ ≡ 12 = ap length f ∙ length-append id _ ∙ omega (arith, length-drop (0 + length id) z) in
    let s : take 4 e₁ ≡ id = ap (take 4) f ∙ take_at id (drop (0 + length id) z) 4 m in
    let r : drop (4 + length b) e₁ ≡ [] = drop_of_length-le e₁ (omega arith) in
    g ∙ rw (s, r, append-nil)
