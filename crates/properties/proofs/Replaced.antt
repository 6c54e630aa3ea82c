-- A table in which one entry that is not looked for is another: the same entry is found, the same entry is altered, and the other entry stays.
use Rattle.std.specs.Prelude.{is_some, ◌≡◌, refl, true, false, cond, ◌++◌, eqb}
use Rattle.std.proofs.Math.Path.{sym, ap, ap₂}
use Rattle.std.proofs.Common.{◌∙◌, append_assoc, drop_at, take-add, drop-drop}
use Prim.Native.Nat.{ℕ, zero, suc, ◌+◌, ◌*◌, ◌/◌, ◌≤◌, ◌<◌}
use native.Mathlib.Omega.{arith}
use Rattle.std.proofs.Math.ListN.{length, take, drop, length-append, length-drop}
use Rattle.std.proofs.Math.Seq.{take_at, length-take-le}
use Rattle.std.proofs.lemmas.List.{take-append-le}
use Rattle.ground.specs.Search.{by_test}
use Rattle.ground.specs.Rows.{row, digits, digits-length}
use Rattle.state.specs.State.{Bytes}
use Rattle.table.specs.Entries.{free_id, id_at, id_of, entry_in, enter_in, entry_of, enter, enrol_in, enrolled}
use Rattle.table.specs.Passwords.{big, moved_entry, moved_in, moved}
use Rattle.table.proofs.Laws.{moved_twelve}
use Rattle.properties.proofs.Tables.{stay_first, stay_id, stay_entry, stay_rest, first, rest}
use Rattle.properties.specs.Replaced.{entry_at, replaced}

-- ---- entry by entry

later : (k x : ℕ) (t : Bytes) → drop (suc k * 12 + x) t ≡ drop (k * 12 + x) (drop 12 t)
later k x t = let e : suc k * 12 + x ≡ 12 + (k * 12 + x) = omega arith in ap (λ (n : ℕ). drop n t) e ∙ sym (drop-drop (k * 12 + x) 12 t)

pub later_at : (k : ℕ) (t : Bytes) → drop (suc k * 12) t ≡ drop (k * 12) (drop 12 t)
later_at k t = let e : suc k * 12 ≡ 12 + k * 12 = omega arith in ap (λ (n : ℕ). drop n t) e ∙ sym (drop-drop (k * 12) 12 t)

replaced-first : (e t : Bytes) → replaced 0 e t ≡ e ++ drop 12 t
unfolding replaced
replaced-first e t = refl

replaced_later : (k : ℕ) (e t : Bytes) → replaced (suc k) e t ≡ take 12 t ++ replaced k e (drop 12 t)
unfolding replaced
replaced_later k e t =
    let n : suc k * 12 ≡ 12 + k * 12 = omega arith in
    ap₂ (λ (x y : Bytes). x ++ (e ++ y)) (ap (λ (m : ℕ). take m t) n ∙ take-add 12 (k * 12) t) (later k 12 t)
    ∙ append_assoc (take 12 t) (take (k * 12) (drop 12 t)) (e ++ drop (k * 12 + 12) (drop 12 t))

-- twelve bytes x before the rest r
module _ (x r : Bytes) (twelve : length x ≡ 12) where
  front-first : take 12 (x ++ r) ≡ x
  front-first = take_at x r 12 twelve

  front_id : take 4 (x ++ r) ≡ take 4 x
  front_id = take-append-le 4 x r (omega (arith, twelve))

  front_rest : drop 12 (x ++ r) ≡ r
  front_rest = drop_at x r 12 twelve

  replaced-front : (k : ℕ) (e : Bytes) → replaced (suc k) e (x ++ r) ≡ x ++ replaced k e r
  replaced-front k e = replaced_later k e (x ++ r) ∙ ap₂ (λ (y z : Bytes). y ++ replaced k e z) front-first front_rest

-- ---- found and altered as before

module _ (e : Bytes) (twelve : length e ≡ 12) where
  pub replaced-length : (k : ℕ) (t : Bytes) → suc k * 12 ≤ length t → length (replaced k e t) ≡ length t
  unfolding replaced
  replaced-length k t l =
      let after = drop (k * 12 + 12) t in
      omega (
        arith,
        twelve,
        length-append (take (k * 12) t) (e ++ after),
        length-append e after,
        length-take-le (k * 12) t (omega arith),
        length-drop (k * 12 + 12) t,
      )

  -- the entry that stands there now
  pub replaced_at : (k : ℕ) (t : Bytes) → k * 12 ≤ length t → entry_at k (replaced k e t) ≡ e
  unfolding replaced
  replaced_at k t l =
      ap (take 12) (drop_at (take (k * 12) t) (e ++ drop (k * 12 + 12) t) (k * 12) (length-take-le (k * 12) t l))
      ∙ take_at e (drop (k * 12 + 12) t) 12 twelve

  -- an identifier v that neither has
  module _ (v : ℕ) (new : eqb v (id_of e) ≡ false) where
    entry_in_lem : (n k : ℕ) (t : Bytes) → k < n → n * 12 ≤ length t → eqb v (id_at t k) ≡ false → entry_in n v (replaced k e t) ≡ entry_in n v t
    unfolding entry_in id_of
    entry_in_lem zero k t h l old = absurd (omega arith)
    entry_in_lem (suc n) zero t h l old =
        rw (replaced-first e t, front_id e (drop 12 t) twelve, new, old, front_rest e (drop 12 t) twelve)
    entry_in_lem (suc n) (suc k) t h l old =
        let r = replaced k e (drop 12 t) in
        rw (replaced_later k e t, stay_id t r (first n t l), stay_entry t r (first n t l), stay_rest t r (first n t l))
        (ap (cond (eqb v (id_of t)) _) (entry_in_lem n k (drop 12 t) (omega arith) (rest n t l) (rw (later_at k t) at old)))

    -- a way g to alter the first entry of v among n: its four bytes become i of them, its eight bytes b
    module _ (b : Bytes) (eight : length b ≡ 8) (i : Bytes → Bytes) (four : (x : Bytes) → length x ≡ 4 → length (i x) ≡ 4)
        (g : ℕ → Bytes → Bytes)
        (turn : (n : ℕ) (t : Bytes) → g (suc n) t ≡ cond (eqb v (id_of t)) (i (take 4 t) ++ (b ++ drop 12 t)) (take 12 t ++ g n (drop 12 t))) where
      alter_in : (n k : ℕ) (t : Bytes) → k < n → n * 12 ≤ length t → eqb v (id_at t k) ≡ false → g n (replaced k e t) ≡ replaced k e (g n t)
      unfolding id_of
      alter_in zero k t h l old = absurd (omega arith)
      alter_in (suc n) zero t h l old =
          let s = drop 12 t in
          rw (
            replaced-first e t,
            turn n (e ++ s),
            front_id e s twelve,
            new,
            front-first e s twelve,
            front_rest e s twelve,
            turn n t,
            old,
            replaced-first e (take 12 t ++ g n s),
            stay_rest t (g n s) (first n t l),
          )
      alter_in (suc n) (suc k) t h l old =
          let s = drop 12 t in
          let r = replaced k e s in
          let x = i (take 4 t) in
          let x12 : length (x ++ b) ≡ 12 = length-append x b ∙ ap₂ (λ (p q : ℕ). p + q) (four (take 4 t) (length-take-le 4 t (omega arith))) eight in
          rw (replaced_later k e t, turn n (take 12 t ++ r), stay_id t r (first n t l), stay_first t r (first n t l), stay_rest t r (first n t l), turn n t)
          (by_test (eqb v (id_of t))
          (λ m. rw (m, ← (append_assoc x b r), ← (append_assoc x b s)) (sym (replaced-front (x ++ b) s x12 k e)))
          (λ m. rw m
          (ap (λ (y : Bytes). take 12 t ++ y) (alter_in n k s (omega arith) (rest n t l) (rw (later_at k t) at old))
          ∙ sym (replaced-front (take 12 t) (g n s) (length-take-le 12 t (first n t l)) k e))))

  -- the whole table moved, where neither identifier is a user's
  module _ (a c : Bytes) (new : big (id_of e) ≡ true) where
    still : (t : Bytes) → big (id_of t) ≡ true → moved_entry a c t ≡ take 12 t
    unfolding moved_entry
    still t m = rw m (sym (take-add 4 8 t))

    as_moved : (t r : Bytes) → 12 ≤ length t → moved_entry a c (take 12 t ++ r) ≡ moved_entry a c t
    unfolding moved_entry id_of
    as_moved t r l = rw (stay_id t r l, stay_entry t r l)

    new_first : (s : Bytes) → big (id_of (e ++ s)) ≡ true
    unfolding id_of
    new_first s = ap (λ (x : Bytes). big (row 256 0 x)) (front_id e s twelve) ∙ new

    moved_in_lem : (n k : ℕ) (t : Bytes) → k < n → n * 12 ≤ length t → big (id_at t k) ≡ true
        → moved_in n a c (replaced k e t) ≡ replaced k e (moved_in n a c t)
    unfolding moved_in
    moved_in_lem zero k t h l old = absurd (omega arith)
    moved_in_lem (suc n) zero t h l old =
        let s = drop 12 t in
        rw (
          replaced-first e t,
          still (e ++ s) (new_first s),
          front-first e s twelve,
          front_rest e s twelve,
          replaced-first e (moved_entry a c t ++ moved_in n a c s),
          front_rest (moved_entry a c t) (moved_in n a c s) (moved_twelve a c t (first n t l)),
        )
    moved_in_lem (suc n) (suc k) t h l old =
        let s = drop 12 t in
        let r = replaced k e s in
        rw (replaced_later k e t, as_moved t r (first n t l), stay_rest t r (first n t l))
        (ap (λ (y : Bytes). moved_entry a c t ++ y) (moved_in_lem n k s (omega arith) (rest n t l) (rw (later_at k t) at old))
        ∙ sym (replaced-front (moved_entry a c t) (moved_in n a c s) (moved_twelve a c t (first n t l)) k e))

  -- ---- the same for a whole table

  module _ (k : ℕ) (t : Bytes) (there : k < length t / 12) where
    pub size : length (replaced k e t) ≡ length t
    size = replaced-length k t (omega arith)

    pub same-entry : (v : ℕ) → eqb v (id_of e) ≡ false → eqb v (id_at t k) ≡ false → entry_of v (replaced k e t) ≡ entry_of v t
    unfolding entry_of
    same-entry v new old = ap (λ (n : ℕ). entry_in (n / 12) v (replaced k e t)) size ∙ entry_in_lem v new (length t / 12) k t there (omega arith) old

    pub same-enter : (v : ℕ) (b : Bytes) → length b ≡ 8 → eqb v (id_of e) ≡ false → eqb v (id_at t k) ≡ false
        → enter v b (replaced k e t) ≡ replaced k e (enter v b t)
    unfolding enter enter_in
    same-enter v b eight new old =
        ap (λ (n : ℕ). enter_in (n / 12) v b (replaced k e t)) size
        ∙ alter_in v new b eight (λ x. x) (λ x l. l) (λ n s. enter_in n v b s) (λ n s. refl) (length t / 12) k t there (omega arith) old

    same_enrol : (u : ℕ) (b : Bytes) → length b ≡ 8 → eqb free_id (id_of e) ≡ false → eqb free_id (id_at t k) ≡ false
        → enrol_in (length (replaced k e t) / 12) u b (replaced k e t) ≡ replaced k e (enrol_in (length t / 12) u b t)
    unfolding enrol_in
    same_enrol u b eight new old =
        ap (λ (n : ℕ). enrol_in (n / 12) u b (replaced k e t)) size
        ∙ alter_in free_id new b eight (λ x. digits 256 4 u) (λ x l. digits-length 256 4 u) (λ n s. enrol_in n u b s) (λ n s. refl)
        (length t / 12) k t there (omega arith) old

    pub same-enrolled : (u : ℕ) (b : Bytes) → length b ≡ 8
        → eqb u (id_of e) ≡ false → eqb u (id_at t k) ≡ false → eqb free_id (id_of e) ≡ false → eqb free_id (id_at t k) ≡ false
        → enrolled u b (replaced k e t) ≡ replaced k e (enrolled u b t)
    unfolding enrolled
    same-enrolled u b eight new old free_new free-old =
        by_test (is_some (entry_of u t))
        (λ m. rw (same-entry u new old, m) (same-enter u b eight new old))
        (λ m. rw (same-entry u new old, m) (same_enrol u b eight free_new free-old))

    pub same-moved : (a c : Bytes) → big (id_of e) ≡ true → big (id_at t k) ≡ true → moved a c (replaced k e t) ≡ replaced k e (moved a c t)
    unfolding moved
    same-moved a c new old = ap (λ (n : ℕ). moved_in (n / 12) a c (replaced k e t)) size ∙ moved_in_lem a c new (length t / 12) k t there (omega arith) old
