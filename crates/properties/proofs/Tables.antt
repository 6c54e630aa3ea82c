-- The password table after an entry was altered: what each identifier's entry then is.
use Rattle.std.proofs.Math.Path.{◌≡◌, refl, sym, ap, subst}
use Rattle.std.proofs.Common.{◌∙◌, true≢false, append_assoc, arith, take_at, drop_at, length-take-le, take-take, take-add}
use Rattle.std.specs.Prelude.{is_some, Bool, not, ◌++◌, take}
use Rattle.std.proofs.Math.Bool.{true, false, cond}
use Rattle.std.proofs.lemmas.Bool.{false≢true}
use Rattle.std.specs.Prelude.{Option, None, Some}
use Prim.Native.Nat.{ℕ, zero, suc, ◌*◌, ◌/◌, ◌≤◌, ◌<◌}
use Rattle.std.proofs.Math.Dec.{eqb}
use Rattle.std.proofs.Math.ListN.{length, drop, length-append, length-drop}
use Rattle.std.proofs.lemmas.List.{take-append-le}
use borrow.Author.Tests.{eqb-true, eq-eqb}
use Rattle.ground.specs.Search.{by_test}
use Rattle.ground.specs.Rows.{row, digits, digits-length, row-digits}
use Rattle.state.specs.State.{Bytes}
use Rattle.table.specs.Entries.{free_id, id_of, entry_in, enter_in, entry_of, enter, enrol_in, enrolled}
use Rattle.rules.specs.Refusals.{lacks_entry}
use Rattle.properties.proofs.Steps.{not_false}
use Rattle.properties.specs.Tables.{become}

-- the three cuts of t with b stored as the eight bytes of its first entry
module _ (b t : Bytes) (eight : length b ≡ 8) (long : 12 ≤ length t) where
  four : length (take 4 t) ≡ 4
  four = length-take-le 4 t (omega arith)

  pub cut_id : take 4 (take 4 t ++ (b ++ drop 12 t)) ≡ take 4 t
  cut_id = take_at (take 4 t) (b ++ drop 12 t) 4 four

  cut-entry : take 8 (drop 4 (take 4 t ++ (b ++ drop 12 t))) ≡ b
  cut-entry = rw (drop_at (take 4 t) (b ++ drop 12 t) 4 four) (take_at b (drop 12 t) 8 eight)

  pub cut_rest : drop 12 (take 4 t ++ (b ++ drop 12 t)) ≡ drop 12 t
  cut_rest =
      rw (← (append_assoc (take 4 t) b (drop 12 t)))
      (drop_at (take 4 t ++ b) (drop 12 t) 12 (rw (length-append (take 4 t) b, four, eight)))

-- a table whose first entry stays
module _ (t r : Bytes) (long : 12 ≤ length t) where
  twelve : length (take 12 t) ≡ 12
  twelve = length-take-le 12 t long

  pub stay_first : take 12 (take 12 t ++ r) ≡ take 12 t
  stay_first = take_at (take 12 t) r 12 twelve

  pub stay_rest : drop 12 (take 12 t ++ r) ≡ r
  stay_rest = drop_at (take 12 t) r 12 twelve

  pub stay_id : take 4 (take 12 t ++ r) ≡ take 4 t
  stay_id = take-append-le 4 (take 12 t) r (omega (arith, twelve)) ∙ take-take 4 12 t (omega arith)

  pub stay_entry : take 8 (drop 4 (take 12 t ++ r)) ≡ take 8 (drop 4 t)
  stay_entry =
      rw (take-add 4 8 t, append_assoc (take 4 t) (take 8 (drop 4 t)) r, drop_at (take 4 t) (take 8 (drop 4 t) ++ r) 4 (length-take-le 4 t (omega arith)))
      (take_at (take 8 (drop 4 t)) r 8 (length-take-le 8 (drop 4 t) (omega (arith, length-drop 4 t))))

-- the rest of a table of n + 1 entries has n
pub rest : (n : ℕ) (t : Bytes) → suc n * 12 ≤ length t → n * 12 ≤ length (drop 12 t)
rest n t l = omega (arith, length-drop 12 t)

pub first : (n : ℕ) (t : Bytes) → suc n * 12 ≤ length t → 12 ≤ length t
first n t l = omega arith

module _ (u : ℕ) (b : Bytes) (eight : length b ≡ 8) where
  pub enter-mine : (n : ℕ) (t : Bytes) → n * 12 ≤ length t → entry_in n u (enter_in n u b t) ≡ become b (entry_in n u t)
  unfolding entry_in enter_in id_of
  enter-mine zero t l = refl
  enter-mine (suc n) t l =
      by_test (eqb u (id_of t))
      (λ e. rw (e, cut_id b t eight (first n t l), e, cut-entry b t eight (first n t l)))
      (λ e. rw (e, stay_id t (enter_in n u b (drop 12 t)) (first n t l), e, stay_rest t (enter_in n u b (drop 12 t)) (first n t l)) (enter-mine n (drop 12 t) (rest n t l)))

  pub enter_other : (v : ℕ) → eqb v u ≡ false → (n : ℕ) (t : Bytes) → n * 12 ≤ length t → entry_in n v (enter_in n u b t) ≡ entry_in n v t
  unfolding entry_in enter_in id_of
  enter_other v d zero t l = refl
  enter_other v d (suc n) t l =
      by_test (eqb u (id_of t))
      (λ e. let f : eqb v (id_of t) ≡ false = subst (λ (x : ℕ). eqb v x ≡ false) (eqb-true u (id_of t) e) d in
      rw (e, cut_id b t eight (first n t l), f, cut_rest b t eight (first n t l)))
      (λ e. let r = enter_in n u b (drop 12 t) in
      rw (e, stay_id t r (first n t l), stay_entry t r (first n t l), stay_rest t r (first n t l), enter_other v d n (drop 12 t) (rest n t l)))

  pub enter-length : (n : ℕ) (t : Bytes) → n * 12 ≤ length t → length (enter_in n u b t) ≡ length t
  unfolding enter_in
  enter-length zero t l = refl
  enter-length (suc n) t l =
      by_test (eqb u (id_of t))
      (λ e. rw e (omega (arith, length-append (take 4 t) (b ++ drop 12 t), length-append b (drop 12 t), four b t eight (first n t l), length-drop 12 t)))
      (λ e. rw e (omega (arith, length-append (take 12 t) (enter_in n u b (drop 12 t)), enter-length n (drop 12 t) (rest n t l), length-drop 12 t, twelve t t (first n t l))))

-- ---- a free entry taken

-- the three cuts of t with the identifier u and b as its first entry
module _ (u : ℕ) (b t : Bytes) (eight : length b ≡ 8) where
  four_bytes : length (digits 256 4 u) ≡ 4
  four_bytes = digits-length 256 4 u

  new_id : take 4 (digits 256 4 u ++ (b ++ drop 12 t)) ≡ digits 256 4 u
  new_id = take_at (digits 256 4 u) (b ++ drop 12 t) 4 four_bytes

  new_entry : take 8 (drop 4 (digits 256 4 u ++ (b ++ drop 12 t))) ≡ b
  new_entry = rw (drop_at (digits 256 4 u) (b ++ drop 12 t) 4 four_bytes) (take_at b (drop 12 t) 8 eight)

  new_rest : drop 12 (digits 256 4 u ++ (b ++ drop 12 t)) ≡ drop 12 t
  new_rest =
      ap (drop 12) (sym (append_assoc (digits 256 4 u) b (drop 12 t)))
      ∙ drop_at (digits 256 4 u ++ b) (drop 12 t) 12 (omega (arith, length-append (digits 256 4 u) b, four_bytes))

module _ (u : ℕ) (b : Bytes) (eight : length b ≡ 8) (small : u < 4294967295) where
  -- a user with no entry gets the first free one
  pub enrol_mine : (n : ℕ) (t : Bytes) → n * 12 ≤ length t → entry_in n u t ≡ None → is_some (entry_in n free_id t) ≡ true → entry_in n u (enrol_in n u b t) ≡ Some b
  unfolding entry_in enrol_in id_of
  enrol_mine zero t l e f = absurd (false≢true f)
  enrol_mine (suc n) t l e f =
      by_test (eqb free_id (id_of t))
      (λ g.
      let me : row 256 0 (digits 256 4 u) ≡ u = row-digits 256 4 u (omega arith) in
      rw (g, new_id u b t eight, me, eq-eqb u u refl, new_entry u b t eight))
      (λ g.
      let r = enrol_in n u b (drop 12 t) in
      let k : eqb u (id_of t) ≡ false = mine-not e in
      let f' : is_some (entry_in n free_id (drop 12 t)) ≡ true = sym (ap (λ (x : Bool). is_some (cond x (Some (take 8 (drop 4 t))) (entry_in n free_id (drop 12 t)))) g) ∙ f in
      let e' : entry_in n u (drop 12 t) ≡ None = sym (ap (λ (x : Bool). cond x (Some (take 8 (drop 4 t))) (entry_in n u (drop 12 t))) k) ∙ e in
      rw (g, stay_id t r (first n t l), k, stay_rest t r (first n t l)) (enrol_mine n (drop 12 t) (rest n t l) e' f'))
    where
      never : {x : Bytes} → Some x ≡ None → ◌≡◌ {A = ℕ} 0 1
      never q = cc

      mine-not : cond (eqb u (id_of t)) (Some (take 8 (drop 4 t))) (entry_in n u (drop 12 t)) ≡ None → eqb u (id_of t) ≡ false
      mine-not q =
          by_test (eqb u (id_of t))
          (λ y. absurd (let z : ◌≡◌ {A = ℕ} 0 1 = never (sym (ap (λ (x : Bool). cond x (Some (take 8 (drop 4 t))) (entry_in n u (drop 12 t))) y) ∙ q) in omega arith))
          (λ z. z)

  -- another's entry stays, unless it is the free one
  pub enrol_other : (v : ℕ) → eqb v u ≡ false → eqb v free_id ≡ false → (n : ℕ) (t : Bytes) → n * 12 ≤ length t → entry_in n v (enrol_in n u b t) ≡ entry_in n v t
  unfolding entry_in enrol_in id_of
  enrol_other v d d' zero t l = refl
  enrol_other v d d' (suc n) t l =
      by_test (eqb free_id (id_of t))
      (λ g.
      let me : row 256 0 (digits 256 4 u) ≡ u = row-digits 256 4 u (omega arith) in
      let f : eqb v (id_of t) ≡ false = subst (λ (x : ℕ). eqb v x ≡ false) (eqb-true free_id (id_of t) g) d' in
      rw (g, new_id u b t eight, me, d, f, new_rest u b t eight))
      (λ g.
      let r = enrol_in n u b (drop 12 t) in
      rw (g, stay_id t r (first n t l), stay_entry t r (first n t l), stay_rest t r (first n t l), enrol_other v d d' n (drop 12 t) (rest n t l)))

  pub enrol_length : (n : ℕ) (t : Bytes) → n * 12 ≤ length t → length (enrol_in n u b t) ≡ length t
  unfolding enrol_in
  enrol_length zero t l = refl
  enrol_length (suc n) t l =
      by_test (eqb free_id (id_of t))
      (λ g.
      let a : 12 ≤ length t = first n t l in
      rw g (omega (arith, length-append (digits 256 4 u) (b ++ drop 12 t), length-append b (drop 12 t), four_bytes u b t eight, length-drop 12 t)))
      (λ g. rw g (omega (arith, length-append (take 12 t) (enrol_in n u b (drop 12 t)), enrol_length n (drop 12 t) (rest n t l), length-drop 12 t, twelve t t (first n t l))))

-- ---- a whole table

-- its entries lie within it
within : (t : Bytes) → length t / 12 * 12 ≤ length t
within t = omega arith

was_none : (o : Option Bytes) → is_some o ≡ false → o ≡ None
was_none None e = refl
was_none (Some a) e = absurd (true≢false e)

became : (b : Bytes) (o : Option Bytes) → is_some o ≡ true → become b o ≡ Some b
became b None e = absurd (false≢true e)
became b (Some a) e = refl

module _ (u : ℕ) (b t : Bytes) (eight : length b ≡ 8) where
  pub enter_size : length (enter u b t) ≡ length t
  unfolding enter
  enter_size = enter-length u b eight (length t / 12) t (within t)

  pub enter-own : entry_of u (enter u b t) ≡ become b (entry_of u t)
  unfolding enter entry_of
  enter-own = ap (λ (n : ℕ). entry_in (n / 12) u (enter_in (length t / 12) u b t)) enter_size ∙ enter-mine u b eight (length t / 12) t (within t)

  module _ (small : u < 4294967295) where
    pub enrolled_size : length (enrolled u b t) ≡ length t
    unfolding enrolled
    enrolled_size = by_test (is_some (entry_of u t)) (λ e. rw e enter_size) (λ e. rw e (enrol_length u b eight small (length t / 12) t (within t)))

    enrol_own : entry_of u t ≡ None → is_some (entry_of free_id t) ≡ true → entry_of u (enrol_in (length t / 12) u b t) ≡ Some b
    unfolding entry_of
    enrol_own e f =
        ap (λ (n : ℕ). entry_in (n / 12) u (enrol_in (length t / 12) u b t)) (enrol_length u b eight small (length t / 12) t (within t))
        ∙ enrol_mine u b eight small (length t / 12) t (within t) e f

    -- IPW's condition 15 fails: u's entry is then b
    pub enrolled-own : lacks_entry u t ≡ false → entry_of u (enrolled u b t) ≡ Some b
    unfolding enrolled lacks_entry
    enrolled-own h =
        by_test (is_some (entry_of u t))
        (λ e. rw e (enter-own ∙ became b (entry_of u t) e))
        (λ e. rw e (enrol_own (was_none (entry_of u t) e) (not_false _ (sym (ap (λ (x : Bool). cond x false (not (is_some (entry_of free_id t)))) e) ∙ h))))

    by_entries : (v : ℕ) (t' : Bytes) → length t' ≡ length t → entry_in (length t / 12) v t' ≡ entry_in (length t / 12) v t → entry_of v t' ≡ entry_of v t
    unfolding entry_of
    by_entries v t' l e = ap (λ (n : ℕ). entry_in (n / 12) v t') l ∙ e

    -- another's entry stays
    pub enrolled_other : (v : ℕ) → eqb v u ≡ false → eqb v free_id ≡ false → entry_of v (enrolled u b t) ≡ entry_of v t
    unfolding enrolled enter
    enrolled_other v d d' =
        let n = length t / 12 in
        by_test (is_some (entry_of u t))
        (λ e. rw e (by_entries v (enter_in n u b t) (enter-length u b eight n t (within t)) (enter_other u b eight v d n t (within t))))
        (λ e. rw e (by_entries v (enrol_in n u b t) (enrol_length u b eight small n t (within t)) (enrol_other u b eight small v d d' n t (within t))))
