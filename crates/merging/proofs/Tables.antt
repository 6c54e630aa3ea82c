-- When two password tables are one: users' commands alter owners' first entries alone.
use Rattle.std.specs.Prelude.{◌≡◌, refl, ◌++◌, length, take, drop}
use Rattle.std.proofs.Math.Path.{sym}
use Rattle.std.proofs.Common.{ap, ◌∙◌, subst, arith, take-append-drop, drop-drop}
use Rattle.std.proofs.Math.Bool.{false}
use Rattle.std.specs.Prelude.{Some}
use Prim.Native.Nat.{ℕ, zero, suc, ◌*◌, ◌/◌, ◌≤◌}
use Rattle.std.proofs.Math.Dec.{eqb}
use borrow.Author.Tests.{eqb-true, eqb-false, eq-eqb, ne_eqb}
use Rattle.ground.specs.Search.{by_test}
use Rattle.ground.specs.Rows.{row}
use Rattle.state.specs.State.{Bytes}
use Rattle.table.specs.Entries.{id_of, entry_in, enter_in, entry_of, enter}
use Rattle.properties.proofs.Tables.{cut_id, cut_rest, stay_id, stay_rest, first, rest, enter_other, enter_size}
use Rattle.merging.specs.Tables.{SameIn, From}

pub entry_other : (u : ℕ) (b t : Bytes) (eight : length b ≡ 8) (v : ℕ) → eqb v u ≡ false → entry_of v (enter u b t) ≡ entry_of v t
unfolding enter entry_of
entry_other u b t eight v d = rw (enter_size u b t eight) (enter_other u b eight v d (length t / 12) t (omega arith))

same_refl : (n : ℕ) (t : Bytes) → SameIn n t t
same_refl zero t = refl
same_refl (suc n) t = (refl, refl, same_refl n (drop 12 t))

one_id : (a t : Bytes) → take 4 a ≡ take 4 t → id_of a ≡ id_of t
unfolding id_of
one_id a t q = ap {B = ℕ} (λ x. row 256 0 x) q

module _ (u : ℕ) (b : Bytes) (eight : length b ≡ 8) where
  same-enter : (n : ℕ) (a t : Bytes) → n * 12 ≤ length t → SameIn n a t → SameIn n a (enter_in n u b t)
  unfolding enter_in
  same-enter zero a t l s = s
  same-enter (suc n) a t l s =
      by_test (eqb u (id_of t))
      (λ e. rw e (s.0 ∙ sym (cut_id b t eight (first n t l)), rw (cut_rest b t eight (first n t l)) s.1, rw (cut_rest b t eight (first n t l)) s.2))
      (λ e. let r = enter_in n u b (drop 12 t) in
      let f : eqb (id_of a) u ≡ false = ne_eqb (id_of a) u (λ q. eqb-false u (id_of t) e (sym q ∙ one_id a t s.0)) in
      rw (e, stay_rest t r (first n t l))
      (s.0 ∙ sym (stay_id t r (first n t l)), s.1 ∙ sym (enter_other u b eight (id_of a) f n (drop 12 t) (rest n t l)), same-enter n (drop 12 a) (drop 12 t) (rest n t l) s.2))

-- a table is its first identifier, that entry's eight bytes and the rest
whole : (t : Bytes) → take 4 t ++ (take 8 (drop 4 t) ++ drop 12 t) ≡ t
whole t = rw (← (drop-drop 8 4 t), take-append-drop 8 (drop 4 t), take-append-drop 4 t)

-- two such tables in which every identifier's entry is the same are one table
same_ext : (n : ℕ) (a t t' : Bytes) → SameIn n a t → SameIn n a t' → ((v : ℕ) → entry_in n v t ≡ entry_in n v t') → t ≡ t'
unfolding entry_in
same_ext zero a t t' s s' h = sym s ∙ s'
same_ext (suc n) a t t' s s' h =
    let tail : drop 12 t ≡ drop 12 t' = same_ext n (drop 12 a) (drop 12 t) (drop 12 t') s.2 s'.2 others in
    sym (whole t) ∙ rw (sym s.0 ∙ s'.0, own-bytes, tail) (whole t')
  where
    own-bytes : take 8 (drop 4 t) ≡ take 8 (drop 4 t')
    own-bytes =
        let q : Some (take 8 (drop 4 t)) ≡ Some (take 8 (drop 4 t')) =
        rw (eq-eqb (id_of a) (id_of t) (one_id a t s.0), eq-eqb (id_of a) (id_of t') (one_id a t' s'.0)) at (h (id_of a)) in
        cc

    others : (v : ℕ) → entry_in n v (drop 12 t) ≡ entry_in n v (drop 12 t')
    others v =
        by_test (eqb v (id_of a))
        (λ e. rw (eqb-true v (id_of a) e) (sym s.1 ∙ s'.1))
        (λ e. rw (subst (λ (x : ℕ). eqb v x ≡ false) (one_id a t s.0) e, subst (λ (x : ℕ). eqb v x ≡ false) (one_id a t' s'.0) e) at (h v))

pub from_self : (t : Bytes) → From t t
from_self t = record { size = refl; same = same_refl (length t / 12) t }

pub from_enter : (u : ℕ) (b : Bytes) → length b ≡ 8 → (a t : Bytes) → From a t → From a (enter u b t)
unfolding enter
from_enter u b eight a t f =
    record {
      size = enter_size u b t eight ∙ f.size;
      same = rw f.size (same-enter u b eight (length a / 12) a t (omega (arith, f.size)) f.same);
    }

-- two that came of one table, in which every identifier's entry is the same, are one table
pub from_ext : (a t t' : Bytes) → From a t → From a t' → ((v : ℕ) → entry_of v t ≡ entry_of v t') → t ≡ t'
unfolding entry_of
from_ext a t t' f f' h = same_ext (length a / 12) a t t' f.same f'.same (λ v. rw (f.size, f'.size) at (h v))
