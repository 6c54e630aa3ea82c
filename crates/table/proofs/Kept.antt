-- Laws of the code as it was before, kept: of passwords compared byte by byte, and of an entry moved where it stands. The code is proved without them.
use Rattle.std.specs.Prelude.{◌≡◌, Bool, true, false, cond, ◌∷◌, ◌++◌, ℕ, suc, ◌+◌, ◌*◌, ◌≤◌, ◌<◌, length, get_or, take, drop}
use Rattle.std.proofs.Common.{sym, ap, ap₂, ◌∙◌, append_assoc, eq-eqb, ne_eqb, add-one, arith, take-append-drop, drop_of_length-le, drop-cons, drop-drop, take-add}
use Rattle.cipher.specs.Cipher.{deciphered}
use Rattle.keys.specs.Keys.{notarized}
use Rattle.state.specs.State.{Bytes}
use Rattle.table.specs.Entries.{id_of}
use Rattle.table.specs.Passwords.{big, same, sealed, moved_entry}
use Rattle.table.proofs.Laws.{sealed_eight}

-- ---- the bytes behind an entry

shift : (k x : ℕ) (t : Bytes) → drop (suc k * 12 + x) t ≡ drop (k * 12 + x) (drop 12 t)
shift k x t = let e : suc k * 12 + x ≡ 12 + (k * 12 + x) = omega arith in rw e (sym (drop-drop (k * 12 + x) 12 t))

-- ---- two runs of bytes

module _ (a b : Bytes) (i : ℕ) (h : i < length a) (k : i < length b) where
  both_first : (P : Bytes → Bytes → Bool) → P (drop i a) (drop i b) ≡ P (get_or a i 0 ∷ drop (suc i) a) (get_or b i 0 ∷ drop (suc i) b)
  both_first P = ap₂ P (drop-cons a i 0 h) (drop-cons b i 0 k)

  pub same_step : get_or a i 0 ≡ get_or b i 0 → same (drop i a) (drop i b) ≡ same (drop (i + 1) a) (drop (i + 1) b)
  unfolding same
  same_step e = both_first same ∙ ap (λ (t : Bool). cond t (same (drop (suc i) a) (drop (suc i) b)) false) (eq-eqb _ _ e) ∙ rw add-one

  pub same_differ : (get_or a i 0 ≡ get_or b i 0 → ⊥) → same (drop i a) (drop i b) ≡ false
  unfolding same
  same_differ n = both_first same ∙ ap (λ (t : Bool). cond t (same (drop (suc i) a) (drop (suc i) b)) false) (ne_eqb _ _ n)

pub same_end : (a b : Bytes) (i : ℕ) → length a ≤ i → length b ≤ i → same (drop i a) (drop i b) ≡ true
unfolding same
same_end a b i h k = ap₂ same (drop_of_length-le a h) (drop_of_length-le b k)

-- ---- an entry moved

module _ (a c t : Bytes) (o : ℕ) (l : o + 12 ≤ length t) where
  -- a free entry, or one that matches nobody, stays
  pub move_other : big (id_of (drop o t)) ≡ true → t ≡ take o t ++ (moved_entry a c (drop o t) ++ drop (o + 12) t)
  unfolding moved_entry
  move_other e =
      sym (take-append-drop o t)
      ∙ ap (λ (r : Bytes). take o t ++ r)
      (sym (take-append-drop 12 (drop o t))
      ∙ ap₂ (λ (x y : Bytes). x ++ y) (take-add 4 8 (drop o t)) (drop-drop 12 o t)
      ∙ ap (λ (x : Bool). (take 4 (drop o t) ++ cond x (take 8 (drop 4 (drop o t))) (sealed c (id_of (drop o t)) (deciphered (notarized a (id_of (drop o t)) (id_of (drop o t))) (take 8 (drop 4 (drop o t)))))) ++ drop (o + 12) t) (sym e))

  pub move_user : (t' b : Bytes) → big (id_of (drop o t)) ≡ false
      → b ≡ sealed c (id_of (drop o t)) (deciphered (notarized a (id_of (drop o t)) (id_of (drop o t))) (take 8 (drop (o + 4) t)))
      → t' ≡ take (o + 4) t ++ (b ++ drop (o + 4 + length b) t)
      → t' ≡ take o t ++ (moved_entry a c (drop o t) ++ drop (o + 12) t)
  unfolding moved_entry
  move_user t' b e s h =
      let n : length b ≡ 8 = ap length s ∙ sealed_eight _ _ _ in
      let m : o + 4 + length b ≡ o + 12 = omega arith in
      h
      ∙ ap₂ (λ (x : Bytes) (y : ℕ). x ++ (b ++ drop y t)) (take-add o 4 t) m
      ∙ append_assoc (take o t) (take 4 (drop o t)) (b ++ drop (o + 12) t)
      ∙ ap (λ (r : Bytes). take o t ++ r)
      (sym (append_assoc (take 4 (drop o t)) b (drop (o + 12) t))
      ∙ ap (λ (r : Bytes). (take 4 (drop o t) ++ r) ++ drop (o + 12) t)
      (s ∙ ap (λ (r : Bytes). sealed c (id_of (drop o t)) (deciphered (notarized a (id_of (drop o t)) (id_of (drop o t))) (take 8 r))) (sym (drop-drop 4 o t))
      ∙ ap (λ (x : Bool). cond x (take 8 (drop 4 (drop o t))) (sealed c (id_of (drop o t)) (deciphered (notarized a (id_of (drop o t)) (id_of (drop o t))) (take 8 (drop 4 (drop o t)))))) (sym e)))
