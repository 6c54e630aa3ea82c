-- Passwords compared, and what the loop over the entries keeps.
use Rattle.std.specs.Prelude.{◌≡◌, refl, Bool, true, false, cond, Option, None, Some, ◌&&◌, [], ◌∷◌, ◌++◌, ℕ, suc, ◌+◌, ◌-◌, ◌*◌, ◌≤◌, ◌<◌, eqb, length, take, drop}
use Rattle.std.specs.Option.{option_eq}
use Rattle.std.specs.Cmp.Lexicographic.{pointwise}
use Rattle.std.proofs.Common.{sym, ap, ap₂, ◌∙◌, append_assoc, append-nil, lit≤, arith, length-append, length-drop, take-append-drop, drop_of_length-le, drop-drop, take_all, take_at, drop_at, length-take-le}
use Rattle.cipher.specs.Cipher.{deciphered}
use Rattle.cipher.proofs.Promise.{enciphered_octets}
use Rattle.keys.specs.Keys.{notarized}
use Rattle.state.specs.State.{Bytes}
use Rattle.table.specs.Entries.{id_of}
use Rattle.table.specs.Passwords.{big, same, sealed, authentic, moved_entry, moved_in}
use Rattle.table.proofs.Positions.{take_take, id_first, kept_first}

-- ---- two runs of bytes

pub same_is : (a b : Bytes) → pointwise eqb a b ≡ same a b
unfolding same
same_is [] [] = refl
same_is [] (y ∷ b) = refl
same_is (x ∷ a) [] = refl
same_is (x ∷ a) (y ∷ b) = rw (same_is a b) (chosen (eqb x y))
  where
    chosen : (t : Bool) → (t && same a b) ≡ cond t (same a b) false
    chosen true = refl
    chosen false = refl

pub authentic_is : (k : Bytes) (u : ℕ) (password : Bytes) (o : Option Bytes)
    → option_eq (pointwise eqb) o (Some (sealed k u password)) ≡ authentic k u password o
unfolding authentic
authentic_is k u password None = refl
authentic_is k u password (Some b) = same_is b (sealed k u password)

-- ---- an entry moved

pub sealed_eight : (k : Bytes) (u : ℕ) (p : Bytes) → length (sealed k u p) ≡ 8
unfolding sealed
sealed_eight k u p = (enciphered_octets (notarized k u u) p).eight

module _ (a c e : Bytes) (l : length e ≡ 12) where
  -- a free entry, or one that matches nobody, stays
  pub entry_stays : big (id_of e) ≡ true → e ≡ moved_entry a c e
  unfolding moved_entry
  entry_stays h = rw (h, take_all 8 (drop 4 e) (omega (arith, length-drop 4 e))) (sym (take-append-drop 4 e))

  pub entry_moves : (e' b : Bytes) → big (id_of e) ≡ false
      → b ≡ sealed c (id_of e) (deciphered (notarized a (id_of e) (id_of e)) (take 8 (drop 4 e)))
      → e' ≡ take 4 e ++ (b ++ drop (4 + length b) e) → e' ≡ moved_entry a c e
  unfolding moved_entry
  entry_moves e' b h s q =
      let n : length b ≡ 8 = ap length s ∙ sealed_eight _ _ _ in
      let z : drop (4 + length b) e ≡ [] = drop_of_length-le e (omega arith) in
      q ∙ rw (h, z, append-nil) (ap (λ (r : Bytes). take 4 e ++ r) s)

-- what moves an entry reads its first twelve bytes
pub moved_first : (a c s : Bytes) → moved_entry a c (take 12 s) ≡ moved_entry a c s
unfolding moved_entry
moved_first a c s = rw (take_take 4 12 s (lit≤ tt), id_first s, kept_first s)

-- ---- the loop over the entries

moved_eight : (x : Bool) (s k p : Bytes) (u : ℕ) → 12 ≤ length s → length (cond x (take 8 (drop 4 s)) (sealed k u p)) ≡ 8
moved_eight true s k p u h = length-take-le 8 (drop 4 s) (omega (arith, length-drop 4 s))
moved_eight false s k p u h = sealed_eight k u p

pub moved_twelve : (a c s : Bytes) → 12 ≤ length s → length (moved_entry a c s) ≡ 12
unfolding moved_entry
moved_twelve a c s h = length-append (take 4 s) _ ∙ ap₂ (λ (x y : ℕ). x + y) (length-take-le 4 s (omega arith)) (moved_eight (big (id_of s)) s c _ (id_of s) h)

module _ (a c t : Bytes) (n k : ℕ) (h : k < n) (l : k * 12 + 12 ≤ length t) where
  pub move_step : (t' : Bytes) → t' ≡ take (k * 12) t ++ (moved_entry a c (drop (k * 12) t) ++ drop (k * 12 + 12) t)
      → take ((k + 1) * 12) t' ++ moved_in (n - (k + 1)) a c (drop ((k + 1) * 12) t') ≡ take (k * 12) t ++ moved_in (n - k) a c (drop (k * 12) t)
  unfolding moved_in
  move_step t' e =
      let o : (k + 1) * 12 ≡ k * 12 + 12 = omega arith in
      let m : n - k ≡ suc (n - (k + 1)) = omega arith in
      let q : length (moved_entry a c (drop (k * 12) t)) ≡ 12 = moved_twelve a c (drop (k * 12) t) (omega (arith, length-drop (k * 12) t)) in
      let p : length (take (k * 12) t ++ moved_entry a c (drop (k * 12) t)) ≡ k * 12 + 12 =
      length-append (take (k * 12) t) (moved_entry a c (drop (k * 12) t)) ∙ ap₂ (λ (x y : ℕ). x + y) (length-take-le (k * 12) t (omega arith)) q in
      let s : t' ≡ (take (k * 12) t ++ moved_entry a c (drop (k * 12) t)) ++ drop (k * 12 + 12) t = e ∙ sym (append_assoc (take (k * 12) t) (moved_entry a c (drop (k * 12) t)) (drop (k * 12 + 12) t)) in
      ap (λ (i : ℕ). take i t' ++ moved_in (n - (k + 1)) a c (drop i t')) o
      ∙ ap₂ (λ (x y : Bytes). x ++ moved_in (n - (k + 1)) a c y)
      (ap (take (k * 12 + 12)) s ∙ take_at (take (k * 12) t ++ moved_entry a c (drop (k * 12) t)) (drop (k * 12 + 12) t) (k * 12 + 12) p)
      (ap (drop (k * 12 + 12)) s ∙ drop_at (take (k * 12) t ++ moved_entry a c (drop (k * 12) t)) (drop (k * 12 + 12) t) (k * 12 + 12) p)
      ∙ append_assoc (take (k * 12) t) (moved_entry a c (drop (k * 12) t)) _
      ∙ ap (λ (r : Bytes). take (k * 12) t ++ r)
      (ap (λ (y : Bytes). moved_entry a c (drop (k * 12) t) ++ moved_in (n - (k + 1)) a c y) (sym (drop-drop 12 (k * 12) t))
      ∙ ap (λ (i : ℕ). moved_in i a c (drop (k * 12) t)) (sym m))

  -- the same, where the entry was moved apart and then stored
  pub move_stored : (t' e : Bytes) → length e ≡ 12 → e ≡ moved_entry a c (take 12 (drop (k * 12) t))
      → t' ≡ take (k * 12) t ++ (e ++ drop (k * 12 + length e) t)
      → take ((k + 1) * 12) t' ++ moved_in (n - (k + 1)) a c (drop ((k + 1) * 12) t')
      ≡ take (k * 12) t ++ moved_in (n - k) a c (drop (k * 12) t)
  move_stored t' e w i j =
      move_step t'
      (j ∙ ap₂ (λ (x : Bytes) (y : ℕ). take (k * 12) t ++ (x ++ drop (k * 12 + y) t)) (i ∙ moved_first a c (drop (k * 12) t)) w)

pub move_end : (a c t : Bytes) (n k : ℕ) → n ≤ k → take (k * 12) t ++ moved_in (n - k) a c (drop (k * 12) t) ≡ t
unfolding moved_in
move_end a c t n k h =
    let z : n - k ≡ 0 = omega arith in
    ap (λ (i : ℕ). take (k * 12) t ++ moved_in i a c (drop (k * 12) t)) z ∙ take-append-drop (k * 12) t
