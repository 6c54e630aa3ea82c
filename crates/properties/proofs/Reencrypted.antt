-- "EIK of name 1, then RPW": a user authenticates exactly if he did before. RPW applied twice is refused.
use Rattle.std.specs.Prelude.{◌≡◌, Bool, not, ◌++◌, eqb}
use Rattle.std.proofs.Math.Path.{refl, sym, ap}
use Rattle.std.proofs.Common.{◌∙◌, subst, true≢false, append_assoc, arith, lit<, drop-drop, length-take-le, eqb-true}
use Rattle.std.proofs.Math.Bool.{true, false, cond}
use Rattle.std.specs.Prelude.{Option, None, Some}
use Prim.Native.Nat.{ℕ, zero, suc, ◌+◌, ◌*◌, ◌/◌, ◌≤◌, ◌<◌}
use Rattle.std.proofs.Math.ListN.{length, take, drop, length-append, length-drop}
use Rattle.std.proofs.Math.Seq.{take_at, drop_at}
use Rattle.ground.specs.Search.{by_test}
use Rattle.ground.specs.Lists.{Below, below_take, below_drop}
use Rattle.cipher.specs.Cipher.{Octets, enciphered, deciphered}
use Rattle.cipher.proofs.Promise.{deciphered_octets, deciphered-enciphered, enciphered-deciphered}
use Rattle.keys.specs.Keys.{notarized}
use Rattle.state.specs.State.{Bytes, key_at}
use Rattle.table.specs.Entries.{fits, id_of, entry_in, entry_of}
use Rattle.table.specs.Passwords.{big, sealed, same, authentic, moved_entry, moved_in, moved}
use Rattle.table.proofs.Laws.{moved_twelve}
use Rattle.rules.specs.World.{World, over, key1}
use Rattle.rules.specs.Refusals.{test, first_of, out_of_turn}
use Rattle.rules.specs.Commands.{RPW, tests, undue}
use Rattle.rules.specs.Step.{Refused, plain, result, step, settled}
use Rattle.properties.specs.Steps.{Performed}
use Rattle.properties.proofs.Steps.{settled-first, settled-done, next, not_false}
use Rattle.properties.specs.Passwords.{authenticates}
use Rattle.properties.proofs.Passwords.{same-own, same_equal}
use Rattle.properties.specs.Reencrypted.{Held, old1}

-- ---- the same bytes

equal_same : (a b : Bytes) → a ≡ b → same a b ≡ true
equal_same a b e = subst (λ (c : Bytes). same a c ≡ true) e (same-own a)

-- a is b exactly if c is d
same_iff : (a b c d : Bytes) → (a ≡ b → c ≡ d) → (c ≡ d → a ≡ b) → same a b ≡ same c d
same_iff a b c d f g =
    by_test (same a b)
    (λ s. s ∙ sym (equal_same c d (f (same_equal a b s))))
    (λ s. by_test (same c d) (λ t. equal_same a b (g (same_equal c d t)) ∙ sym t) (λ t. s ∙ sym t))

-- ---- a table moved: what each user's entry becomes

-- an identifier i, an entry x, and the rest
module _ (i x r : Bytes) (four : length i ≡ 4) (eight : length x ≡ 8) where
  moved_id : take 4 ((i ++ x) ++ r) ≡ i
  moved_id = rw (append_assoc i x r) (take_at i (x ++ r) 4 four)

  moved-bytes : take 8 (drop 4 ((i ++ x) ++ r)) ≡ x
  moved-bytes = rw (append_assoc i x r, drop_at i (x ++ r) 4 four) (take_at x r 8 eight)

-- the table moved from the key a to the key k
module _ (a k : Bytes) where
  -- u's password kept, under the new key; an identifier that is no user's keeps its bytes
  abbrev pub resealed : ℕ → Option Bytes → Option Bytes
  resealed u None = None
  resealed u (Some b) = Some (cond (big u) b (sealed k u (deciphered (notarized a u u) b)))

  -- the eight bytes of the first entry, moved
  abbrev new_bytes : Bytes → Bytes
  new_bytes t = cond (big (id_of t)) (take 8 (drop 4 t)) (sealed k (id_of t) (deciphered (notarized a (id_of t) (id_of t)) (take 8 (drop 4 t))))

  module _ (n : ℕ) (t : Bytes) (l : suc n * 12 ≤ length t) where
    four : length (take 4 t) ≡ 4
    four = length-take-le 4 t (omega arith)

    twelve : length (take 4 t ++ new_bytes t) ≡ 12
    unfolding moved_entry
    twelve = moved_twelve a k t (omega arith)

    eight : length (new_bytes t) ≡ 8
    eight = omega (arith, twelve, four, length-append (take 4 t) (new_bytes t))

    shorter : n * 12 ≤ length (drop 12 t)
    shorter = omega (arith, length-drop 12 t)

    mine : (u : ℕ) → eqb u (id_of t) ≡ true → Some (new_bytes t) ≡ resealed u (Some (take 8 (drop 4 t)))
    mine u e = ap (λ (i : ℕ). Some (cond (big i) (take 8 (drop 4 t)) (sealed k i (deciphered (notarized a i i) (take 8 (drop 4 t)))))) (sym (eqb-true u (id_of t) e))

  moved_in_lem : (u n : ℕ) (t : Bytes) → n * 12 ≤ length t → entry_in n u (moved_in n a k t) ≡ resealed u (entry_in n u t)
  unfolding entry_in moved_in moved_entry id_of
  moved_in_lem u zero t l = refl
  moved_in_lem u (suc n) t l =
      let x = new_bytes t in
      let r = moved_in n a k (drop 12 t) in
      let f = four n t l in
      let g = eight n t l in
      let d : drop 12 ((take 4 t ++ x) ++ r) ≡ r = drop_at (take 4 t ++ x) r 12 (twelve n t l) in
      by_test (eqb u (id_of t))
      (λ e. rw (moved_id (take 4 t) x r f g, e, moved-bytes (take 4 t) x r f g) (mine n t l u e))
      (λ e. rw (moved_id (take 4 t) x r f g, e, d) (moved_in_lem u n (drop 12 t) (shorter n t l)))

  size_in : (n : ℕ) (t : Bytes) → n * 12 ≤ length t → length (moved_in n a k t) ≡ length t
  unfolding moved_in moved_entry
  size_in zero t l = refl
  size_in (suc n) t l =
      let r = moved_in n a k (drop 12 t) in
      omega (arith, length-append (take 4 t ++ new_bytes t) r, twelve n t l, size_in n (drop 12 t) (shorter n t l), length-drop 12 t)

  pub moved_size : (t : Bytes) → length (moved a k t) ≡ length t
  unfolding moved
  moved_size t = size_in (length t / 12) t (omega arith)

  -- the table's entries one by one: the i-th is moved
  after_first : (i : ℕ) (l : Bytes) → drop (suc i * 12) l ≡ drop (i * 12) (drop 12 l)
  after_first i l =
      let e : suc i * 12 ≡ 12 + i * 12 = omega arith in
      ap (λ (n : ℕ). drop n l) e ∙ sym (drop-drop (i * 12) 12 l)

  each_in : (i n : ℕ) (t : Bytes) → i < n → n * 12 ≤ length t → take 12 (drop (i * 12) (moved_in n a k t)) ≡ moved_entry a k (drop (i * 12) t)
  unfolding moved_in
  each_in i zero t h l = absurd (omega arith)
  each_in zero (suc n) t h l = take_at (moved_entry a k t) (moved_in n a k (drop 12 t)) 12 (moved_twelve a k t (omega arith))
  each_in (suc i) (suc n) t h l =
      let r = moved_in n a k (drop 12 t) in
      ap (take 12) (after_first i (moved_entry a k t ++ r) ∙ ap (drop (i * 12)) (drop_at (moved_entry a k t) r 12 (moved_twelve a k t (omega arith))))
      ∙ each_in i n (drop 12 t) (omega arith) (shorter n t l)
      ∙ ap (moved_entry a k) (sym (after_first i t))

  pub moved_each : (i : ℕ) (t : Bytes) → i < length t / 12 → take 12 (drop (i * 12) (moved a k t)) ≡ moved_entry a k (drop (i * 12) t)
  unfolding moved
  moved_each i t h = each_in i (length t / 12) t h (omega arith)

  -- the entry that counts, which is an identifier's first: everyone keeps his, and who has none gets none
  pub moved-entry : (u : ℕ) (t : Bytes) → entry_of u (moved a k t) ≡ resealed u (entry_of u t)
  unfolding entry_of moved
  moved-entry u t = ap (λ (n : ℕ). entry_in (n / 12) u (moved_in (length t / 12) a k t)) (moved_size t) ∙ moved_in_lem u (length t / 12) t (omega arith)

held_in : (u n : ℕ) (t : Bytes) → n * 12 ≤ length t → Below 256 t → Held (entry_in n u t)
unfolding entry_in
held_in u zero t l b = tt
held_in u (suc n) t l b =
    by_test (eqb u (id_of t))
    (λ e. subst (λ (x : Bool). Held (cond x (Some (take 8 (drop 4 t))) (entry_in n u (drop 12 t)))) (sym e)
    (record { eight = length-take-le 8 (drop 4 t) (omega (arith, length-drop 4 t)); small = below_take 256 8 (drop 4 t) (lit< tt) (below_drop 256 4 t b) }))
    (λ e. subst (λ (x : Bool). Held (cond x (Some (take 8 (drop 4 t))) (entry_in n u (drop 12 t)))) (sym e)
    (held_in u n (drop 12 t) (omega (arith, length-drop 12 t)) (below_drop 256 12 t b)))

held : (u : ℕ) (t : Bytes) → Below 256 t → Held (entry_of u t)
unfolding entry_of
held u t b = held_in u (length t / 12) t (omega arith) b

-- the moved entry holds the password p under the key k exactly if the entry held it under the key a
kept : (a k : Bytes) (u : ℕ) (p : Bytes) (o : Option Bytes) → big u ≡ false → Octets p → Held o → authentic k u p (resealed a k u o) ≡ authentic a u p o
unfolding authentic sealed
kept a k u p None s q h = refl
kept a k u p (Some b) s q h =
    let n = notarized a u u in
    let m = notarized k u u in
    ap (λ (x : Bool). same (cond x b (enciphered m (deciphered n b))) (enciphered m p)) s
    ∙ same_iff (enciphered m (deciphered n b)) (enciphered m p) b (enciphered n p)
    (λ e.
    let c : deciphered n b ≡ p =
    sym (deciphered-enciphered m (deciphered n b) (deciphered_octets n b)) ∙ ap (deciphered m) e ∙ deciphered-enciphered m p q in
    sym (enciphered-deciphered n b h) ∙ ap (enciphered n) c)
    (λ e. ap (enciphered m) (ap (deciphered n) e ∙ deciphered-enciphered n p q))

module _ (w : World) (out : Bytes) (done : Performed w RPW out) where
  -- the world after RPW
  abbrev pub after : World
  after = (step w RPW out).world

  unfoldable pub effected : World
  effected = over (undue w.facility) (moved (old1 w) (key1 w) w.table)

  first : first_of (tests RPW w out) ≡ 0
  unfolding step
  first = settled-first (first_of (tests RPW w out)) w _ out done

  pub after_is : after ≡ effected
  unfolding step effected
  after_is = ap (λ r. r.world) (settled-done (first_of (tests RPW w out)) w _ out first)

  pub rpw_fits : fits (length w.table) ≡ true
  unfolding tests
  rpw_fits = not_false _ (next _ 2 _ (λ q. omega arith) first).0

  in_turn_lem : out_of_turn w.facility ≡ false
  unfolding tests
  in_turn_lem = (next _ 7 0 (λ q. omega arith) (next _ 2 _ (λ q. omega arith) first).1).0

  -- old key 1 was there, and current key 1
  pub rpw_keys : ((key_at 1 w.facility.old_keys).present ≡ true) × ((key_at 1 w.facility.current_keys).present ≡ true)
  unfolding out_of_turn
  rpw_keys = both w.facility.due (key_at 1 w.facility.old_keys).present (key_at 1 w.facility.current_keys).present in_turn_lem
    where
      both : (d a b : Bool) → cond d (cond a (not b) true) true ≡ false → (a ≡ true) × (b ≡ true)
      both true true b h = (refl, not_false b h)
      both true false b h = absurd (true≢false h)
      both false a b h = absurd (true≢false h)

  -- every entry of the table is moved (one that is no user's stays: `moved_entry`), and the table keeps its length
  pub rpw_each : (i : ℕ) → i < length w.table / 12 → take 12 (drop (i * 12) after.table) ≡ moved_entry (old1 w) (key1 w) (drop (i * 12) w.table)
  unfolding effected
  rpw_each i h = ap (λ (x : World). take 12 (drop (i * 12) x.table)) after_is ∙ moved_each (old1 w) (key1 w) i w.table h

  pub rpw_size : length after.table ≡ length w.table
  unfolding effected
  rpw_size = ap (λ (x : World). length x.table) after_is ∙ moved_size (old1 w) (key1 w) w.table

  -- so of each identifier's first entry, the one that counts: a user's is moved, one that is no user's stays, and nobody gets or loses one
  pub rpw_entry : (u : ℕ) → entry_of u after.table ≡ resealed (old1 w) (key1 w) u (entry_of u w.table)
  unfolding effected
  rpw_entry u = ap (λ (x : World). entry_of u x.table) after_is ∙ moved-entry (old1 w) (key1 w) u w.table

  -- a user authenticates under the new key exactly if he did under the old
  pub rpw_keeps : Below 256 w.table → (u : ℕ) (p : Bytes) → big u ≡ false → Octets p → authenticates after u p ≡ authentic (old1 w) u p (entry_of u w.table)
  unfolding effected
  rpw_keeps bytes u p s o =
      ap (λ (x : World). authenticates x u p) after_is
      ∙ ap (authentic (key1 w) u p) (moved-entry (old1 w) (key1 w) u w.table)
      ∙ kept (old1 w) (key1 w) u p (entry_of u w.table) s o (held u w.table bytes)

  again : (out' : Bytes) → step effected RPW out' ≡ result (plain (Refused 7) out') effected
  unfolding step tests effected out_of_turn test
  again out' =
      ap (λ (n : ℕ). settled n effected out' (over (undue effected.facility) (moved (old1 effected) (key1 effected) effected.table)))
      (ap (λ (n : ℕ). test (not (fits n)) 2 7) (moved_size (old1 w) (key1 w) w.table) ∙ ap (λ (b : Bool). test (not b) 2 7) rpw_fits)

  -- RPW once more, right after it, is answered 7 and alters nothing
  pub rpw_twice : (out' : Bytes) → step after RPW out' ≡ result (plain (Refused 7) out') after
  rpw_twice out' = subst (λ (x : World). step x RPW out' ≡ result (plain (Refused 7) out') x) (sym after_is) (again out')
