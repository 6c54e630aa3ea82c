-- "Any other identifier above 268435455 matches nobody and is never altered": whatever stands in such an entry, every command, the officer's and the
-- host's too, has the same answer and leaves the same world, and the entry stays.
use Rattle.std.specs.Prelude.{◌≡◌, Bool, true, false, not, ◌++◌, ℕ, ◌*◌, ◌/◌, ◌<◌, eqb, length, drop}
use Rattle.std.proofs.Math.Path.{refl, ap}
use Rattle.std.proofs.Common.{sym, ◌∙◌, subst, arith, length-drop, take-take, drop-drop, length-take-le}
use Rattle.std.proofs.Math.ListN.{take, take-append-drop}
use borrow.Author.Tests.{eqb-true, ne_eqb, lt-ltb, ltb-false}
use Rattle.ground.specs.Search.{by_test}
use Rattle.ground.specs.Rows.{row}
use Rattle.state.specs.declared.Facility.{Facility}
use Rattle.state.specs.State.{Bytes}
use Rattle.table.specs.Entries.{id_at, free_id, fits, id_of, entry_of, enrolled}
use Rattle.table.specs.Passwords.{big, sealed}
use Rattle.table.proofs.Laws.{sealed_eight}
use Rattle.rules.specs.Commands.{UserCommand, RAS, LAU, CPW, GDK, LDK, GIV, LIV, EIV, RDK, mode, DAUT, Command, by, EIK, IPW, RPW, logout, Effect, refused, gives, keeps, leaves, enters, writes, refusals, effect, undue, keyed, tests}
use Rattle.rules.specs.World.{Own, World, over, own, shut_for, key1}
use Rattle.rules.specs.Refusals.{test, first_of, big_pair, lacks_entry, out_of_turn}
use Rattle.rules.specs.Step.{Done, Refused, ruled, rule, carry, told, plain, Result, result, rule_in, step_by, settled, step}
use Rattle.rules.proofs.Laws.{mode_first}
use Rattle.properties.proofs.Steps.{next}
use Rattle.properties.proofs.Tables.{enter_size, enrolled_size}
use Rattle.properties.proofs.Passwords.{small_number}
use Rattle.properties.proofs.Reencrypted.{moved_size}
use Rattle.properties.specs.Replaced.{entry_at, replaced}
use Rattle.properties.proofs.Replaced.{replaced_at, size, same-entry, same-enter, same-enrolled, same-moved}
use Rattle.properties.specs.Nobodys.{Nobodys, beside}

-- ---- an issuer above 268435455 is answered 1, whatever the command

first_1 : (u : ℕ) (c : UserCommand) (room : ℕ) (shut : Bool) (o : Own) → big u ≡ true → first_of (refusals u c room shut o) ≡ 1
unfolding refusals big_pair test
first_1 u (RAS p) room shut o e = rw e
first_1 u LAU room shut o e = rw e
first_1 u (CPW p n) room shut o e = rw e
first_1 u (GDK p i b) room shut o e = rw e
first_1 u (LDK p i f b) room shut o e = rw e
first_1 u (GIV b) room shut o e = rw e
first_1 u (LIV f b) room shut o e = rw e
first_1 u (EIV b) room shut o e = rw e
first_1 u (RDK p i f b) room shut o e = rw e
first_1 u (mode m d) room shut o e = mode_first m u d room shut o ∙ rw e
first_1 u (DAUT f d) room shut o e = rw e

refused_1 : (w : World) (u : ℕ) (c : UserCommand) (out : Bytes) → big u ≡ true → rule_in w u c out ≡ refused 1
unfolding rule
refused_1 w u c out e = ap (λ (n : ℕ). ruled n (effect u c (own u w))) (first_1 u c (length out) (shut_for u w) (own u w) e)

pub above_is_1 : (w : World) (u : ℕ) (c : UserCommand) (out : Bytes) → 268435455 < u → step w (by u c) out ≡ result (plain (Refused 1) out) w
unfolding step big
above_is_1 w u c out h = ap (λ (x : Effect). result (told x out) (carry u x w)) (refused_1 w u c out (lt-ltb 268435455 u h))

-- the facility f lent the table t, whose entry k is nobody's, and twelve other bytes e that are nobody's entry either
module _ (f : Facility) (t : Bytes) (k : ℕ) (there : k < length t / 12) (old : Nobodys (id_at t k))
    (e : Bytes) (twelve : length e ≡ 12) (new : Nobodys (id_of e)) where
  abbrev t' : Bytes
  t' = replaced k e t

  -- no user has such an identifier, nor has a free entry
  not_user : (u i : ℕ) → big u ≡ false → Nobodys i → eqb u i ≡ false
  unfolding big
  not_user u i s n = ne_eqb u i (λ q. omega (arith, ltb-false 268435455 u s))

  not_free : (i : ℕ) → Nobodys i → eqb free_id i ≡ false
  not_free i n = ne_eqb free_id i (λ q. n.1 (sym q))

  not-moved : (i : ℕ) → Nobodys i → big i ≡ true
  unfolding big
  not-moved i n = lt-ltb 268435455 i n.0

  entry-of : (u : ℕ) → big u ≡ false → entry_of u t' ≡ entry_of u t
  entry-of u s = same-entry e twelve k t there u (not_user u _ s new) (not_user u _ s old)

  fits_alike : fits (length t') ≡ fits (length t)
  fits_alike = ap fits (size e twelve k t there)

  -- ---- a user's command

  own_alike : (u : ℕ) → big u ≡ false → own u (over f t') ≡ own u (over f t)
  own_alike u s = rw (fits_alike, entry-of u s)

  carried : (u : ℕ) → big u ≡ false → (x : Effect) (out : Bytes)
      → result (told x out) (carry u x (over f t')) ≡ beside k e (result (told x out) (carry u x (over f t)))
  carried u s (refused n) out = refl
  carried u s (gives n b) out = refl
  carried u s (keeps h) out = refl
  carried u s leaves out = refl
  carried u s (enters password) out =
      let b = sealed (key1 (over f t)) u password in
      ap (λ (x : Bytes). result (plain Done out) (over f x))
      (same-enter e twelve k t there u b (sealed_eight _ u password) (not_user u _ s new) (not_user u _ s old))
  carried u s (writes b h) out = refl

  by_user : (u : ℕ) (c : UserCommand) (out : Bytes) → step_by (over f t') u c out ≡ beside k e (step_by (over f t) u c out)
  by_user u c out =
      let in-world : World → Effect → Result = λ w x. result (told x out) (carry u x w) in
      by_test (big u)
      (λ b.
      ap (in-world (over f t')) (refused_1 (over f t') u c out b)
      ∙ sym (ap (λ (x : Effect). beside k e (in-world (over f t) x)) (refused_1 (over f t) u c out b)))
      (λ s. ap (λ (o : Own). in-world (over f t') (rule u c out (shut_for u (over f t)) o)) (own_alike u s) ∙ carried u s (rule_in (over f t) u c out) out)

  -- ---- an officer's command: the same number, and where that is 0 the same effect

  by_officer : (n n' : ℕ) (g : Facility) (a a' out : Bytes) → n' ≡ n → (n ≡ 0 → a' ≡ replaced k e a)
      → settled n' (over f t') out (over g a') ≡ beside k e (settled n (over f t) out (over g a))
  by_officer n n' g a a' out same_number same-table =
      ap (λ (m : ℕ). settled m (over f t') out (over g a')) same_number
      ∙ by_test (eqb n 0)
      (λ z. rw z (ap (λ (x : Bytes). result (plain Done out) (over g x)) (same-table (eqb-true n 0 z))))
      (λ z. rw z)

  ipw-number : (u : ℕ) (p out : Bytes) → first_of (tests (IPW u p) (over f t') out) ≡ first_of (tests (IPW u p) (over f t) out)
  unfolding tests test lacks_entry
  ipw-number u p out =
      by_test (big u)
      (λ b. rw b)
      (λ s. rw (fits_alike, entry-of u s, same-entry e twelve k t there free_id (not_free _ new) (not_free _ old)))

  ipw_small : (u : ℕ) (p out : Bytes) → first_of (tests (IPW u p) (over f t) out) ≡ 0 → big u ≡ false
  unfolding tests
  ipw_small u p out z = (next (big u) 1 _ (λ q. omega arith) z).0

  -- every command answers the same, and leaves the same but for that entry, which stays
  pub matches_nobody : (c : Command) (out : Bytes) → step (over f (replaced k e t)) c out ≡ beside k e (step (over f t) c out)
  unfolding step tests
  matches_nobody (by u c) out = by_user u c out
  matches_nobody (EIK i b) out =
      by_officer (first_of (tests (EIK i b) (over f t) out)) (first_of (tests (EIK i b) (over f t') out)) (keyed i b f) t t' out refl (λ z. refl)
  matches_nobody (IPW u p) out =
      let b = sealed (key1 (over f t)) u p in
      by_officer (first_of (tests (IPW u p) (over f t) out)) _ f (enrolled u b t) (enrolled u b t') out (ipw-number u p out)
      (λ z. let s = ipw_small u p out z in
      same-enrolled e twelve k t there u b (sealed_eight _ u p) (not_user u _ s new) (not_user u _ s old) (not_free _ new) (not_free _ old))
  matches_nobody RPW out =
      by_officer (first_of (tests RPW (over f t) out)) _ (undue f) _ _ out (ap (λ (b : Bool). test (not b) 2 (test (out_of_turn f) 7 0)) fits_alike)
      (λ z. same-moved e twelve k t there _ _ (not-moved _ new) (not-moved _ old))
  matches_nobody (logout u) out = by_user u LAU out

-- ---- one table: the entry stays

-- no command alters the table's length
settled-length : (n : ℕ) (w : World) (g : Facility) (a out : Bytes) → (n ≡ 0 → length a ≡ length w.table)
    → length (settled n w out (over g a)).world.table ≡ length w.table
settled-length n w g a out done = by_test (eqb n 0) (λ z. rw z (done (eqb-true n 0 z))) (λ z. rw z)

carried-length : (w : World) (u : ℕ) (x : Effect) → length (carry u x w).table ≡ length w.table
carried-length w u (refused n) = refl
carried-length w u (gives n b) = refl
carried-length w u (keeps h) = refl
carried-length w u leaves = refl
carried-length w u (enters password) = enter_size u (sealed (key1 w) u password) w.table (sealed_eight _ u password)
carried-length w u (writes b h) = refl

pub same_length : (w : World) (c : Command) (out : Bytes) → length (step w c out).world.table ≡ length w.table
unfolding step tests
same_length w (by u c) out = carried-length w u (rule_in w u c out)
same_length w (EIK i b) out = settled-length (first_of (tests (EIK i b) w out)) w _ w.table out (λ z. refl)
same_length w (IPW u p) out =
    settled-length (first_of (tests (IPW u p) w out)) w _ _ out
    (λ z. enrolled_size u _ w.table (sealed_eight _ u p) (small_number u (next (big u) 1 _ (λ q. omega arith) z).0))
same_length w RPW out = settled-length (first_of (tests RPW w out)) w _ _ out (λ z. moved_size _ _ w.table)
same_length w (logout u) out = carried-length w u (rule_in w u LAU out)

module _ (k : ℕ) (t : Bytes) (there : k < length t / 12) where
  twelve_bytes : length (entry_at k t) ≡ 12
  twelve_bytes = length-take-le 12 (drop (k * 12) t) (omega (arith, length-drop (k * 12) t))

  its_id : id_of (entry_at k t) ≡ id_at t k
  unfolding id_of
  its_id = ap (row 256 0) (take-take 4 12 (drop (k * 12) t) (omega arith))

  in_its_place : replaced k (entry_at k t) t ≡ t
  unfolding replaced
  in_its_place =
      ap (λ (x : Bytes). take (k * 12) t ++ (entry_at k t ++ x)) (sym (drop-drop 12 (k * 12) t))
      ∙ ap (λ (x : Bytes). take (k * 12) t ++ x) (take-append-drop 12 (drop (k * 12) t))
      ∙ take-append-drop (k * 12) t

-- an entry that is nobody's has the same twelve bytes after every command
pub never_altered : (w : World) (c : Command) (out : Bytes) (k : ℕ) → k < length w.table / 12 → Nobodys (id_at w.table k)
    → entry_at k (step w c out).world.table ≡ entry_at k w.table
never_altered w c out k there old =
    let t = w.table in
    let e = entry_at k t in
    let twelve = twelve_bytes k t there in
    let after = (step w c out).world.table in
    let stays : after ≡ replaced k e after =
    ap (λ (x : Bytes). (step (over w.facility x) c out).world.table) (sym (in_its_place k t there))
    ∙ ap (λ (r : Result). r.world.table) (matches_nobody w.facility t k there old e twelve (subst Nobodys (sym (its_id k t there)) old) c out) in
    ap (entry_at k) stays ∙ replaced_at e twelve k after (omega (arith, same_length w c out))
