-- Demand 1, for every command at once: the reply is the lowest number of the command's own list whose condition holds, and 0 exactly where none holds;
-- a refusal returns its number and no bytes, and leaves state, table and output as they were; done, the six modes write no byte beyond the first n
-- (what those are: `Texts.wrote`), and no other command writes any.
use Rattle.std.specs.Prelude.{◌≡◌, Bool, List, [], ◌∷◌, ◌++◌, map, ℕ, ◌≤◌, ◌<◌, leb, ltb, length, drop}
use Rattle.std.proofs.Math.Path.{refl, sym, ap, subst}
use Rattle.std.proofs.Common.{◌∙◌, true≢false, arith, length-append, length-drop, drop_at}
use Rattle.std.proofs.Math.Bool.{true, false, cond}
use Rattle.std.proofs.lemmas.Bool.{false≢true}
use Rattle.std.proofs.Math.Dec.{eqb}
use borrow.Author.Tests.{eqb-true, eqb-false, eq-eqb, ne_eqb, leb-true, ltb-false}
use Rattle.cipher.specs.declared.modes.Mode.{Mode}
use Rattle.cipher.specs.declared.modes.Mode.TheVariants.{Ecbe, Ecbd, Cbce, Cbcd, Cfbe, Cfbd}
use Rattle.cipher.specs.Cipher.{mode_text}
use Rattle.cipher.proofs.Promise.{mode_text-length}
use Rattle.ground.specs.Search.{by_test}
use Rattle.state.specs.State.{Bytes}
use Rattle.rules.specs.Commands.{UserCommand, RAS, LAU, CPW, GDK, LDK, GIV, LIV, EIV, RDK, mode, DAUT, Command, by, EIK, IPW, RPW, logout, refused, refusals, effect, tests}
use Rattle.rules.specs.World.{World, Own, shut_for, own}
use Rattle.rules.specs.Refusals.{Test, test, first_of, bad_blocks}
use Rattle.rules.specs.Step.{Done, Refused, told, plain, number_of, Result, result, rule, step, step_by, carry, settled}
use Rattle.rules.proofs.Laws.{good_blocks}
use Rattle.properties.specs.Demand1.{holds, rising, Lowest, users_written, written, Demand1, Sound, mode_page, page, among, up_to, numbers, Printed}

skip : (r : Test) (rs : List Test) (k : ℕ) → r.applies ≡ false → holds k (r ∷ rs) ≡ holds k rs
skip r rs k a = by_test (eqb k r.number) (λ e. rw (e, a)) (λ e. rw e)

above : (m : ℕ) (r : Test) (rs : List Test) → rising m (r ∷ rs) ≡ true → (m ≤ r.number) × (rising r.number rs ≡ true)
above m r rs h = by_test (leb m r.number) (λ e. (leb-true m r.number e, rw e at h)) (λ e. absurd (false≢true (rw e at h)))

below : (m : ℕ) (l : List Test) → rising m l ≡ true → (k : ℕ) → k < m → holds k l ≡ false
below m [] h k lt = refl
below m (r ∷ rs) h k lt =
    let a = above m r rs h in
    let e : eqb k r.number ≡ false = ne_eqb k r.number (λ q. omega arith) in
    rw e (below r.number rs a.1 k (omega arith))

module _ (m : ℕ) (r : Test) (rs : List Test) (p : 1 ≤ m) (a : (m ≤ r.number) × (rising r.number rs ≡ true)) where
  lowest_here : r.applies ≡ true → Lowest (r ∷ rs) (first_of (r ∷ rs))
  unfolding test
  lowest_here t = subst (λ (n : ℕ). Lowest (r ∷ rs) n) (sym (ap (λ (b : Bool). test b r.number (first_of rs)) t)) (record {
    held = λ z. here;
    least = λ k lt. let e : eqb k r.number ≡ false = ne_eqb k r.number (λ q. omega arith) in rw e (below r.number rs a.1 k lt);
    none = λ z. absurd (omega (arith, a.0));
    clear = λ z. absurd (true≢false (sym here ∙ z r.number));
  })
    where
      here : holds r.number (r ∷ rs) ≡ true
      here = ap (λ (b : Bool). cond b (cond r.applies true (holds r.number rs)) (holds r.number rs)) (eq-eqb r.number r.number refl)
          ∙ ap (λ (b : Bool). cond b true (holds r.number rs)) t

  lowest_later : Lowest rs (first_of rs) → r.applies ≡ false → Lowest (r ∷ rs) (first_of (r ∷ rs))
  unfolding test
  lowest_later ih f = subst (λ (n : ℕ). Lowest (r ∷ rs) n) (sym (ap (λ (b : Bool). test b r.number (first_of rs)) f)) (record {
    held = λ z. skip r rs (first_of rs) f ∙ ih.held z;
    least = λ k lt. skip r rs k f ∙ ih.least k lt;
    none = λ z k. skip r rs k f ∙ ih.none z k;
    clear = λ z. ih.clear (λ k. sym (skip r rs k f) ∙ z k);
  })

pub is_lowest : (m : ℕ) (l : List Test) → 1 ≤ m → rising m l ≡ true → Lowest l (first_of l)
is_lowest m [] p h = record { held = λ z. absurd (z refl); least = λ k lt. refl; none = λ z k. refl; clear = λ z. refl }
is_lowest m (r ∷ rs) p h =
    let a : (m ≤ r.number) × (rising r.number rs ≡ true) = above m r rs h in
    let q : 1 ≤ r.number = omega (arith, a.0) in
    by_test r.applies (lowest_here m r rs p a) (lowest_later m r rs p a (is_lowest r.number rs q a.1))

-- b over the first n of the output
onto : (b out : Bytes) (n : ℕ) → length b ≡ n → n ≤ length out
    → (drop n (b ++ drop (length b) out) ≡ drop n out) × (length (b ++ drop (length b) out) ≡ length out)
onto b out n e le = (rw e (drop_at b (drop n out) n e), rw (length-append b (drop (length b) out), e, length-drop n out) (omega arith))

unless : (b : Bool) → cond b true false ≡ false → b ≡ false
unless true h = h
unless false h = refl

module _ (u : ℕ) (d out : Bytes) (shut : Bool) (o : Own) where
  -- a mode that is not refused: 12 and 13 do not hold
  fits : (m : Mode) (k v : Bytes) → bad_blocks (length d) ≡ false → ltb (length out) (length d) ≡ false
      → (drop (length d) (mode_text m k v d ++ drop (length (mode_text m k v d)) out) ≡ drop (length d) out)
      × (length (mode_text m k v d ++ drop (length (mode_text m k v d)) out) ≡ length out)
  fits m k v b r = onto (mode_text m k v d) out (length d) (mode_text-length m k v d (good_blocks (length d) b)) (ltb-false (length out) (length d) r)

  none_holds : (m : Mode) → let l = refusals u (mode m d) (length out) shut o in rising 1 l ≡ true → first_of l ≡ 0 → (k : ℕ) → holds k l ≡ false
  none_holds m h z = (is_lowest 1 (refusals u (mode m d) (length out) shut o) (omega arith) h).none z

  mode_sound : (m : Mode) → Sound u (mode m d) out shut o
  unfolding refusals effect
  mode_sound Ecbe = (refl, refl, λ z. let n = none_holds Ecbe refl z in fits Ecbe _ _ (unless _ (n 12)) (unless _ (n 13)))
  mode_sound Ecbd = (refl, refl, λ z. let n = none_holds Ecbd refl z in fits Ecbd _ _ (unless _ (n 12)) (unless _ (n 13)))
  mode_sound Cbce = (refl, refl, λ z. let n = none_holds Cbce refl z in fits Cbce _ _ (unless _ (n 12)) (unless _ (n 13)))
  mode_sound Cbcd = (refl, refl, λ z. let n = none_holds Cbcd refl z in fits Cbcd _ _ (unless _ (n 12)) (unless _ (n 13)))
  mode_sound Cfbe = (refl, refl, λ z. let n = none_holds Cfbe refl z in fits Cfbe _ _ (unless _ (n 12)) (unless _ (n 13)))
  mode_sound Cfbd = (refl, refl, λ z. let n = none_holds Cfbd refl z in fits Cfbd _ _ (unless _ (n 12)) (unless _ (n 13)))

sound : (u : ℕ) (c : UserCommand) (out : Bytes) (shut : Bool) (o : Own) → Sound u c out shut o
unfolding refusals effect
sound u (RAS p) out shut o = (refl, refl, λ z. (refl, refl))
sound u LAU out shut o = (refl, refl, λ z. (refl, refl))
sound u (CPW p n) out shut o = (refl, refl, λ z. (refl, refl))
sound u (GDK p i b) out shut o = (refl, refl, λ z. (refl, refl))
sound u (LDK p i f b) out shut o = (refl, refl, λ z. (refl, refl))
sound u (GIV b) out shut o = (refl, refl, λ z. (refl, refl))
sound u (LIV f b) out shut o = (refl, refl, λ z. (refl, refl))
sound u (EIV b) out shut o = (refl, refl, λ z. (refl, refl))
sound u (RDK p i f b) out shut o = (refl, refl, λ z. (refl, refl))
sound u (mode m d) out shut o = mode_sound u d out shut o m
sound u (DAUT f d) out shut o = (refl, refl, λ z. (refl, refl))

-- ---- done, or refused

module _ (l : List Test) (k : ℕ) (w : World) (out : Bytes) (low : Lowest l (first_of l)) where
  when_done : (r : Result) → first_of l ≡ 0 → number_of r.answered.answer ≡ 0
      → (drop k r.answered.output ≡ drop k out) × (length r.answered.output ≡ length out) → Demand1 l k w out r
  when_done r z a o = record { lowest = subst (λ (n : ℕ). Lowest l n) (z ∙ sym a) low; unaltered = λ q. absurd (q a); beyond = o.0; size = o.1 }

  when_refused : Demand1 l k w out (result (plain (Refused (first_of l)) out) w)
  when_refused = record { lowest = low; unaltered = λ q. refl; beyond = refl; size = refl }

by_officer : (l : List Test) (w w' : World) (out : Bytes) → rising 1 l ≡ true → Demand1 l 0 w out (settled (first_of l) w out w')
by_officer l w w' out h =
    let low = is_lowest 1 l (omega arith) h in
    let P : Bool → Type 0 = λ b. Demand1 l 0 w out (cond b (result (plain Done out) w') (result (plain (Refused (first_of l)) out) w)) in
    by_test (eqb (first_of l) 0)
    (λ e. subst P (sym e) (when_done l 0 w out low (result (plain Done out) w') (eqb-true (first_of l) 0 e) refl (refl, refl)))
    (λ e. subst P (sym e) (when_refused l 0 w out low))

by_user : (w : World) (u : ℕ) (c : UserCommand) (out : Bytes) → Demand1 (tests (by u c) w out) (users_written c) w out (step_by w u c out)
unfolding tests rule
by_user w u c out =
    let shut = shut_for u w in
    let o = own u w in
    let l = refusals u c (length out) shut o in
    let k = users_written c in
    let s = sound u c out shut o in
    let low = is_lowest 1 l (omega arith) s.0 in
    let does = effect u c o in
    let P : Bool → Type 0 = λ b. let e = cond b does (refused (first_of l)) in Demand1 l k w out (result (told e out) (carry u e w)) in
    by_test (eqb (first_of l) 0)
    (λ e. let z = eqb-true (first_of l) 0 e in subst P (sym e) (when_done l k w out low (result (told does out) (carry u does w)) z s.1 (s.2 z)))
    (λ e. subst P (sym e) (when_refused l k w out low))

-- for every command, world and output
pub demand_1 : (w : World) (c : Command) (out : Bytes) → Demand1 (tests c w out) (written c) w out (step w c out)
unfolding step tests
demand_1 w (by u c) out = by_user w u c out
demand_1 w (EIK i b) out = by_officer _ w _ out refl
demand_1 w (IPW u p) out = by_officer _ w _ out refl
demand_1 w RPW out = by_officer _ w _ out refl
demand_1 w (logout u) out = by_user w u LAU out

-- a number whose condition fails is not given
pub not-given : (w : World) (c : Command) (out : Bytes) (n : ℕ) → (n ≡ 0 → ⊥) → holds n (tests c w out) ≡ false → number_of (step w c out).answered.answer ≡ n → ⊥
not-given w c out n z h e =
    false≢true (sym h ∙ subst (λ (k : ℕ). holds k (tests c w out) ≡ true) e ((demand_1 w c out).lowest.held (λ q. z (sym e ∙ q))))

mode_printed : (m : Mode) (u : ℕ) (d : Bytes) (room : ℕ) (shut : Bool) (o : Own) → Printed (refusals u (mode m d) room shut o) (mode_page m)
unfolding refusals
mode_printed Ecbe u d room shut o = (refl, refl, refl, refl)
mode_printed Ecbd u d room shut o = (refl, refl, refl, refl)
mode_printed Cbce u d room shut o = (refl, refl, refl, refl)
mode_printed Cbcd u d room shut o = (refl, refl, refl, refl)
mode_printed Cfbe u d room shut o = (refl, refl, refl, refl)
mode_printed Cfbd u d room shut o = (refl, refl, refl, refl)

printed : (c : Command) (w : World) (out : Bytes) → Printed (tests c w out) (page c)
unfolding tests refusals
printed (by u (RAS p)) w out = (refl, refl, refl, refl)
printed (by u LAU) w out = (refl, refl, refl, refl)
printed (by u (CPW p n)) w out = (refl, refl, refl, refl)
printed (by u (GDK p i b)) w out = (refl, refl, refl, refl)
printed (by u (LDK p i f b)) w out = (refl, refl, refl, refl)
printed (by u (GIV b)) w out = (refl, refl, refl, refl)
printed (by u (LIV f b)) w out = (refl, refl, refl, refl)
printed (by u (EIV b)) w out = (refl, refl, refl, refl)
printed (by u (RDK p i f b)) w out = (refl, refl, refl, refl)
printed (by u (mode m d)) w out = mode_printed m u d (length out) (shut_for u w) (own u w)
printed (by u (DAUT f d)) w out = (refl, refl, refl, refl)
printed (EIK i k) w out = (refl, refl, refl, refl)
printed (IPW u p) w out = (refl, refl, refl, refl)
printed RPW w out = (refl, refl, refl, refl)
printed (logout u) w out = (refl, refl, refl, refl)

pub as_printed : (c : Command) (w : World) (out : Bytes) → map (λ (r : Test). r.number) (tests c w out) ≡ page c
as_printed c w out = (printed c w out).0

-- ---- 16 and 17

-- they stand in no command's own list
pub in_no_list : (c : Command) (w : World) (out : Bytes) → (among 16 (numbers (tests c w out)) ≡ false) × (among 17 (numbers (tests c w out)) ≡ false)
in_no_list c w out =
    let p = printed c w out in
    (ap (among 16) p.0 ∙ p.1, ap (among 17) p.0 ∙ p.2)

-- a number that holds stands in the list, and a list has no number above its greatest
holds-among : (n : ℕ) (l : List Test) → among n (numbers l) ≡ false → holds n l ≡ false
holds-among n [] h = refl
holds-among n (r ∷ rs) h =
    by_test (eqb n r.number)
    (λ e. absurd (true≢false (rw e at h)))
    (λ e. rw e (holds-among n rs (rw e at h)))

holds_up_to : (n k : ℕ) (l : List Test) → up_to n (numbers l) ≡ true → holds k l ≡ true → k ≤ n
holds_up_to n k [] h e = absurd (false≢true e)
holds_up_to n k (r ∷ rs) h e =
    by_test (leb r.number n)
    (λ l.
    let later = holds_up_to n k rs (rw l at h) in
    by_test (eqb k r.number)
    (λ q. let z = eqb-true k r.number q in let y = leb-true r.number n l in omega arith)
    (λ q. later (rw q at e)))
    (λ l. absurd (false≢true (rw l at h)))

module _ (w : World) (c : Command) (out : Bytes) where
  -- so no command is answered by one of them
  pub never_16 : number_of (step w c out).answered.answer ≡ 16 → ⊥
  never_16 = not-given w c out 16 (λ z. omega arith) (holds-among 16 (tests c w out) (in_no_list c w out).0)

  pub never_17 : number_of (step w c out).answered.answer ≡ 17 → ⊥
  never_17 = not-given w c out 17 (λ z. omega arith) (holds-among 17 (tests c w out) (in_no_list c w out).1)

  -- and every reply has two digits at most
  pub two_digits : number_of (step w c out).answered.answer ≤ 99
  two_digits =
      let n = number_of (step w c out).answered.answer in
      let p = printed c w out in
      by_test (eqb n 0)
      (λ e. let z = eqb-true n 0 e in omega arith)
      (λ e. holds_up_to 99 n (tests c w out) (ap (up_to 99) p.0 ∙ p.3) ((demand_1 w c out).lowest.held (eqb-false n 0 e)))
