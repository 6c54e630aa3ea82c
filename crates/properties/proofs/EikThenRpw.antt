-- EIK of name 1, and then RPW: users authenticate as before, and RAS and CPW are answered as before.
use Rattle.std.specs.Prelude.{◌≡◌, Bool, not, List, [], ◌∷◌, get_or, set}
use Rattle.std.proofs.Math.Path.{refl, sym, ap}
use Rattle.std.proofs.Common.{ap₂, ◌∙◌, subst, arith}
use Rattle.std.proofs.Math.Bool.{true, false, cond}
use Rattle.std.proofs.lemmas.Bool.{false≢true}
use Prim.Native.Nat.{ℕ, ◌<◌}
use Rattle.std.proofs.Math.ListN.{length}
use Rattle.ground.specs.Search.{by_test}
use Rattle.ground.specs.Lists.{Below}
use Rattle.cipher.specs.Cipher.{Octets}
use Rattle.cipher.specs.declared.keys.InterchangeKey.{InterchangeKey}
use Rattle.state.specs.declared.Held.{Held}
use Rattle.state.specs.declared.Place.{Place}
use Rattle.state.specs.State.{held, Bytes, past_keys, named, key_at, rekeyed, find, shut_to}
use Rattle.table.specs.Entries.{fits, entry_of}
use Rattle.table.specs.Passwords.{big, authentic}
use Rattle.state.specs.State.{seat_of}
use Rattle.rules.specs.World.{World, over, key1}
use Rattle.rules.specs.Refusals.{test, first_of, of_own, out_of_turn}
use Rattle.rules.specs.Commands.{RAS, CPW, by, EIK, RPW, tests, refusals, effect, keyed}
use Rattle.rules.specs.Step.{number_of, step}
use Rattle.properties.specs.Steps.{Performed}
use Rattle.properties.proofs.Steps.{reply-first, settled-first, settled-done, next, fails}
use Rattle.properties.specs.Passwords.{authenticates}
use Rattle.properties.specs.Reencrypted.{old1, Sight, seen, sight}
use Rattle.properties.proofs.Reencrypted.{moved_size, effected, after_is, rpw_keys, rpw_keeps}

seen_alike : {f f' : Bool} {ps ps' : List Place} {k k' d d' x x' : Bool} → f ≡ f' → ps ≡ ps' → k ≡ k' → d ≡ d' → x ≡ x' → seen f ps k d x ≡ seen f' ps' k' d' x'
seen_alike {f} {f'} {ps} {ps'} {k} {k'} {d} {d'} {x} {x'} a b c e g =
    ap₂ (λ (y : Bool) (z : List Place). seen y z k d x) a b ∙ ap₂ (λ (y z : Bool). seen f' ps' y z x) c e ∙ ap (seen f' ps' k' d') g

stored : (l : List (Held InterchangeKey)) (x : Held InterchangeKey) → (get_or (set l 0 x) 0 past_keys).present ≡ true → get_or (set l 0 x) 0 past_keys ≡ x
stored [] x h = absurd (false≢true h)
stored (y ∷ l) x h = refl

module _ (w : World) (k out out' : Bytes) (entered : Performed w (EIK 1 k) out) (moves : Performed (step w (EIK 1 k) out).world RPW out') where
  abbrev between : World
  between = (step w (EIK 1 k) out).world

  -- the world after both
  abbrev pub reencrypted : World
  reencrypted = (step between RPW out').world

  eik_first : first_of (tests (EIK 1 k) w out) ≡ 0
  unfolding step
  eik_first = settled-first (first_of (tests (EIK 1 k) w out)) w _ out entered

  between_is : between ≡ over (keyed 1 k w.facility) w.table
  unfolding step
  between_is = ap (λ r. r.world) (settled-done (first_of (tests (EIK 1 k) w out)) w _ out eik_first)

  -- the current key became old
  key-kept : key_at 1 between.facility.old_keys ≡ key_at 1 w.facility.current_keys
  unfolding keyed rekeyed named key_at
  key-kept =
      ap (λ (x : World). key_at 1 x.facility.old_keys) between_is
      ∙ stored w.facility.old_keys (get_or w.facility.current_keys 0 past_keys)
      (subst (λ (x : World). (key_at 1 x.facility.old_keys).present ≡ true) between_is (rpw_keys between out' moves).0)

  -- the current key is the one entered
  pub key-entered : key1 reencrypted ≡ k
  unfolding effected keyed rekeyed named key_at
  key-entered =
      ap key1 (after_is between out' moves)
      ∙ ap key1 between_is
      ∙ ap (λ (x : Held InterchangeKey). x.value.0)
      (stored w.facility.current_keys (held (record { 0 = k }))
      (subst (λ (x : World). (key_at 1 x.facility.current_keys).present ≡ true) between_is (rpw_keys between out' moves).1))

  -- every user authenticates exactly if he did before (that name 1 had a current key is known: RPW was done)
  pub authenticates_as_before : Below 256 w.table → (u : ℕ) (p : Bytes) → big u ≡ false → Octets p → authenticates reencrypted u p ≡ authenticates w u p
  authenticates_as_before bytes u p s o =
      let t : between.table ≡ w.table = ap (λ (x : World). x.table) between_is in
      rpw_keeps between out' moves (subst (Below 256) (sym t) bytes) u p s o
      ∙ ap₂ (λ (x : Held InterchangeKey) (y : Bytes). authentic x.value.0 u p (entry_of u y)) key-kept t

  -- what RAS and CPW look at is as before
  places_kept : reencrypted.facility.places ≡ w.facility.places
  unfolding effected keyed rekeyed
  places_kept = ap (λ (x : World). x.facility.places) (after_is between out' moves) ∙ ap (λ (x : World). x.facility.places) between_is

  fits_kept : fits (length reencrypted.table) ≡ fits (length w.table)
  unfolding effected
  fits_kept =
      ap (λ (x : World). fits (length x.table)) (after_is between out' moves)
      ∙ ap fits (moved_size (old1 between) (key1 between) between.table)
      ∙ ap (λ (x : World). fits (length x.table)) between_is

  key_there : (key_at 1 reencrypted.facility.current_keys).present ≡ (key_at 1 w.facility.current_keys).present
  unfolding effected
  key_there =
      ap (λ (x : World). (key_at 1 x.facility.current_keys).present) (after_is between out' moves)
      ∙ (rpw_keys between out' moves).1
      ∙ sym (sym (ap (λ (x : Held InterchangeKey). x.present) key-kept) ∙ (rpw_keys between out' moves).0)

  not_due : reencrypted.facility.due ≡ w.facility.due
  unfolding effected tests of_own
  not_due =
      ap (λ (x : World). x.facility.due) (after_is between out' moves)
      ∙ sym (next _ 7 _ (λ q. omega arith) (next _ 6 _ (λ q. omega arith) eik_first).1).0

  alike : (u : ℕ) (p : Bytes) → authenticates reencrypted u p ≡ authenticates w u p → sight reencrypted u p ≡ sight w u p
  alike u p e = seen_alike fits_kept places_kept key_there not_due e

  -- RAS and CPW are answered as before, whoever the user and whatever the password
  module _ (bytes : Below 256 w.table) (u : ℕ) (p out'' : Bytes) (o : Octets p) where
    -- a list that begins with 1
    numbered : (F : Sight → ℕ) → test (big u) 1 (F (sight reencrypted u p)) ≡ test (big u) 1 (F (sight w u p))
    unfolding test
    numbered F =
        by_test (big u)
        (λ e. ap (λ (b : Bool). test b 1 (F (sight reencrypted u p))) e ∙ sym (ap (λ (b : Bool). test b 1 (F (sight w u p))) e))
        (λ e. ap (λ (x : Sight). test (big u) 1 (F x)) (alike u p (authenticates_as_before bytes u p e o)))

    pub ras_as_before : number_of (step reencrypted (by u (RAS p)) out'').answered.answer ≡ number_of (step w (by u (RAS p)) out'').answered.answer
    unfolding refusals effect
    ras_as_before =
        reply-first reencrypted u (RAS p) out'' refl
        ∙ numbered (λ x. test (not x.fitting) 2 (test (seat_of (find u x.places)).active 4 (test (not x.key) 6 (test x.due 7 (test (shut_to (find u x.places) x.places) 8 (test (not x.own) 9 0))))))
        ∙ sym (reply-first w u (RAS p) out'' refl)

    pub cpw_as_before : (new : Bytes) → number_of (step reencrypted (by u (CPW p new)) out'').answered.answer ≡ number_of (step w (by u (CPW p new)) out'').answered.answer
    unfolding refusals effect
    cpw_as_before new =
        reply-first reencrypted u (CPW p new) out'' refl
        ∙ numbered (λ x. test (not x.fitting) 2 (test (not (seat_of (find u x.places)).active) 3 (test (not x.key) 6 (test x.due 7 (test (not x.own) 9 0)))))
        ∙ sym (reply-first w u (CPW p new) out'' refl)

-- EIK of name 1 where that name already had a current key: it is then the turn of RPW, beside any table that fits (an array of keys is not empty)
there : (now old : List (Held InterchangeKey)) (k : Held InterchangeKey) → k.present ≡ true → (get_or now 0 past_keys).present ≡ true → 0 < length old
    → ((get_or (set old 0 (get_or now 0 past_keys)) 0 past_keys).present ≡ true) × ((get_or (set now 0 k) 0 past_keys).present ≡ true)
there [] old k e h l = absurd (false≢true h)
there (x ∷ now) [] k e h l = absurd (omega arith)
there (x ∷ now) (y ∷ old) k e h l = (h, e)

pub rpw_in_turn : (w : World) (k out out' : Bytes) → Performed w (EIK 1 k) out → (key_at 1 w.facility.current_keys).present ≡ true → fits (length w.table) ≡ true
    → 0 < length w.facility.old_keys → Performed (step w (EIK 1 k) out).world RPW out'
unfolding step tests keyed rekeyed named key_at of_own out_of_turn
rpw_in_turn w k out out' entered had f l =
    let z : first_of (tests (EIK 1 k) w out) ≡ 0 = settled-first (first_of (tests (EIK 1 k) w out)) w _ out entered in
    let v : World = over (keyed 1 k w.facility) w.table in
    let t = there w.facility.current_keys w.facility.old_keys (held (record { 0 = k })) refl had l in
    let turn : out_of_turn v.facility ≡ false =
    ap (λ (d : Bool). cond d (cond (key_at 1 v.facility.old_keys).present (not (key_at 1 v.facility.current_keys).present) true) true) had
    ∙ ap₂ (λ (a b : Bool). cond a (not b) true) t.0 t.1 in
    let n : first_of (tests RPW v out') ≡ 0 = fails _ 2 _ (ap not f) (fails (out_of_turn v.facility) 7 0 turn refl) in
    subst (λ (x : World). Performed x RPW out') (sym (ap (λ r. r.world) (settled-done (first_of (tests (EIK 1 k) w out)) w v out z)))
    (ap (λ r. number_of r.answered.answer) (settled-done (first_of (tests RPW v out')) v _ out' n))
