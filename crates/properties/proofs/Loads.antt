-- GDK, RDK, LDK, GIV, EIV and LIV of an active user, where nothing refuses them: what they give, and what they leave.
use Rattle.std.specs.Prelude.{◌≡◌, false, ℕ}
use Rattle.std.proofs.Math.Path.{refl, ap}
use Rattle.std.proofs.Common.{sym, ◌∙◌, subst}
use Rattle.std.proofs.Math.Bool.{not}
use borrow.Author.Tests.{le-ltb, ne_eqb, eq-eqb}
use Rattle.cipher.specs.Cipher.{enciphered, deciphered}
use Rattle.keys.specs.Keys.{parity_of, notarized}
use Rattle.state.specs.declared.Holdings.{Holdings}
use Rattle.state.specs.declared.Side.{Side}
use Rattle.state.specs.State.{Bytes}
use Rattle.table.specs.Passwords.{big}
use Rattle.rules.specs.declared.Function.TheVariants.{Transmit, Receive, Both}
use Rattle.rules.specs.World.{World}
use Rattle.rules.specs.Sides.{function_of, unknown, wrong_pair, pair_key, side_for, with_key, with_vector}
use Rattle.rules.specs.Refusals.{big_pair}
use Rattle.rules.specs.Commands.{by, GDK, RDK, LDK, GIV, EIV, LIV, refusals, effect}
use Rattle.rules.specs.Step.{Result, step}
use Rattle.properties.proofs.Steps.{done-step, fails, small_pair}
use Rattle.properties.specs.Held.{IsActive, IsSmall, sides_of, held_key, as_t, as_r, as_s, HasCurrent, current_key, HasOld, old_key, Gives, Same, Loaded, Vectored, Leaves}
use Rattle.properties.proofs.Others.{holding_sides, holding_active, holding_rest}
use Rattle.properties.specs.Loads.{gave, done, Means}

pub small : (u : ℕ) → IsSmall u → big u ≡ false
unfolding big
small u l = le-ltb 268435455 u l

pub gives : {w : World} {b out : Bytes} {r : Result} → r ≡ gave b out w → Gives w b out r
gives {w} {b} {out} {r} e =
    record {
      answer = ap (λ x. x.answered.answer) e;
      block = ap (λ x. x.answered.block) e;
      output = ap (λ x. x.answered.output) e;
      world = ap (λ x. x.world) e;
    }

-- the sender by t, the receiver by r, whoever is both by s
module _ (i j : ℕ) where
  pub means_t : (i ≡ j → ⊥) → Means as_t i j i j
  unfolding function_of wrong_pair pair_key
  means_t n = record { agrees = ne_eqb j i (λ e. n (sym e)); pair = λ k. refl }

  pub means_r : (i ≡ j → ⊥) → Means as_r j i i j
  unfolding function_of wrong_pair pair_key
  means_r n = record { agrees = ne_eqb i j n; pair = λ k. refl }

  pub means_s : i ≡ j → Means as_s i j i j
  unfolding function_of wrong_pair pair_key
  means_s e = record { agrees = ap not (eq-eqb j i (sym e)); pair = λ k. ap (notarized k i) e }

-- ---- the commands of u

module _ (w : World) (u : ℕ) (out : Bytes) (active : IsActive u w) (su : IsSmall u) where
  module _ (v p : ℕ) (sv : IsSmall v) (current : HasCurrent p w) where
    pub gdk : (bits : Bytes) → step w (by u (GDK v p bits)) out ≡ gave (enciphered (notarized (current_key p w) u v) (parity_of bits)) out w
    unfolding refusals effect
    gdk bits =
        done-step w u (GDK v p bits) out
        (fails (big_pair u v) 1 _ (small_pair u v (small u su) (small v sv))
        (fails _ 3 _ (ap not active)
        (fails _ 6 0 (ap not current) refl)))

    module _ (f i j : ℕ) (m : Means f u v i j) (b : Bytes) where
      pub ldk : step w (by u (LDK v p f b)) out
          ≡ done w u out (with_key (function_of f) (record { 0 = deciphered (notarized (current_key p w) i j) b }) (sides_of u w))
      unfolding refusals effect
      ldk =
          done-step w u (LDK v p f b) out
          (fails (big_pair u v) 1 _ (small_pair u v (small u su) (small v sv))
          (fails _ 3 _ (ap not active)
          (fails _ 5 _ m.agrees
          (fails _ 6 0 (ap not current) refl))))
          ∙ ap (λ (k : Bytes). done w u out (with_key (function_of f) (record { 0 = deciphered k b }) (sides_of u w))) (m.pair (current_key p w))

      pub rdk : HasOld p w → step w (by u (RDK v p f b)) out
          ≡ gave (enciphered (notarized (current_key p w) i j) (deciphered (notarized (old_key p w) i j) b)) out w
      unfolding refusals effect
      rdk old =
          done-step w u (RDK v p f b) out
          (fails (big_pair u v) 1 _ (small_pair u v (small u su) (small v sv))
          (fails _ 3 _ (ap not active)
          (fails _ 5 _ m.agrees
          (fails _ 6 _ (ap not old)
          (fails _ 6 0 (ap not current) refl)))))
          ∙ ap (λ (k : Bytes). gave (enciphered k (deciphered (pair_key (function_of f) (old_key p w) u v) b)) out w) (m.pair (current_key p w))
          ∙ ap (λ (k : Bytes). gave (enciphered (notarized (current_key p w) i j) (deciphered k b)) out w) (m.pair (old_key p w))

  module _ (k : Bytes) (key : (sides_of u w).transmit.key ≡ held_key k) where
    pub giv : (seed : Bytes) → step w (by u (GIV seed)) out ≡ gave (enciphered k (parity_of seed)) out w
    unfolding refusals effect
    giv seed =
        done-step w u (GIV seed) out
        (fails (big u) 1 _ (small u su)
        (fails _ 3 _ (ap not active)
        (fails _ 10 0 (ap (λ x. not x.present) key) refl)))
        ∙ ap (λ x. gave (enciphered x.value.0 (parity_of seed)) out w) key

    pub eiv : (b : Bytes) → step w (by u (EIV b)) out ≡ gave (enciphered k b) out w
    unfolding refusals effect
    eiv b =
        done-step w u (EIV b) out
        (fails (big u) 1 _ (small u su)
        (fails _ 3 _ (ap not active)
        (fails _ 10 0 (ap (λ x. not x.present) key) refl)))
        ∙ ap (λ x. gave (enciphered x.value.0 b) out w) key

  pub liv : (f : ℕ) (k b : Bytes) → unknown (function_of f) ≡ false → (side_for (function_of f) (sides_of u w)).key ≡ held_key k
      → step w (by u (LIV f b)) out ≡ done w u out (with_vector (function_of f) (record { 0 = deciphered k b }) (sides_of u w))
  unfolding refusals effect
  liv f k b known key =
      done-step w u (LIV f b) out
      (fails (big u) 1 _ (small u su)
      (fails _ 3 _ (ap not active)
      (fails _ 5 _ known
      (fails _ 10 0 (ap (λ x. not x.present) key) refl))))
      ∙ ap (λ x. done w u out (with_vector (function_of f) (record { 0 = deciphered x.value.0 b }) (sides_of u w))) key

-- ---- what a load leaves, by its fields

module _ (w : World) (u : ℕ) (out : Bytes) (active : IsActive u w) (r : Result) where
  leaves : {transmit receive : Side → Side → Type 0} (h : Holdings) → r ≡ done w u out h
      → transmit (sides_of u w).transmit h.transmit → receive (sides_of u w).receive h.receive → Leaves transmit receive u w r
  leaves {transmit} {receive} h e a b =
      subst (Leaves transmit receive u w) (sym e)
      (record {
        done = refl;
        active = holding_active w u h active;
        to_transmit = subst (λ (x : Holdings). transmit (sides_of u w).transmit x.transmit) (sym (holding_sides w u h active)) a;
        to_receive = subst (λ (x : Holdings). receive (sides_of u w).receive x.receive) (sym (holding_sides w u h active)) b;
        rest = holding_rest w u h active;
      })

  module _ (k : Bytes) where
    pub key_t : r ≡ done w u out (with_key Transmit (record { 0 = k }) (sides_of u w)) → Leaves (Loaded k) Same u w r
    unfolding with_key
    key_t e = leaves _ e (record { key = refl; vector = refl }) refl

    pub key_r : r ≡ done w u out (with_key Receive (record { 0 = k }) (sides_of u w)) → Leaves Same (Loaded k) u w r
    unfolding with_key
    key_r e = leaves _ e refl (record { key = refl; vector = refl })

    pub key_s : r ≡ done w u out (with_key Both (record { 0 = k }) (sides_of u w)) → Leaves (Loaded k) (Loaded k) u w r
    unfolding with_key
    key_s e = leaves _ e (record { key = refl; vector = refl }) (record { key = refl; vector = refl })

    pub vector_t : r ≡ done w u out (with_vector Transmit (record { 0 = k }) (sides_of u w)) → Leaves (Vectored k) Same u w r
    unfolding with_vector
    vector_t e = leaves _ e (record { key = refl; vector = refl }) refl

    pub vector_r : r ≡ done w u out (with_vector Receive (record { 0 = k }) (sides_of u w)) → Leaves Same (Vectored k) u w r
    unfolding with_vector
    vector_r e = leaves _ e refl (record { key = refl; vector = refl })

    pub vector_s : r ≡ done w u out (with_vector Both (record { 0 = k }) (sides_of u w)) → Leaves (Vectored k) (Vectored k) u w r
    unfolding with_vector
    vector_s e = leaves _ e (record { key = refl; vector = refl }) (record { key = refl; vector = refl })
