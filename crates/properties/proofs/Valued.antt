-- "DAUT: CBC enciphering of the plain record from the side's IV, short last block filled with zero bytes on the right, the last cipher block is the value.
-- t and s use the transmit side, r the receive side": which value is given, to a user whose side has a key and a vector.
use Rattle.std.specs.Prelude.{◌≡◌, false, ℕ, ◌≤◌, ◌<◌, length}
use Rattle.std.proofs.Math.Path.{refl, ap₂}
use Rattle.std.proofs.Common.{ap, ◌∙◌, arith, le-ltb, ne_eqb}
use Rattle.std.proofs.Math.Bool.{not}
use Rattle.cipher.specs.Cipher.{fixity}
use Rattle.state.specs.State.{Bytes}
use Rattle.table.specs.Passwords.{big}
use Rattle.rules.specs.World.{World}
use Rattle.rules.specs.Sides.{function_of, unknown, side_for}
use Rattle.rules.specs.Refusals.{bad_length}
use Rattle.rules.specs.Commands.{by, DAUT, refusals, effect}
use Rattle.rules.specs.Step.{step}
use Rattle.properties.proofs.Steps.{done-step, fails}
use Rattle.properties.specs.Held.{IsActive, IsSmall, sides_of, as_t, as_r, as_s, Gives}
use Rattle.properties.specs.Loads.{gave}
use Rattle.properties.proofs.Loads.{small, gives}
use Rattle.properties.specs.Coded.{Equipped}

good_size : (n : ℕ) → 0 < n → n ≤ 32768 → bad_length n ≡ false
unfolding bad_length
good_size n h l = rw (ne_eqb n 0 (λ e. omega arith), le-ltb 32768 n l)

-- u is active, and the record d has 1 to 32768 bytes
module _ (w : World) (u : ℕ) (k v d out : Bytes) (active : IsActive u w) (su : IsSmall u) (some_bytes : 0 < length d) (limit : length d ≤ 32768) where
  valued : (f : ℕ) → unknown (function_of f) ≡ false → Equipped k v (side_for (function_of f) (sides_of u w))
      → step w (by u (DAUT f d)) out ≡ gave (fixity k v d) out w
  unfolding refusals effect
  valued f known side =
      done-step w u (DAUT f d) out
      (fails (big u) 1 _ (small u su)
      (fails _ 3 _ (ap not active)
      (fails _ 5 _ known
      (fails _ 10 _ (ap (λ x. not x.present) side.key)
      (fails _ 11 _ (ap (λ x. not x.present) side.vector)
      (fails _ 12 0 (good_size (length d) some_bytes limit) refl))))))
      ∙ ap₂ (λ x y. gave (fixity x.value.0 y.value.0 d) out w) side.key side.vector

  -- eight bytes, and nothing altered
  pub value_t : Equipped k v (sides_of u w).transmit → Gives w (fixity k v d) out (step w (by u (DAUT as_t d)) out)
  unfolding function_of unknown side_for
  value_t side = gives (valued as_t refl side)

  pub value_s : Equipped k v (sides_of u w).transmit → Gives w (fixity k v d) out (step w (by u (DAUT as_s d)) out)
  unfolding function_of unknown side_for
  value_s side = gives (valued as_s refl side)

  pub value_r : Equipped k v (sides_of u w).receive → Gives w (fixity k v d) out (step w (by u (DAUT as_r d)) out)
  unfolding function_of unknown side_for
  value_r side = gives (valued as_r refl side)
