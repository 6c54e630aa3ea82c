-- Demand 2 over a change of the interchange key: what was generated under the former key, and moved by RDK, is recovered under the new one.
use Rattle.std.specs.Prelude.{◌≡◌, ℕ, length}
use Rattle.std.proofs.Common.{ap, ◌∙◌}
use Rattle.keys.specs.Keys.{parity_of}
use Rattle.state.specs.State.{Bytes}
use Rattle.rules.specs.World.{World}
use Rattle.rules.specs.Commands.{by, EIK, GDK}
use Rattle.rules.specs.Step.{step}
use Rattle.properties.specs.Steps.{Performed}
use Rattle.properties.specs.Held.{HasCurrent}
use Rattle.properties.proofs.Offices.{KeyEntered, key-entered}
use Rattle.properties.specs.Demand2.{Generates}
use Rattle.properties.proofs.Moved.{Moved, generated_moved}

-- ---- EIK of a name that had a key: that one is then old, and the given one current

module _ (E : World) (p : ℕ) (k out : Bytes) (entered : Performed E (EIK p k) out) (had : HasCurrent p E)
    (all : length E.facility.current_keys ≡ 15) (all_old : length E.facility.old_keys ≡ 15) where
  abbrev pub renewed : World
  renewed = (step E (EIK p k) out).world

  keys : KeyEntered E p k out entered
  keys = key-entered E p k out entered all all_old

  -- so the block of GDK may be moved by RDK, and gives the key as before: the given bits with parity set
  pub recovered_after : (i j : ℕ) (bits out' : Bytes) → Generates E i j p bits
      → Moved renewed p i j (step E (by i (GDK j p bits)) out').answered.block (parity_of bits)
  recovered_after i j bits out' x =
      generated_moved E renewed p p i j bits out' x
      (ap (λ c. c.present) keys.current)
      (ap (λ c. c.present) keys.old ∙ had)
      (ap (λ c. parity_of c.value.0) keys.old)
