-- One user's command, whatever it is: it sees and alters its issuer's own place and own entry alone.
use Rattle.std.specs.Prelude.{◌≡◌, Bool, List, ℕ, ◌≤◌, length}
use Rattle.std.proofs.Math.Bool.{false}
use Rattle.std.specs.Prelude.{None}
use Rattle.state.specs.State.{Bytes, find}
use Rattle.rules.specs.World.{World, Own, own, shut_for}
use Rattle.rules.specs.Commands.{Effect}
use Rattle.rules.specs.Step.{Told, carry, result}
use Rattle.properties.specs.Single.{Single}
use Rattle.merging.specs.Ids.{mem}
use Rattle.merging.specs.Demand3.{Step}
use Rattle.merging.specs.Tables.{From}

-- ---- what holds throughout a run of the users `who`, begun with the table a

pub record Fine (who : List ℕ) (a : Bytes) (w : World) : Type 0 where
  pub single : Single w.facility.places
  pub outside : (v : ℕ) → mem v who ≡ false → find v w.facility.places ≡ None
  pub enough : length who ≤ length w.facility.places
  pub table : From a w.table

-- ---- any way to carry out what a user asks for, by what his commands see

-- what it does, and what he is told
pub record Deed : Type 0 where
  pub effect : Effect
  pub told : Told

-- by the issuer, what he asks for, its output, whether the facility is shut to him, and what his commands see
abbrev pub Way : Type 0 → Type 0
Way C = ℕ → C → Bytes → Bool → Own → Deed

abbrev pub carried_by : {C : Type 0} → Way C → Step C
carried_by way w u c out = result (way u c out (shut_for u w) (own u w)).told (carry u (way u c out (shut_for u w) (own u w)).effect w)
