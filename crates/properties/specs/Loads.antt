-- GDK, RDK, LDK, GIV, EIV and LIV of an active user, where nothing refuses them: what they give, and what they leave.
use Rattle.std.specs.Prelude.{◌≡◌, false, ℕ, eqb}
use Rattle.keys.specs.Keys.{notarized}
use Rattle.state.specs.declared.Holdings.{Holdings}
use Rattle.state.specs.State.{Bytes}
use Rattle.rules.specs.World.{World}
use Rattle.rules.specs.Sides.{function_of, wrong_pair, pair_key}
use Rattle.rules.specs.Step.{Done, Gave, Result, result, plain}
use Rattle.properties.specs.Others.{holding}

-- the eight bytes b given, and nothing altered
abbrev pub gave : Bytes → Bytes → World → Result
gave b out w = result (record { answer = Gave 8; block = b; output = out }) w

-- done, and u then holds h
abbrev pub done : World → ℕ → Bytes → Holdings → Result
done w u out h = result (plain Done out) (holding w u h)

-- ---- by the function f, naming the party v, the user u means the pair (i, j)

pub record Means (f u v i j : ℕ) : Type 0 where
  pub agrees : wrong_pair (function_of f) (eqb v u) ≡ false
  pub pair : (k : Bytes) → pair_key (function_of f) k u v ≡ notarized k i j
