use Rattle.std.proofs.Common.{refl}
use Rattle.state.specs.State.{bare}
use Rattle.state.proofs.places.nothing_held.Goals as goal

pub returns : goal.returns
unfolding bare
returns c = refl
