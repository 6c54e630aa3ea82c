use Rattle.std.proofs.Common.{rules}
use Rattle.fips81.specs.Fips81.{turned, codebook, chain, unchain}
use Rattle.engine.specs.Fips46.{computed}
use Rattle.cipher.specs.Cipher.{way_of, direction_of}
use Rattle.engine.proofs.Undoing.{computed_lt}
use Rattle.fips81.proofs.Turns.{feedback_64, unfeedback_64}
use Rattle.cipher.proofs.modes.turn_of.Goals as goal

pub returns-in-Ecbe : goal.returns-in-Ecbe
unfolding way_of direction_of turned codebook
returns-in-Ecbe c = search rules

pub returns-in-Cbce : goal.returns-in-Cbce
unfolding way_of direction_of turned chain
returns-in-Cbce c = search rules

pub returns-in-Cbcd : goal.returns-in-Cbcd
unfolding way_of direction_of turned unchain
returns-in-Cbcd c = search rules

pub returns-in-Cfbe : goal.returns-in-Cfbe
unfolding way_of direction_of turned
returns-in-Cfbe c =
    let a = c.args in
    rw (
      c.in-Cfbe.is,
      c.compute-in-Cfbe.ensures,
      feedback_64 (computed a.keys.now) a.vector a.block c.ranges.block.fits (computed_lt a.keys.now a.vector),
    )

pub returns-in-Cfbd : goal.returns-in-Cfbd
unfolding way_of direction_of turned
returns-in-Cfbd c =
    let a = c.args in
    rw (c.in-Cfbd.is, c.compute-in-Cfbd.ensures, unfeedback_64 (computed a.keys.now) a.vector a.block c.ranges.block.fits)
