use Rattle.std.proofs.Common.{rules}
use Rattle.ground.specs.Rows.{row}
use Rattle.cipher.specs.Cipher.{number}
use Rattle.door.specs.Door.{fixed}
use Rattle.door.proofs.door_fixity.Goals as goal

pub returns-in-Ok : goal.returns-in-Ok
unfolding fixed number row
returns-in-Ok c = search rules

pub returns-in-Err : goal.returns-in-Err
unfolding fixed number row
returns-in-Err c = search rules
