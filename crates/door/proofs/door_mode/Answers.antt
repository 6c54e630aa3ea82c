use Rattle.std.proofs.Common.{◌≡◌, rules}
use Rattle.ground.specs.Rows.{row-digits}
use Rattle.cipher.specs.Bits.{word, bytes}
use Rattle.cipher.specs.Cipher.{number}
use Rattle.door.specs.Door.{told, moded}
use Rattle.door.proofs.door_mode.Goals as goal

pub returns-in_default : goal.returns-in_default
unfolding moded
returns-in_default c = search rules

pub returns-in-Ok : goal.returns-in-Ok
unfolding moded told number
returns-in-Ok c = search rules

-- the vector as it was is the word of its own bytes
pub returns-in-Err : goal.returns-in-Err
unfolding moded told number
returns-in-Err c =
    let same : word (bytes c.args.vector.now) ≡ c.args.vector.now = row-digits 256 8 c.args.vector.now (search rules) in
    search rules
