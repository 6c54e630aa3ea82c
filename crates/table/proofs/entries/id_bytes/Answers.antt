use Rattle.std.proofs.Common.{div-one}
use Rattle.ground.specs.Rows.{digits}
use Rattle.table.proofs.entries.id_bytes.Goals as goal

pub returns : goal.returns
unfolding digits
returns c = rw div-one c.to_be_bytes.ensures
