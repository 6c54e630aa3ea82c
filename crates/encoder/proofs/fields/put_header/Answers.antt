use Rattle.std.proofs.Common.{div-one}
use Rattle.ground.specs.Rows.{digits}
use Rattle.encoder.proofs.fields.put_header.Goals as goal

pub returns : goal.returns
unfolding digits
returns c = rw (c.put_all.ensures, c.to_be_bytes.ensures, div-one)
