use Rattle.std.proofs.Common.{◌≡◌}
use Rattle.std.specs.Slice.Iter.{chunks_rest, chunks_size}
use Rattle.engine.specs.Fips46.{computed}
use Rattle.fips81.specs.Fips81.{chain, left, blocks, filled}
use Rattle.cipher.proofs.fixity.chained.Given as goal

-- the blocks that are left, from the vector so far
abbrev pub invariant-loop-block : goal.invariant-loop-block
invariant-loop-block l =
    (chunks_size l.block-iterator ≡ 8)
    × (left (chain (computed l.keys)) l.v (blocks (filled (chunks_rest l.block-iterator))) ≡ left (chain (computed l.keys)) l.vector (blocks (filled l.plain)))
