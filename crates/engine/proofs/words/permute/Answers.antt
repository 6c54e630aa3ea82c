use Rattle.std.proofs.Common.{◌+◌, ◌*◌, ◌^◌, ◌≤◌, ◌<◌, sym, ◌∙◌, arith}
use Rattle.engine.specs.Bits.{bit}
use Rattle.ground.specs.Tests.{entry}
use Rattle.ground.specs.Rows.{wider, row-map-step, row-map_end}
use Rattle.engine.proofs.Permutations.{bit_lt, permuted_lt}
use Rattle.engine.proofs.words.permute.Goals.{After-from}
use Rattle.engine.proofs.words.permute.Goals as goal

-- the entry that is read names a bit
entry_read : (c : After-from) → (1 ≤ c.from.result) × (c.from.result ≤ c.args.w)
entry_read c = rw c.from.ensures (entry _ _ c.args.table.now c.requires.2 _ c.loop-n-test.true)

-- the bits so far, with one more
more : (c : After-from) → c.loop-n.bits * 2 + bit c.args.w c.args.x c.from.result < 2 ^ (c.loop-n.n-index + 1)
more c = wider 2 _ c.loop-n.invariant.0 (bit_lt _ _ _)

pub overflow_sub-right : goal.overflow_sub-right
overflow_sub-right c = (entry_read c).1

pub overflow_shr-bits : goal.overflow_shr-bits
overflow_shr-bits c = omega (arith, entry_read c)

pub loop-n-preserved : goal.loop-n-preserved
loop-n-preserved c = (more c, rw c.from.ensures (sym (row-map-step 2 _ (bit _ _) _ _ c.loop-n-test.true) ∙ c.loop-n.invariant.1))

pub returns : goal.returns
returns c =
    let e = sym (row-map_end 2 c.loop-n.bits (bit c.args.w c.args.x) c.args.table.now c.loop-n.n-index c.loop-n-test.false) ∙ c.loop-n.invariant.1 in
    (e, rw e (permuted_lt c.args.w c.args.table.now c.args.x))
