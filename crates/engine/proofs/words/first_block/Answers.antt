use Rattle.std.proofs.Common.{◌≡◌, ◌+◌, ◌≤◌, ◌<◌, length, get_or, lit<, sym, ◌∙◌, arith, rules}
use Rattle.ground.specs.Rows.{row_step, row_end, wider, shorter}
use Rattle.ground.specs.Lists.{padded, padded_at, padded-length}
use Rattle.engine.proofs.words.first_block.Goals.{After-from}
use Rattle.engine.proofs.words.first_block.Goals as goal

-- the byte that is read, 0 past the end
byte_read : (c : After-from) → (c.from.result ≡ get_or c.args.s.now c.loop-i.i 0) × (c.from.result < 256)
byte_read c = search rules

pub overflow_mul-x : goal.overflow_mul-x
overflow_mul-x c = let h : c.loop-i.i + 1 ≤ 8 = omega arith in
    omega (arith, shorter 256 (lit< tt) h (wider 256 c.loop-i.i {d = 0} c.loop-i.invariant.0 (lit< tt)))

pub overflow_add-x : goal.overflow_add-x
overflow_add-x c = let h : c.loop-i.i + 1 ≤ 8 = omega arith in
    record { fits = shorter 256 (lit< tt) h (wider 256 c.loop-i.i c.loop-i.invariant.0 (byte_read (goal.at.overflow_add-x c).After-from).1) }

pub loop-i-preserved : goal.loop-i-preserved
loop-i-preserved c = let s = c.args.s.now in
    let i = c.loop-i.i in
    let k : i < 8 = c.loop-i-test.true in
    let h : i < length (padded 8 s) = omega (arith, padded-length 8 s) in
    let e = byte_read (goal.at.loop-i-preserved c).After-from in (
      wider 256 i c.loop-i.invariant.0 e.1,
      rw (e.0, ← padded_at 8 s i k) (sym (row_step 256 _ _ _ h) ∙ c.loop-i.invariant.1),
    )

pub returns : goal.returns
returns c = let s = c.args.s.now in
    let h : length (padded 8 s) ≤ c.loop-i.i = omega (arith, padded-length 8 s) in
    sym (row_end 256 _ _ _ h) ∙ c.loop-i.invariant.1
