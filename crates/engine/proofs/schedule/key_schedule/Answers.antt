use Rattle.std.proofs.Common.{ℕ, ◌/◌, ◌%◌, ◌^◌, ◌≤◌, ◌<◌, length, sym, ap, ◌∙◌, arith, rules}
use Rattle.engine.specs.Fips46.{scheduled, KS}
use Rattle.engine.specs.Tables.{shifts}
use Rattle.engine.proofs.Loops.{key_step, key_end}
use Rattle.engine.proofs.schedule.key_schedule.Goals as goal

pub loop-i-preserved : goal.loop-i-preserved
loop-i-preserved c =
    let k : c.loop-i.i < length c.loop-i.keys = search rules in (
      search rules,
      search rules,
      search rules,
      key_step shifts _ _ _ c.loop-i-test.true k c.from-n.ensures c.left_shift-c.ensures.0 c.left_shift-d.ensures.0 c.permute.ensures.0 ∙ c.loop-i.invariant.3,
    )

pub returns : goal.returns
unfolding KS
returns c =
    let k : length c.loop-i.keys ≤ c.loop-i.i = omega arith in
    sym (key_end shifts _ _ _ _ c.loop-i-test.false k) ∙ c.loop-i.invariant.3
    ∙ ap (λ (x : ℕ). scheduled shifts (x / 2 ^ 28) (x % 2 ^ 28)) c.permute-x.ensures.0
