use Rattle.std.proofs.Common.{ℕ, sym, ap, ◌∙◌, bit_xor}
use Rattle.engine.specs.Fips46.{computed}
use Rattle.cipher.proofs.Texts.{chained_step, chained_end}
use Rattle.cipher.proofs.fixity.chained.Goals as goal

pub loop-block-preserved : goal.loop-block-preserved
loop-block-preserved c =
    let g : ℕ → ℕ = computed c.args.keys.now in
    let s = c.in-Some.ensures.steps in
    let y = c.compute-v.ensures ∙ ap (λ (x : ℕ). g (bit_xor x c.loop-block.v)) c.first_block.ensures in
    (s.0 ∙ c.loop-block.invariant.0, chained_step g c.loop-block.v _ _ _ _ _ c.loop-block.invariant.0 s.1.0 s.1.1 s.1.2 y ∙ c.loop-block.invariant.1)

pub returns : goal.returns
returns c = sym (chained_end (computed c.args.keys.now) c.loop-block.v _ c.in-None.ensures.steps.1.0) ∙ c.loop-block.invariant.1
