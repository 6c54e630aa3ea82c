use Rattle.std.proofs.Common.{◌∙◌, ap, ℕ, bit_xor}
use Rattle.engine.specs.Bits.{permuted}
use Rattle.engine.specs.Tables.{P}
use Rattle.engine.specs.Fips46.{f, substituted}
use Rattle.engine.proofs.rounds.cipher_function.Goals as goal

pub returns : goal.returns
unfolding f
returns c = (
  c.permute.ensures.0
      ∙ ap (permuted 32 P) (c.substitute-chosen.ensures.0 ∙ ap (λ (x : ℕ). substituted (bit_xor c.args.k x)) c.permute-expanded.ensures.0),
  c.permute.ensures.1,
)
