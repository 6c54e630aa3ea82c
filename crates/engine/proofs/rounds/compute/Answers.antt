use Rattle.std.proofs.Common.{ℕ, ◌/◌, ◌%◌, ◌^◌, sym, ap, ◌∙◌, rules}
use Rattle.std.proofs.lemmas.Nat.{xor_lt}
use Rattle.engine.specs.Bits.{permuted}
use Rattle.engine.specs.Tables.{IP⁻¹}
use Rattle.engine.specs.Fips46.{rounds, computed}
use Rattle.engine.proofs.Loops.{rounds-step, rounds_end}
use Rattle.engine.proofs.rounds.compute.Goals as goal

pub loop-key-preserved : goal.loop-key-preserved
loop-key-preserved c = (
  search rules,
  xor_lt 32 _ _ c.loop-key.invariant.0 c.cipher_function.ensures.1,
  rw c.cipher_function.ensures.0 (sym (rounds-step _ _ _ _ c.loop-key-test.true) ∙ c.loop-key.invariant.2),
)

pub returns : goal.returns
unfolding computed
returns c =
    c.inverse_permutation.ensures
    ∙ ap (permuted 64 IP⁻¹)
    (sym (rounds_end _ _ _ _ c.loop-key-test.false) ∙ c.loop-key.invariant.2
    ∙ ap (λ (x : ℕ). rounds c.args.keys.now (x / 2 ^ 32) (x % 2 ^ 32)) c.initial_permutation-x.ensures)
