use Rattle.std.proofs.Common.{◌≡◌, sym, ap, ap₂, ◌∙◌, List, ℕ, length, eqb-true, Ok}
use Rattle.std.proofs.lemmas.Bool.{eqb-false}
use Rattle.cipher.specs.Bits.{bytes}
use Rattle.engine.specs.Fips46.{computed, KS}
use Rattle.fips81.specs.Fips81.{turned, keys_for, chain, left, blocks, filled}
use Rattle.cipher.specs.Cipher.{way_of, direction_of, mode_vector, fixity}
use Rattle.fips81.specs.Keyed.{vector_of}
use Rattle.cipher.proofs.Promise.{valued-done, valued_none, fixity-vector}
use Rattle.cipher.proofs.fixity.fixity_of.Goals as goal

pub returns-then-is_empty : goal.returns-then-is_empty
returns-then-is_empty c = sym (valued_none _ _ c.args.plain.now (eqb-true (length c.args.plain.now) 0 (sym c.if-is_empty.ensures)))

pub returns : goal.returns
unfolding mode_vector vector_of way_of direction_of turned keys_for
returns c =
    let start = c.args in
    let n : (length start.plain.now ≡ 0 → ⊥) = eqb-false (length start.plain.now) 0 (sym c.if-is_empty.ensures) in
    let x : c.bytes_of.result ≡ fixity start.key.0 start.vector.0 start.plain.now =
    c.bytes_of.ensures
    ∙ ap bytes (c.chained.ensures
    ∙ ap₂ (λ (ks : List ℕ) (w : ℕ). left (chain (computed ks)) w (blocks (filled start.plain.now)))
    (c.key_schedule-keys.ensures ∙ ap KS c.word_of.ensures) c.word_of-2.ensures)
    ∙ sym (fixity-vector start.key.0 start.vector.0 start.plain.now n) in
    ap (λ (b : List ℕ). record { verdict = Ok tt; value = b }) x ∙ sym (valued-done _ _ _ n)
