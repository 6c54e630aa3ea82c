use Rattle.std.proofs.Common.{◌≡◌, ◌*◌, ◌+◌, ◌/◌, ◌<◌, ◌≤◌, length, ap, ◌∙◌, ap₂, arith, rules}
use Rattle.vectors.specs.Answers.{right, forwards, backwards, out_of, tallied}
use Rattle.vectors.proofs.Counting.{row_read, one_most, forwards_next, backwards_next}
use Rattle.vectors.proofs.blocks.run.Goals as goal

pub loop-i-init : goal.loop-i-init
unfolding forwards backwards right
loop-i-init c = search rules

pub loop-i-preserved : goal.loop-i-preserved
loop-i-preserved c =
    let t = c.args.table.now in
    let i = c.loop-i.i in
    let h : i < length t / 3 = omega (arith, c.as_chunks.ensures.front_len) in
    let key = row_read t _ _ i 0 (3 * i) c.as_chunks.ensures.front h (omega arith) (omega arith) in
    let plain = row_read t _ _ i 1 (3 * i + 1) c.as_chunks.ensures.front h (omega arith) (omega arith) in
    let cipher = row_read t _ _ i 2 (3 * i + 2) c.as_chunks.ensures.front h (omega arith) (omega arith) in
    let f = forwards_next t i in
    let b = backwards_next t i in
    let one_f : c.forwards-enciphered.result ≤ 1 = rw c.forwards-enciphered.ensures (one_most _ _) in
    let one_b : c.backwards-deciphered.result ≤ 1 = rw c.backwards-deciphered.ensures (one_most _ _) in
    (cc, cc, omega arith, omega arith)

pub returns : goal.returns
unfolding tallied out_of
returns c =
    let e : c.loop-i.i ≡ length c.args.table.now / 3 = omega (arith, c.as_chunks.ensures.front_len) in
    rw c.as_chunks.ensures.front_len (ap₂ (out_of _) (c.loop-i.invariant.0 ∙ ap (forwards _) e) (c.loop-i.invariant.1 ∙ ap (backwards _) e))
