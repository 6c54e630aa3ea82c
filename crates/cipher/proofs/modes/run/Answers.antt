use Rattle.std.proofs.Common.{◌≡◌, ℕ, ◌*◌, ◌≤◌, List, ◌++◌, append-nil, map, length, take, sym, ap, ◌∙◌, arith, rules}
use Rattle.fips81.specs.declared.Turn.{Turn}
use Rattle.cipher.specs.declared.modes.Mode.{Mode}
use Rattle.cipher.specs.Bits.{word}
use Rattle.engine.specs.Fips46.{computed}
use Rattle.cipher.specs.Cipher.{way_of, direction_of}
use Rattle.fips81.specs.Fips81.{turned, given, left, blocks, joined}
use Rattle.cipher.proofs.Texts.{chunks-blocks, left_step, left_end, given-step, given_end, rest_step, written}
use Rattle.cipher.proofs.modes.run.Goals as goal

abbrev turn : Mode → List ℕ → ℕ → ℕ → Turn
turn m ks = turned (way_of m) (direction_of m) (computed ks)

pub loop-i-init : goal.loop-i-init
loop-i-init c =
    let by : ℕ → ℕ → Turn = turn c.args.mode c.args.keys.now in
    let e : map word c.as_chunks.result.0.now ≡ blocks c.args.text.now = ap (map word) c.as_chunks.ensures.front ∙ chunks-blocks c.args.text.now in
    (ap (left by c.args.vector) e, ap (λ (l : List ℕ). joined (given by c.args.vector l)) e, search rules)

pub loop-i-preserved : goal.loop-i-preserved
loop-i-preserved c =
    let by : ℕ → ℕ → Turn = turn c.args.mode c.args.keys.now in
    let t = c.turn_of-t.result in
    let e : t ≡ by c.loop-i.v (word _) = c.turn_of-t.ensures ∙ ap (by c.loop-i.v) c.word_of.ensures in
    let y = c.copy_from_slice.ensures.after ∙ c.bytes_of.ensures in
    let n : length c.copy_from_slice.new.self ≡ 8 = search rules in
    let k : 8 * c.loop-i.i ≤ length c.loop-i.out = omega arith in (
      left_step by c.loop-i.v _ c.loop-i.i t e c.loop-i-test.true ∙ c.loop-i.invariant.0,
      given-step by c.loop-i.v _ c.loop-i.i t e c.loop-i-test.true _ c.loop-i.out _ y n k ∙ c.loop-i.invariant.1,
      rest_step c.loop-i.i _ _ c.loop-i.out _ (omega arith) n k c.loop-i.invariant.2,
    )

pub returns : goal.returns
returns c =
    let by : ℕ → ℕ → Turn = turn c.args.mode c.args.keys.now in
    let e : 8 * c.loop-i.i ≡ length c.args.text.now = omega (arith, c.as_chunks.ensures.front_len) in
    let w : take (8 * c.loop-i.i) c.loop-i.out ≡ joined (given by c.args.vector (blocks c.args.text.now)) =
    sym (ap (λ (z : List ℕ). take (8 * c.loop-i.i) c.loop-i.out ++ z) (given_end by c.loop-i.v _ c.loop-i.i c.loop-i-test.false) ∙ append-nil _) ∙ c.loop-i.invariant.1 in (
      sym (left_end by c.loop-i.v _ c.loop-i.i c.loop-i-test.false) ∙ c.loop-i.invariant.0,
      rw e at (written c.loop-i.out c.args.out.now _ (8 * c.loop-i.i) w c.loop-i.invariant.2),
    )
