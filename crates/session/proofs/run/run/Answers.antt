use Rattle.std.proofs.Common.{◌≡◌, ◌<◌, ◌≤◌, ◌+◌, ℕ, length, sym, ap, ap₂, subst, ◌∙◌, arith, rules}
use Rattle.rules.specs.World.{World, over}
use Rattle.printout.specs.Page.{Page}
use Rattle.printout.specs.Inked.{sheet}
use Rattle.stream.specs.Fields.{Bytes, field_at, value_at, past_at, further}
use Rattle.session.specs.Run.{Reached, turn_of, ran_from, printed_from, printed_run, goes, turn_end}
use Rattle.stream.specs.declared.Field.{Field}
use Rattle.session.proofs.run.run.Goals as goal

pub loop-r-init : goal.loop-r-init
unfolding printed_run
loop-r-init c =
    let at : c.new-r.result.at ≡ 0 = c.new-r.ensures.1 in
    record {
      stream = ap (λ b. b.now) c.new-r.ensures.0;
      ordinal = omega (arith, at);
      printed = ap (λ (n : ℕ). printed_from 1 (sheet c.args.page.now) (ran_from c.args.s.now (over c.args.f c.args.table.now) c.args.out.now n)) at;
      lent = search rules;
    }

pub loop-r-smaller : goal.loop-r-smaller
loop-r-smaller c =
    let same : length c.past-r.result.src.now ≡ length c.loop-r.r.src.now = ap (λ b. length b.now) c.past-r.ensures.0 in
    let on = further c.loop-r.r.src.now c.loop-r.r.at c.loop-r-test.true in
    omega (arith, same, c.past-r.ensures.1, on)

pub loop-r-preserved : goal.loop-r-preserved
loop-r-preserved c =
    let s : Bytes = c.args.s.now in
    let at : ℕ = c.loop-r.r.at in
    let i : ℕ = c.loop-r.d.ordinal in
    let w : World = over c.loop-r.d.state c.loop-r.table in
    let out : Bytes = c.loop-r.out in
    let p : Page = sheet c.loop-r.page in
    let stream = c.loop-r.invariant.stream in
    let more : at < length s = omega (arith, c.loop-r-test.true, ap length stream) in
    let turned =
    c.turn.ensures.reached
    ∙ ap₂ (λ (f : Field) (v : Bytes). turn_of f v w out p i)
    (c.field.ensures ∙ ap (λ (x : Bytes). field_at x at) stream)
    (c.value.ensures ∙ ap (λ (x : Bytes). value_at x at) stream) in
    let moved : c.past-r.result.at ≡ past_at s at = c.past-r.ensures.1 ∙ ap (λ (x : Bytes). past_at x at) stream in
    let Goes : Reached → Type 0 =
    λ x. (x.ordinal ≤ past_at s at + 1) × (printed_from x.ordinal x.printed (ran_from s x.world x.output (past_at s at)) ≡ printed_from i p (ran_from s w out at)) in
    let there = subst Goes (sym turned) (goes s w out at i p c.loop-r.invariant.ordinal more) in
    record {
      stream = ap (λ b. b.now) c.past-r.ensures.0 ∙ stream;
      ordinal = omega (arith, moved, there.0);
      printed =
          ap (λ (n : ℕ). printed_from c.turn.new.d.ordinal (sheet c.turn.new.page) (ran_from s (over c.turn.new.d.state c.turn.new.table) c.turn.new.out n)) moved
          ∙ there.1
          ∙ c.loop-r.invariant.printed;
      lent = search rules;
    }

pub returns-clause-run : goal.returns-clause-run
returns-clause-run c =
    let d = c.loop-r.d in
    let at_end : length c.args.s.now ≤ c.loop-r.r.at = omega (arith, c.loop-r-test.false, ap length c.loop-r.invariant.stream) in
    sym (turn_end c.args.s.now (over d.state c.loop-r.table) c.loop-r.out c.loop-r.r.at d.ordinal (sheet c.loop-r.page) at_end)
    ∙ c.loop-r.invariant.printed
