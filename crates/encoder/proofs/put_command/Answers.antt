use Rattle.std.proofs.Common.{List, ℕ, rules, sym, ap, ◌∙◌}
use Rattle.printout.specs.Inked.{inked, inked_none, inked_more}
use Rattle.encoder.proofs.ByForm.{unknown, too_long, whole}
use Rattle.encoder.proofs.put_command.Goals as goal

pub returns-in_default : goal.returns-in_default
returns-in_default c = rw (unknown c.args.asked c.args.text.now (sym c.in_default.ensures)) (inked_none _)

pub returns-then-size-lt65536 : goal.returns-then-size-lt65536
returns-then-size-lt65536 c =
    let command = whole c.args.asked c.args.text.now _ _ (search rules, search rules) c.in-Some.ensures c.value_size-size.ensures c.if-size-lt65536.true in
    rw (c.put_arguments.ensures, c.put_header.ensures) (inked_more _ _ _ ∙ ap (λ (xs : List ℕ). inked xs c.args.page.now) command)

pub returns-else-size-lt65536 : goal.returns-else-size-lt65536
returns-else-size-lt65536 c =
    rw (too_long c.args.asked c.args.text.now _ _ (search rules, search rules) c.in-Some.ensures c.value_size-size.ensures c.if-size-lt65536.false) (inked_none _)
