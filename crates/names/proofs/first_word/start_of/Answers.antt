use Rattle.std.proofs.Common.{sym, ◌∙◌}
use Rattle.names.proofs.Table.{row_found, row_passed}
use Rattle.names.proofs.first_word.start_of.Goals as goal

pub loop-tag-preserved : goal.loop-tag-preserved
loop-tag-preserved c = row_passed _ _ _ _ _ _ c.loop-tag.invariant (sym c.is_name.ensures ∙ c.if-is_name.false) c.loop-tag-test.true

pub returns-then-is_name : goal.returns-then-is_name
returns-then-is_name c = row_found _ _ _ _ _ _ c.loop-tag.invariant (sym c.is_name.ensures ∙ c.if-is_name.true) c.loop-tag-test.true
