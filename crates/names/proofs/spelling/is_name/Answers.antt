use Rattle.std.proofs.Common.{rules, tests, ◌∙◌, arith}
use Rattle.std.proofs.lemmas.Grind.{common_steps}
use Rattle.std.proofs.lemmas.Iterator.{YieldsList-from_slice, YieldsList-from_zip}
use Rattle.std.proofs.lemmas.Iterator.Search.{all_from_yields_List}
use Rattle.names.specs.Names.{other_length}
use Rattle.names.proofs.SameNames.{same_letter, all_same}
use Rattle.names.proofs.spelling.is_name.Goals as goal

pub returns-then-word-name : goal.returns-then-word-name
returns-then-word-name c =
    all_from_yields_List same_letter c.all.new.self _ c.all.result c.all.ensures.ran (YieldsList-from_zip {s = c.zip.result} (YieldsList-from_slice c.args.word.now cc) (YieldsList-from_slice c.args.name.now cc)) (λ x b q k. search (rules, tests))
    ∙ all_same _ _ c.if-word-name.true

pub returns-else-word-name : goal.returns-else-word-name
returns-else-word-name c = grind (arith, common_steps, other_length)
