use Rattle.std.proofs.Common.{arith}
use Rattle.printout.proofs.Copied.{copied}
use Rattle.printout.proofs.page.put_all_at.Goals as goal

-- the text that finds room, copied whole
pub returns-then-text-letters : goal.returns-then-text-letters
returns-then-text-letters c = copied c.args.text.now c.copy_from_slice.new.self c.args.letters.now c.args.at _ c.copy_from_slice.ensures.after (omega arith) (omega arith)
