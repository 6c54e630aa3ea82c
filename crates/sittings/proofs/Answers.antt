-- "The desk keeps the bytes of its answers for `$n`: of the first 4096 answers, while they find room in 1048576 bytes."
use Rattle.std.specs.Prelude.{refl, ℕ, suc, replicate}
use Rattle.std.proofs.lemmas.List.{length-replicate}
use Rattle.printout.specs.Page.{page}
use Rattle.counter.specs.Kept.{books}
use Rattle.sittings.specs.Answers.{Fresh}

-- such are those with which the desk begins
pub fresh-books : (first room : ℕ) → Fresh first room (books 0 (page (replicate room 0) 0) (replicate (suc first) 0))
fresh-books first room = record { none = refl; empty = refl; size = length-replicate room 0; marks = length-replicate (suc first) 0; start = refl }
