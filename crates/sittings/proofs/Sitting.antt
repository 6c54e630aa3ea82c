-- A sitting at the desk: what it leaves and answers, line after line, and what `$n` is in the next line.
use Rattle.std.specs.Prelude.{◌≡◌, refl, ◌↔◌, List, [], ◌∷◌, ◌++◌, ℕ, ◌+◌, take}
use Rattle.std.proofs.Common.{sym, ap, ◌∙◌, subst}
use Rattle.stream.specs.Fields.{Bytes}
use Rattle.printout.specs.Page.{Page}
use Rattle.grammar.specs.Means.{OfAnswer}
use Rattle.rules.specs.World.{World}
use Rattle.session.specs.Run.{Answered, ran_from, printed_from, printed_run}
use Rattle.counter.specs.Kept.{Books, booked, all_booked}
use Rattle.counter.specs.Service.{Carried, carried, with_answers, carried_out}
use Rattle.readings.specs.InTurn.{next}
use Rattle.sittings.specs.Answers.{Keeps, Fresh}
use Rattle.sittings.proofs.Books.{answer_at_the_desk}
use Rattle.sittings.specs.ByLine.{said, line_by_line, written, Whole}
use Rattle.sittings.proofs.ByLine.{at_once}
use Rattle.sittings.specs.Sitting.{after}

booked_parts : (xs ys : List Answered) (b : Books) → all_booked (xs ++ ys) b ≡ all_booked ys (all_booked xs b)
unfolding all_booked
booked_parts [] ys b = refl
booked_parts (x ∷ xs) ys b = booked_parts xs ys (booked x b)

-- it has booked the answers to them all
pub after-lines : (ls : List (List ℕ)) (w : World) (out : Bytes) (b : Books) → after ls (carried w out b) ≡ with_answers b (line_by_line ls w out b)
unfolding after carried_out line_by_line next all_booked
after-lines [] w out b = refl
after-lines (l ∷ ls) w out b =
    let r = ran_from (said b l) w out 0 in
    let rest = line_by_line ls r.world r.output (all_booked r.answers b) in
    after-lines ls r.world r.output (all_booked r.answers b) ∙ ap (carried rest.world rest.output) (sym (booked_parts r.answers rest.answers b))

-- so it is left as by their bytes at once, where raw bytes are whole commands
pub after_at_once : (ls : List (List ℕ)) → Whole ls → (w : World) (out : Bytes) (b : Books) → carried_out (written ls w out b) w out b ≡ after ls (carried w out b)
unfolding carried_out
after_at_once ls h w out b = ap (with_answers b) (at_once ls h w out b) ∙ sym (after-lines ls w out b)

-- and NOTARY prints for these bytes a line for each answer that the desk gave, in their order
pub printed_at_once : (ls : List (List ℕ)) → Whole ls → (w : World) (out : Bytes) (b : Books) (p : Page) → printed_run (written ls w out b) w out p ≡ printed_from 1 p (line_by_line ls w out b)
unfolding printed_run
printed_at_once ls h w out b p = ap (printed_from 1 p) (at_once ls h w out b)

-- "`$n` is … the bytes of the answer with that ordinal": in the line after these, answer n of the sitting, exactly while it is kept
pub answer_in_sitting : (w : World) (out : Bytes) (fresh : Books) → Fresh 4096 1048576 fresh → (ls : List (List ℕ)) (n : ℕ) (bytes : List ℕ)
    → let b = (after ls (carried w out fresh)).answers in OfAnswer b.bytes.letters (take (b.count + 1) b.ends) n bytes ↔ Keeps 4096 1048576 (line_by_line ls w out fresh).answers n bytes
answer_in_sitting w out fresh f ls n bytes =
    subst (λ (c : Carried). let b = c.answers in OfAnswer b.bytes.letters (take (b.count + 1) b.ends) n bytes ↔ Keeps 4096 1048576 (line_by_line ls w out fresh).answers n bytes)
    (sym (after-lines ls w out fresh)) (answer_at_the_desk fresh f (line_by_line ls w out fresh).answers n bytes)
