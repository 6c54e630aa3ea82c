-- What the code holds, as the definitions have it; and the same room lent, with something else in it.
use Rattle.std.specs.Prelude.{Bool, List, ℕ, Result, take}
use Rattle.state.specs.declared.Facility.{Facility}
use Rattle.state.specs.State.{Bytes}
use Rattle.printout.specs.declared.page.Page.{Page}
use Rattle.printout.specs.Inked.{sheet, bearing}
use Rattle.rules.specs.World.{over}
use Rattle.session.specs.Run.{answered, answer_to}
use Rattle.words.specs.declared.Wrong.{Wrong}
use Rattle.reader.specs.declared.Line.{Line}
use Rattle.reader.specs.Results.{line_as}
use Rattle.clerk.specs.Replies.{reply}
use Rattle.counter.specs.declared.kept.Books.{Books as Ledger}
use Rattle.counter.specs.declared.service.Sitting.{Sitting}
use Rattle.counter.specs.declared.input.Coming.{Coming}
use Rattle.counter.specs.Input.{Partly}
use Rattle.counter.specs.Kept.{Books, books, next, booked}
use Rattle.counter.specs.Service.{Turned, turned, turn_at, Carried, carried, carried_out}
use Rattle.counter.specs.Line.{Served, served, served_line}

-- what stands on a page
abbrev pub text : Page → Bytes
text p = take p.filled p.letters.now

-- ---- the books of the answers

abbrev pub books_as : Ledger → Books
books_as b = books b.count (sheet b.kept) b.ends.now

abbrev pub with_books : Books → Ledger → Ledger
with_books b l = record { kept = bearing b.bytes l.kept; ends = record l.ends { now = b.ends }; count = b.count }

-- ---- a desk

abbrev pub at_desk : Facility → (table out : Bytes) → Ledger → Carried
at_desk f table out b = carried (over f table) out (books_as b)

abbrev pub desk_as : Sitting → Carried
desk_as d = at_desk d.state d.table.now d.out.now d.books

abbrev pub left_as : Carried → Sitting → Sitting
left_as c d =
    record {
      state = c.world.facility;
      table = record d.table { now = c.world.table };
      out = record d.out { now = c.output };
      books = with_books c.answers d.books;
    }

-- ---- the definitions' functions, of a desk as a whole

-- the desk after the command of this tag and value, and what it is answered
abbrev pub answered_with : ℕ → Bytes → Carried → Carried
answered_with tag v c =
    let r = answer_to c.world tag v c.output in
    carried r.world r.answered.output (booked (answered tag r.answered) c.answers)

abbrev pub told_with : ℕ → Bytes → Carried → List ℕ
told_with tag v c = reply (next c.answers.count) (answered tag (answer_to c.world tag v c.output).answered)

-- where a command's turn has come to: the desk, the paper, and where the piece goes on
abbrev pub turned_as : Sitting → Page → ℕ → Turned
turned_as d paper at = let c = desk_as d in turned c.world c.output c.answers (sheet paper) at

abbrev pub turn_with : Bytes → ℕ → Carried → Bytes → Turned
turn_with s at c paper = turn_at s at c.world c.output c.answers paper

abbrev pub carried_with : Bytes → Carried → Carried
carried_with s c = carried_out s c.world c.output c.answers

-- a line served: what it says, its bytes on the piece, and the desk
abbrev pub served_as : Result Line Wrong → Page → Sitting → Served
served_as said piece d = served (line_as said) (text piece) (desk_as d)

abbrev pub served_with : Bool → List ℕ → ℕ → Carried → Served
served_with longer l room c = served_line longer l room c.world c.output c.answers

-- ---- a line as far as it has come

abbrev pub partly : Coming → Partly
partly g = record { letters = sheet g.letters; longer = g.longer; complete = g.complete }

abbrev pub coming : Partly → Coming → Coming
coming p g = record { letters = bearing p.letters g.letters; longer = p.longer; complete = p.complete }
