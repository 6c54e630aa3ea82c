-- A piece of stream put onto a page, from its start: what stands there, and that the page has as much room as before.
use Rattle.std.specs.Prelude.{◌≡◌, refl, Bool, true, false, cond, List, [], ◌∷◌, ℕ, ◌+◌, ltb, length, set, take}
use Rattle.std.proofs.Common.{◌∙◌, length-set}
use Rattle.printout.specs.Page.{Page as Sheet, page, letter, entered}
use Rattle.printout.specs.declared.page.Page.{Page}
use Rattle.printout.specs.Inked.{sheet, inked}
use Rattle.clerk.specs.Filled.{put-over}

pub put_over : (b xs : List ℕ) → let p = entered xs (page b 0) in take p.filled p.letters ≡ take (length b) xs
put_over b xs = put-over b xs _ _ refl

-- ---- the room

letter_room : (x : ℕ) (p : Sheet) (fits : Bool) → length (cond fits (page (set p.letters p.filled x) (p.filled + 1)) p).letters ≡ length p.letters
letter_room x p true = length-set p.letters p.filled x
letter_room x p false = refl

entered_room : (xs : List ℕ) (p : Sheet) → length (entered xs p).letters ≡ length p.letters
unfolding entered letter
entered_room [] p = refl
entered_room (x ∷ xs) p = entered_room xs (letter x p) ∙ letter_room x p (ltb p.filled (length p.letters))

pub inked_room : (xs : List ℕ) (p : Page) → length (inked xs p).letters.now ≡ length p.letters.now
unfolding inked
inked_room xs p = entered_room xs (sheet p)
