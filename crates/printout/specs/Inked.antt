-- A page of the code: letters that are lent to it, and what is entered on them.
use Rattle.std.specs.Prelude.{◌≡◌, refl, List, [], ◌++◌, ℕ}
use Rattle.std.proofs.Common.{sym, ap, ◌∙◌, append_assoc}
use Rattle.std.proofs.lemmas.Grind.{take_at_read}
use Rattle.printout.specs.Page.{Page as Sheet, page, entered, then}
use Rattle.printout.specs.declared.page.Page.{Page}

-- what stands on it, as a page of specs/Page
abbrev pub sheet : Page → Sheet
sheet p = page p.letters.now p.filled

-- the same letters, lent as they are, with this on them
abbrev pub bearing : Sheet → Page → Page
bearing s p = record { letters = record p.letters { now = s.letters }; filled = s.filled }

-- with a text entered: what each function that writes on a page makes of it
unfoldable pub inked : List ℕ → Page → Page
inked xs p = bearing (entered xs (sheet p)) p

-- ---- nothing, and one text after another

pub inked_none : (p : Page) → p ≡ inked [] p
unfolding inked entered
inked_none p = refl

pub inked_more : (xs ys : List ℕ) (p : Page) → inked ys (inked xs p) ≡ inked (xs ++ ys) p
unfolding inked
inked_more xs ys p = ap (λ (s : Sheet). bearing s p) (sym (then xs ys (sheet p)))

-- what the code that enters several texts, or one letter by letter, is proved with
pub ruleset entries = (inked_none, inked_more, append_assoc, take_at_read)
