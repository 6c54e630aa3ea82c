-- A page of zeros that was filled: what stands on it.
use Rattle.std.specs.Prelude.{◌≡◌, List, ℕ, take, replicate}
use Rattle.std.proofs.Common.{ap, ◌∙◌}
use Rattle.printout.specs.Page.{Page as Sheet, page, entered}
use Rattle.printout.specs.declared.page.Page.{Page}
use Rattle.printout.specs.Inked.{sheet, inked}
use Rattle.clerk.specs.Filled.{put-fresh}

pub fresh_text : (n : ℕ) (xs : List ℕ) (p q : Page) → sheet p ≡ page (replicate n 0) 0 → q ≡ inked xs p → take q.filled q.letters.now ≡ take n xs
unfolding inked
fresh_text n xs p q e f = put-fresh n xs _ _ (ap sheet f ∙ ap (λ (s : Sheet). entered xs s) e)
