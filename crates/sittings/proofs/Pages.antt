-- A text for which there is room is entered whole.
use Rattle.std.specs.Prelude.{◌≡◌, refl, true, List, [], ◌∷◌, ℕ, suc, ◌+◌, ◌≤◌, ltb, length, take, set}
use Rattle.std.proofs.Common.{ap, ◌∙◌, add-zero, add-one, arith, length-set, take_all, lt-ltb}
use Rattle.std.proofs.lemmas.List.Edits.{sets}
use Rattle.printout.specs.Page.{page, letter, entered}
use Rattle.clerk.specs.Filled.{put-over}

pub placed : (xs b : List ℕ) (n : ℕ) → n + length xs ≤ length b → entered xs (page b n) ≡ page (sets b n xs) (n + length xs)
unfolding entered letter
placed [] b n h = rw add-zero
placed (x ∷ xs) b n h =
    let e : ltb n (length b) ≡ true = lt-ltb n (length b) (omega arith) in
    let k : suc n + length xs ≡ n + suc (length xs) = omega arith in
    rw (e, add-one) (placed xs (set b n x) (suc n) (omega (arith, length-set b n x)) ∙ ap (page (sets (set b n x) (suc n) xs)) k)

-- from the start of a page, whatever stood there
pub whole_there : (xs b : List ℕ) → length xs ≤ length b → let p = entered xs (page b 0) in take p.filled p.letters ≡ xs
whole_there xs b h = let p = entered xs (page b 0) in put-over b xs p.letters p.filled refl ∙ take_all (length b) xs h
