-- A text that finds room, in one copy: what is entered letter by letter stands there then too.
use Rattle.std.specs.Prelude.{◌≡◌, true, List, [], ◌∷◌, ◌++◌, ℕ, ◌+◌, ◌-◌, ◌≤◌, ltb, length, set, take, drop}
use Rattle.std.proofs.Common.{sym, ap, ◌∙◌, append_assoc, arith, rules, lt-ltb}
use Rattle.std.proofs.lemmas.List.{take_more_set, drop-set-lt, length-set, take-append-drop, drop-drop}
use Rattle.printout.specs.Page.{page, letter, entered}

letters_there : (xs ls : List ℕ) (f : ℕ) → f + length xs ≤ length ls → entered xs (page ls f) ≡ page (take f ls ++ (xs ++ drop (f + length xs) ls)) (f + length xs)
unfolding entered letter
letters_there [] ls f h = search (rules, take-append-drop)
letters_there (x ∷ xs) ls f h =
    let b : ltb f (length ls) ≡ true = lt-ltb f (length ls) (omega arith) in
    rw b (letters_there xs (set ls f x) (f + 1) (rw length-set (omega (arith, h))) ∙ search (rules, take_more_set, drop-set-lt, append_assoc))

-- `now` is what the copy leaves between what stands before it and what stands behind it, `to` the place behind it
pub copied : (xs now ls : List ℕ) (f to : ℕ) → now ≡ xs → f + length xs ≤ length ls → to ≡ f + length xs
    → page (take f ls ++ (now ++ drop (f + length xs - f) (drop f ls))) to ≡ entered xs (page ls f)
copied xs now ls f to e h t =
    let k : f + (f + length xs - f) ≡ f + length xs = omega arith in
    ap (λ (n : ℕ). page (take f ls ++ (now ++ drop (f + length xs - f) (drop f ls))) n) t
    ∙ ap (λ (between : List ℕ). page (take f ls ++ (between ++ drop (f + length xs - f) (drop f ls))) (f + length xs)) e
    ∙ ap (λ (past : List ℕ). page (take f ls ++ (xs ++ past)) (f + length xs)) (drop-drop (f + length xs - f) f ls ∙ ap (λ (m : ℕ). drop m ls) k)
    ∙ sym (letters_there xs ls f h)
