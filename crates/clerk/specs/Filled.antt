-- A page that was filled from its start: what stands there.
use Rattle.std.specs.Prelude.{◌≡◌, Bool, cond, List, [], ◌∷◌, ◌++◌, ℕ, suc, ◌+◌, ◌-◌, ◌≤◌, ◌<◌, ltb, length, take, set, replicate}
use Rattle.std.proofs.Common.{sym, ap, ◌∙◌, append-nil, arith, length-set, ltb-true, ltb-false}
use Rattle.std.proofs.Math.Nat.{sub-zero}
use Rattle.std.proofs.lemmas.List.{length-replicate}
use Rattle.std.proofs.Math.Seq.{take-nil}
use Rattle.ground.specs.Lists.{put}
use Rattle.ground.specs.Search.{by_test}
use Rattle.printout.specs.Page.{Page, page, letter, entered}

abbrev written : Page → List ℕ
written p = take p.filled p.letters

-- what stood there, and then as much of the text as finds room
on-page : (xs b : List ℕ) (m : ℕ) → m ≤ length b → written (entered xs (page b m)) ≡ take m b ++ take (length b - m) xs
unfolding entered letter
on-page [] b m h = rw (take-nil (length b - m), append-nil (take m b))
on-page (x ∷ xs) b m h =
    by_test (ltb m (length b))
    (λ e.
    let k : m < length b = ltb-true m (length b) e in
    let n : length b - m ≡ suc (length b - (m + 1)) = omega arith in
    ap next e
    ∙ on-page xs (set b m x) (m + 1) (omega (arith, length-set b m x))
    ∙ ap (λ (j : ℕ). take (m + 1) (set b m x) ++ take (j - (m + 1)) xs) (length-set b m x)
    ∙ put b m x (take (length b - (m + 1)) xs) k
    ∙ ap (λ (j : ℕ). take m b ++ take j (x ∷ xs)) (sym n))
    (λ e.
    let k : length b ≤ m = ltb-false m (length b) e in
    let n : length b - m ≡ 0 = omega arith in
    ap next e ∙ on-page xs b m h ∙ ap (λ (j : ℕ). take m b ++ take j xs) n ∙ ap (λ (j : ℕ). take m b ++ take j (x ∷ xs)) (sym n))
  where
    -- by whether there is room for x
    next : Bool → List ℕ
    next room = written (entered xs (cond room (page (set b m x) (m + 1)) (page b m)))

-- of a text put onto a buffer from its start, as many letters stand there as the buffer has room for
pub put-over : (b xs letters : List ℕ) (filled : ℕ) → page letters filled ≡ entered xs (page b 0) → take filled letters ≡ take (length b) xs
put-over b xs letters filled e = ap written e ∙ on-page xs b 0 (omega arith) ∙ ap (λ (j : ℕ). take j xs) (sub-zero (length b))

-- a buffer of n zeros
pub put-fresh : (n : ℕ) (xs letters : List ℕ) (filled : ℕ) → page letters filled ≡ entered xs (page (replicate n 0) 0) → take filled letters ≡ take n xs
put-fresh n xs letters filled e = put-over (replicate n 0) xs letters filled e ∙ ap (λ (j : ℕ). take j xs) (length-replicate n 0)
