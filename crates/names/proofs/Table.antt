-- The table of the commands' names, row by row.
use Rattle.std.proofs.Common.{◌≡◌, sym, ℕ, ◌+◌, ◌<◌, true, false, List, [], ◌∷◌, length, get_or, drop, Bor, add-one, drop-cons, eq-eqb, ne_eqb}
use Rattle.names.specs.declared.Says.TheVariants.{Command}
use Rattle.names.specs.Names.{Start, begins, same_name, start_in}
use Rattle.printout.specs.Rows.{Row, ◌reads◌, beside}

-- the rows as the definitions have them
abbrev pub rows_of : List (ℕ × Bor (List ℕ)) → List Row
rows_of [] = []
rows_of (r ∷ rs) = (r.0 reads r.1.now) ∷ rows_of rs

-- one row more, for a loop: what the rows from there on begin is s
module _ (w : List ℕ) (s others : Start) (rs : List (ℕ × Bor (List ℕ))) (i : ℕ) (d : ℕ × Bor (List ℕ))
    (is : start_in w (rows_of (drop i rs)) others ≡ s) where
  pub row_found : same_name w (get_or rs i d).1.now ≡ true → i < length rs → begins Command (get_or rs i d).0 ≡ s
  row_found e h = rw (drop-cons rs i d h, e) at is

  pub row_passed : same_name w (get_or rs i d).1.now ≡ false → i < length rs → start_in w (rows_of (drop (i + 1) rs)) others ≡ s
  row_passed e h = rw add-one (rw (drop-cons rs i d h, e) at is)

-- the same, for the name of a tag: what stands beside it from there on is ws
module _ (t : ℕ) (ws others : List ℕ) (rs : List (ℕ × Bor (List ℕ))) (i : ℕ) (d : ℕ × Bor (List ℕ))
    (is : beside t (rows_of (drop i rs)) others ≡ ws) where
  pub name_found : (get_or rs i d).0 ≡ t → i < length rs → (get_or rs i d).1.now ≡ ws
  name_found e h = rw (drop-cons rs i d h, eq-eqb t (get_or rs i d).0 (sym e)) at is

  pub name_passed : ((get_or rs i d).0 ≡ t → ⊥) → i < length rs → beside t (rows_of (drop (i + 1) rs)) others ≡ ws
  name_passed e h = rw add-one (rw (drop-cons rs i d h, ne_eqb t (get_or rs i d).0 (λ q. e (sym q))) at is)
