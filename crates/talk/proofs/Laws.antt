-- Of places on a page: how many are taken, and one line more.
use Rattle.std.specs.Prelude.{◌≡◌, refl, Bool, true, false, cond, List, ◌∷◌, ◌++◌, ℕ, ◌+◌, ◌<◌, length, get_or, take}
use Rattle.std.specs.List.{count_by}
use Rattle.std.proofs.Common.{sym, arith}
use Rattle.std.proofs.lemmas.List.Recursion.{is_count_by}
use Rattle.printout.specs.Parts.{parts_more}
use Rattle.state.specs.declared.Place.{Place}
use Rattle.state.specs.State.{holders}
use Rattle.talk.specs.Who.{place_line, place_lines}

pub taken_count : (ps : List Place) → count_by (λ (p : Place). p.taken) ps ≡ length (holders ps)
taken_count ps = sym (is_count_by (λ (qs : List Place). length (holders qs)) (λ p. p.taken) refl (λ p qs. either p.taken p.user (holders qs)) ps)
  where
    either : (b : Bool) (u : ℕ) (us : List ℕ) → length (cond b (u ∷ us) us) ≡ cond b (1 + length us) (length us)
    either true u us = omega arith
    either false u us = refl

pub places_more : (ps : List Place) (i : ℕ) (d : Place) → i < length ps → place_lines (take i ps) ++ place_line (get_or ps i d) ≡ place_lines (take (i + 1) ps)
unfolding place_lines
places_more ps i d h = parts_more place_line place_lines refl (λ p ps. refl) ps i d h
