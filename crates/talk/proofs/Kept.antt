-- Laws of numbers and places on a page, one more of them, as they were stated before, kept: the code is proved without them.
use mathlib.Core.Path.{◌≡◌, ap, ◌∙◌}
use mathlib.Core.Bool.{true, false}
use mathlib.Core.List.{List}
use Prim.Native.Nat.{ℕ, suc, ◌+◌, ◌≤◌, ◌<◌}
use Rattle.std.proofs.Math.Numerals.{add-one}
use Rattle.std.proofs.Common.{arith}
use Rattle.std.proofs.Math.ListN.{length, get_or, drop, drop_of_length-le}
use Rattle.std.proofs.Common.{drop-cons}
use Rattle.printout.specs.Page.{Page, entered, then}
use Rattle.printout.specs.Digits.{decimal}
use Rattle.state.specs.declared.Place.{Place}
use Rattle.state.specs.State.{holders, spare}
use Rattle.talk.specs.Who.{place_line, place_lines}

-- a number entered that is another's equal
pub counted : (n m : ℕ) (p q : Page) → n ≡ m → q ≡ entered (decimal n) p → q ≡ entered (decimal m) p
counted n m p q e f = f ∙ ap (λ (k : ℕ). entered (decimal k) p) e

-- ---- one place more

pub lines_step : (ps : List Place) (i : ℕ) (p : Page) → i < length ps → entered (place_lines (drop i ps)) p ≡ entered (place_lines (drop (i + 1) ps)) (entered (place_line (get_or ps i spare)) p)
unfolding place_lines
lines_step ps i p h = rw (add-one, drop-cons ps i spare h) (then (place_line (get_or ps i spare)) (place_lines (drop (suc i) ps)) p)

pub lines_end : (ps : List Place) (i : ℕ) (p : Page) → length ps ≤ i → entered (place_lines (drop i ps)) p ≡ p
unfolding place_lines entered
lines_end ps i p h = rw drop_of_length-le

pub taken_step : (ps : List Place) (i : ℕ) → i < length ps → (get_or ps i spare).taken ≡ true → length (holders (drop i ps)) ≡ 1 + length (holders (drop (i + 1) ps))
taken_step ps i h e = rw (add-one, drop-cons ps i spare h, e) (omega arith)

pub free_step : (ps : List Place) (i : ℕ) → i < length ps → (get_or ps i spare).taken ≡ false → length (holders (drop i ps)) ≡ length (holders (drop (i + 1) ps))
free_step ps i h e = rw (add-one, drop-cons ps i spare h, e)

pub taken_end : (ps : List Place) (i : ℕ) → length ps ≤ i → length (holders (drop i ps)) ≡ 0
taken_end ps i h = rw drop_of_length-le
