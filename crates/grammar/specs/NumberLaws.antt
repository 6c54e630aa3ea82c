-- A word as a number or a function: the reader takes exactly the words of the table.
use Rattle.std.specs.Prelude.{◌≡◌, true}
use mathlib.Core.List.{List}
use Prim.Native.Nat.{ℕ}
use Rattle.values.specs.Values.{Value}

-- v fits exactly where the table has bytes, and says these
pub record Exact (v : Value) (bytes : Value → List ℕ) (R : List ℕ → Type 0) : Type 0 where
  pub fits-has : v.fits ≡ true → R (bytes v)
  pub has-fits : (b : List ℕ) → R b → (v.fits ≡ true) × (bytes v ≡ b)
