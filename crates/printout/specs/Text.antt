-- A text as the bytes of its letters.
use Rattle.std.specs.Prelude.{List, [], ◌∷◌, ℕ}
use Prim.Native.Char.{code}
use Prim.Native.String.{String, [] as no-letters, ◌∷◌ as ◌then◌}

abbrev pub letters : String → List ℕ
letters no-letters = []
letters (c then s) = code c ∷ letters s
