-- A table in which one entry that is not looked for is another: the same entry is found, the same entry is altered, and the other entry stays.
use Rattle.std.specs.Prelude.{◌++◌}
use Prim.Native.Nat.{ℕ, ◌+◌, ◌*◌}
use Rattle.std.proofs.Math.ListN.{take, drop}
use Rattle.state.specs.State.{Bytes}

-- the twelve bytes of entry k
abbrev pub entry_at : ℕ → Bytes → Bytes
entry_at k t = take 12 (drop (k * 12) t)

-- the table t with the twelve bytes e as its entry k
unfoldable pub replaced : ℕ → Bytes → Bytes → Bytes
replaced k e t = take (k * 12) t ++ (e ++ drop (k * 12 + 12) t)
