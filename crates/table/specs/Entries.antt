-- The password table: entries of 12 bytes, a four-byte identifier, high byte first, and eight bytes.
use Rattle.std.specs.Prelude.{Bool, false, cond, Option, None, Some, is_some, List, ◌++◌, ℕ, zero, suc, ◌*◌, ◌/◌, ◌%◌, eqb, leb, length, take, drop}
use Rattle.std.specs.Simd.{first_chunks}
use Rattle.ground.specs.Rows.{row, digits}
use Rattle.state.specs.State.{Bytes}

-- a multiple of 12, and at most 4096 entries; of a table's length
unfoldable pub fits : ℕ → Bool
fits n = cond (eqb (n % 12) 0) (leb n 49152) false

-- the identifier of the first entry of t
unfoldable pub id_of : Bytes → ℕ
id_of t = row 256 0 (take 4 t)

-- the identifier of entry k
abbrev pub id_at : Bytes → ℕ → ℕ
id_at t k = id_of (drop (k * 12) t)

-- four bytes FF mark a free entry
abbrev pub free_id : ℕ
free_id = 4294967295

-- the table as a list of entries
abbrev pub entries : Bytes → List Bytes
entries t = first_chunks 12 (length t / 12) t

-- the entry is u's
abbrev pub is_of : ℕ → Bytes → Bool
is_of u e = eqb u (id_of e)

-- the eight bytes of u's entry among the first n: the first matching entry counts
unfoldable pub entry_in : ℕ → ℕ → Bytes → Option Bytes
entry_in zero u t = None
entry_in (suc n) u t = cond (eqb u (id_of t)) (Some (take 8 (drop 4 t))) (entry_in n u (drop 12 t))

unfoldable pub entry_of : ℕ → Bytes → Option Bytes
entry_of u t = entry_in (length t / 12) u t

-- the same entry with the eight bytes b
unfoldable pub enter_in : ℕ → ℕ → Bytes → Bytes → Bytes
enter_in zero u b t = t
enter_in (suc n) u b t = cond (eqb u (id_of t)) (take 4 t ++ (b ++ drop 12 t)) (take 12 t ++ enter_in n u b (drop 12 t))

unfoldable pub enter : ℕ → Bytes → Bytes → Bytes
enter u b t = enter_in (length t / 12) u b t

-- the first free entry among the first n becomes u's, with the eight bytes b
unfoldable pub enrol_in : ℕ → ℕ → Bytes → Bytes → Bytes
enrol_in zero u b t = t
enrol_in (suc n) u b t = cond (eqb free_id (id_of t)) (digits 256 4 u ++ (b ++ drop 12 t)) (take 12 t ++ enrol_in n u b (drop 12 t))

-- u's entry, else the first free entry
unfoldable pub enrolled : ℕ → Bytes → Bytes → Bytes
enrolled u b t = cond (is_some (entry_of u t)) (enter u b t) (enrol_in (length t / 12) u b t)
