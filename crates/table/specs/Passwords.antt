-- Passwords: how an entry keeps one, who is authenticated, and the move from an old key to the current one.
use Rattle.std.specs.Prelude.{Bool, true, false, cond, Option, None, Some, [], ◌∷◌, ◌++◌, ℕ, zero, suc, ◌/◌, eqb, ltb, length, take, drop}
use Rattle.cipher.specs.Cipher.{enciphered, deciphered}
use Rattle.keys.specs.Keys.{notarized}
use Rattle.state.specs.State.{Bytes}
use Rattle.table.specs.Entries.{id_of}

-- identifiers are numbers from 0 to 268435455
unfoldable pub big : ℕ → Bool
big u = ltb 268435455 u

-- the password enciphered under the key notarized with (u, u)
unfoldable pub sealed : Bytes → ℕ → Bytes → Bytes
sealed k u password = enciphered (notarized k u u) password

-- two runs of bytes are the same
unfoldable pub same : Bytes → Bytes → Bool
same [] [] = true
same [] (y ∷ ys) = false
same (x ∷ xs) [] = false
same (x ∷ xs) (y ∷ ys) = cond (eqb x y) (same xs ys) false

-- a user with no entry, and one with another password, are not
unfoldable pub authentic : Bytes → ℕ → Bytes → Option Bytes → Bool
authentic k u password None = false
authentic k u password (Some b) = same b (sealed k u password)

-- the first entry of t, moved from the key a to the key k where it is a user's
unfoldable pub moved_entry : Bytes → Bytes → Bytes → Bytes
moved_entry a k t =
    take 4 t ++ cond (big (id_of t)) (take 8 (drop 4 t)) (sealed k (id_of t) (deciphered (notarized a (id_of t) (id_of t)) (take 8 (drop 4 t))))

-- the first n entries moved
unfoldable pub moved_in : ℕ → Bytes → Bytes → Bytes → Bytes
moved_in zero a k t = t
moved_in (suc n) a k t = moved_entry a k t ++ moved_in n a k (drop 12 t)

unfoldable pub moved : Bytes → Bytes → Bytes → Bytes
moved a k t = moved_in (length t / 12) a k t
