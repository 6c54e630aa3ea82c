-- "Refusal numbers": each number's condition once. The table in `Commands` says which command asks which.
-- A mark tells the forms of one number apart: r1² asks it of issuer and party, r2ᵗ of a lent table, r5² of LDK and RDK, r6ᵒ of the old key, r6ᵉ and r7ᵉ of EIK,
-- r7ʳ of RPW, r11ᵐ of a mode, r12⁸ of whole blocks.
use Rattle.std.specs.Prelude.{is_some, Bool, true, false, cond, not, List, [], ◌∷◌, ℕ, ◌%◌, eqb, ltb, length}
use Rattle.cipher.specs.declared.modes.Mode.{Mode}
use Rattle.cipher.specs.declared.modes.Mode.TheVariants.{Ecbe, Ecbd, Cbce, Cbcd, Cfbe, Cfbd}
use Rattle.keys.specs.Keys.{parity_of}
use Rattle.state.specs.declared.Side.{Side}
use Rattle.state.specs.declared.Facility.{Facility}
use Rattle.state.specs.State.{Bytes, named, key_at}
use Rattle.table.specs.Entries.{fits, free_id, entry_of}
use Rattle.table.specs.Passwords.{big, same, authentic}
use Rattle.rules.specs.declared.Refusal.{Refusal}
use Rattle.rules.specs.declared.Refusal.TheVariants.{Identifier, TableLength, NotActive, AlreadyActive, KeyFunction, Interchange, OutOfTurn, AllTaken, NotAuthenticated}
use Rattle.rules.specs.declared.Refusal.TheVariants.{KeyMissing, VectorMissing, DataLength, OutputLength, EvenParity, NoEntry, Form, Cut}
use Rattle.rules.specs.World.{Own, current}
use Rattle.rules.specs.Sides.{function_of, unknown, wrong_pair}

-- the code's refusals by their numbers
abbrev pub number : Refusal → ℕ
number Identifier = 1
number TableLength = 2
number NotActive = 3
number AlreadyActive = 4
number KeyFunction = 5
number Interchange = 6
number OutOfTurn = 7
number AllTaken = 8
number NotAuthenticated = 9
number KeyMissing = 10
number VectorMissing = 11
number DataLength = 12
number OutputLength = 13
number EvenParity = 14
number NoEntry = 15
number Form = 16
number Cut = 17

-- a number with its condition
pub record Test : Type 0 where
  pub number : ℕ
  pub applies : Bool

abbrev pub on : ℕ → Bool → Test
on n b = record { number = n; applies = b }

-- ---- several apply: the first number of the list whose condition holds; 0 where none does

-- n where the test holds, else m
unfoldable pub test : Bool → ℕ → ℕ → ℕ
test true n m = n
test false n m = m

abbrev pub first_of : List Test → ℕ
first_of [] = 0
first_of (r ∷ rs) = test r.applies r.number (first_of rs)

-- ---- 1 identifier above 268435455: the issuer; the issuer or the party

abbrev pub r1 : ℕ → Test
r1 u = on 1 (big u)

unfoldable pub big_pair : ℕ → ℕ → Bool
big_pair i j = cond (big i) true (big j)

abbrev pub r1² : ℕ → ℕ → Test
r1² u p = on 1 (big_pair u p)

-- ---- 2 table length not a multiple of 12, or above 49152; 3 issuer not active; 4 already active

abbrev pub r2 : Own → Test
r2 o = on 2 (not o.fits)

abbrev pub r2ᵗ : Bytes → Test
r2ᵗ t = on 2 (not (fits (length t)))

abbrev pub r3 : Own → Test
r3 o = on 3 (not o.seat.active)

abbrev pub r4 : Own → Test
r4 o = on 4 o.seat.active

-- ---- 5 key function not t, r or s; in LDK and RDK also where s and "party equals issuer" do not agree

abbrev pub r5 : ℕ → Test
r5 f = on 5 (unknown (function_of f))

abbrev pub r5² : ℕ → ℕ → ℕ → Test
r5² f u p = on 5 (wrong_pair (function_of f) (eqb p u))

-- ---- 6 interchange not 1 to 15 (it then has no key: `key_at`), or its current or old key missing; EIK needs none

abbrev pub r6 : ℕ → Own → Test
r6 i o = on 6 (not (key_at i o.current).present)

abbrev pub r6ᵒ : ℕ → Own → Test
r6ᵒ i o = on 6 (not (key_at i o.old).present)

abbrev pub r6ᵉ : ℕ → Test
r6ᵉ i = on 6 (not (named i))

-- ---- 7 out of turn: while DUE; EIK of name 1 while DUE; RPW while not DUE, or while current or old key 1 is missing

abbrev pub r7 : Own → Test
r7 o = on 7 o.due

-- the name 1 is the facility's own
unfoldable pub of_own : ℕ → Bool → Bool → Bool
of_own i a b = cond (eqb i 1) a b

abbrev pub r7ᵉ : ℕ → Facility → Test
r7ᵉ i f = on 7 (of_own i f.due false)

unfoldable pub out_of_turn : Facility → Bool
out_of_turn f = cond f.due (cond (key_at 1 f.old_keys).present (not (key_at 1 f.current_keys).present) true) true

abbrev pub r7ʳ : Facility → Test
r7ʳ f = on 7 (out_of_turn f)

-- ---- 8 all 16 places taken (and the issuer has none: 4 comes before it); 9 not authenticated

abbrev pub r8 : Bool → Test
r8 shut = on 8 shut

abbrev pub r9 : ℕ → Bytes → Own → Test
r9 u password o = on 9 (not (authentic (current 1 o) u password o.entry))

-- ---- 10 key of the needed side missing; 11 its IV missing, which of the modes only CBC and CFB are asked

abbrev pub r10 : Side → Test
r10 s = on 10 (not s.key.present)

abbrev pub r11 : Side → Test
r11 s = on 11 (not s.vector.present)

abbrev pub r11ᵐ : Mode → Side → List Test → List Test
r11ᵐ Ecbe s rest = rest
r11ᵐ Ecbd s rest = rest
r11ᵐ Cbce s rest = r11 s ∷ rest
r11ᵐ Cbcd s rest = r11 s ∷ rest
r11ᵐ Cfbe s rest = r11 s ∷ rest
r11ᵐ Cfbd s rest = r11 s ∷ rest

-- ---- 12 data length: 0 or above 32768, and for all but DAUT also not a multiple of 8; 13 output shorter than the data

unfoldable pub bad_length : ℕ → Bool
bad_length n = cond (eqb n 0) true (ltb 32768 n)

unfoldable pub bad_blocks : ℕ → Bool
bad_blocks n = cond (bad_length n) true (not (eqb (n % 8) 0))

abbrev pub r12 : Bytes → Test
r12 d = on 12 (bad_length (length d))

abbrev pub r12⁸ : Bytes → Test
r12⁸ d = on 12 (bad_blocks (length d))

abbrev pub r13 : Bytes → ℕ → Test
r13 d room = on 13 (ltb room (length d))

-- ---- 14 some byte of the entered key has even parity: with parity set it is another key

abbrev pub r14 : Bytes → Test
r14 k = on 14 (not (same k (parity_of k)))

-- ---- 15 no free entry and no entry of the user

unfoldable pub lacks_entry : ℕ → Bytes → Bool
lacks_entry u t = cond (is_some (entry_of u t)) false (not (is_some (entry_of free_id t)))

abbrev pub r15 : ℕ → Bytes → Test
r15 u t = on 15 (lacks_entry u t)
