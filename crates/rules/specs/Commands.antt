-- "Commands and their replies": the page's table. Each command has its refusals and its effect.
use Rattle.std.specs.Prelude.{Bool, false, List, [], ◌∷◌, ℕ, length}
use Rattle.cipher.specs.declared.modes.Mode.{Mode}
use Rattle.cipher.specs.Cipher.{enciphered, deciphered, mode_text, mode_vector, fixity}
use Rattle.keys.specs.Keys.{parity_of, notarized}
use Rattle.state.specs.declared.Holdings.{Holdings}
use Rattle.state.specs.declared.Facility.{Facility}
use Rattle.state.specs.State.{Bytes, bare, key_at, rekeyed}
use Rattle.table.specs.Entries.{enrolled}
use Rattle.table.specs.Passwords.{sealed, moved}
use Rattle.rules.specs.World.{World, over, Own, own, shut_for, current, old, key1, old_key1, mine, key_of, vector_of, as_key, as_vector}
use Rattle.rules.specs.Sides.{function_of, pair_key, side_for, with_key, with_vector, mode_side, after_mode}
use Rattle.rules.specs.Refusals.{Test, of_own, r1, r1², r2, r2ᵗ, r3, r4, r5, r5², r6, r6ᵒ, r6ᵉ, r7}
use Rattle.rules.specs.Refusals.{r7ᵉ, r7ʳ, r8, r9, r10, r11, r11ᵐ, r12, r12⁸, r13, r14, r15}

-- ---- users' commands. The issuer, field 81, is named beside them

pub data UserCommand : Type 0 where
  RAS : (password : Bytes) → UserCommand
  LAU : UserCommand
  CPW : (password new : Bytes) → UserCommand
  GDK : (party interchange : ℕ) (bits : Bytes) → UserCommand
  LDK : (party interchange function : ℕ) (block : Bytes) → UserCommand
  GIV : (bits : Bytes) → UserCommand
  LIV : (function : ℕ) (block : Bytes) → UserCommand
  EIV : (block : Bytes) → UserCommand
  RDK : (party interchange function : ℕ) (block : Bytes) → UserCommand
  mode : Mode → (text : Bytes) → UserCommand
  DAUT : (function : ℕ) (text : Bytes) → UserCommand

-- the column "refusals". u: the issuer. room: the output's length. shut: the issuer has no place, and all are taken
unfoldable pub refusals : ℕ → UserCommand → ℕ → Bool → Own → List Test
refusals u (RAS password) room shut o = r1 u ∷ r2 o ∷ r4 o ∷ r6 1 o ∷ r7 o ∷ r8 shut ∷ r9 u password o ∷ []
refusals u LAU room shut o = r1 u ∷ r3 o ∷ []
refusals u (CPW password new) room shut o = r1 u ∷ r2 o ∷ r3 o ∷ r6 1 o ∷ r7 o ∷ r9 u password o ∷ []
refusals u (GDK p i bits) room shut o = r1² u p ∷ r3 o ∷ r6 i o ∷ []
refusals u (LDK p i f block) room shut o = r1² u p ∷ r3 o ∷ r5² f u p ∷ r6 i o ∷ []
refusals u (GIV bits) room shut o = r1 u ∷ r3 o ∷ r10 (mine o).transmit ∷ []
refusals u (LIV f block) room shut o = r1 u ∷ r3 o ∷ r5 f ∷ r10 (side_for (function_of f) (mine o)) ∷ []
refusals u (EIV block) room shut o = r1 u ∷ r3 o ∷ r10 (mine o).transmit ∷ []
refusals u (RDK p i f block) room shut o = r1² u p ∷ r3 o ∷ r5² f u p ∷ r6ᵒ i o ∷ r6 i o ∷ []
refusals u (mode m d) room shut o =
    let side = mode_side m (mine o) in r1 u ∷ r3 o ∷ r10 side ∷ r11ᵐ m side (r12⁸ d ∷ r13 d room ∷ [])
refusals u (DAUT f d) room shut o =
    let side = side_for (function_of f) (mine o) in r1 u ∷ r3 o ∷ r5 f ∷ r10 side ∷ r11 side ∷ r12 d ∷ []

-- what a user's command does: each is about the issuer's own place and the issuer's own entry
pub data Effect : Type 0 where
  refused : ℕ → Effect  -- nothing altered
  gives : ℕ → Bytes → Effect  -- so many of these eight bytes in the reply, nothing altered
  keeps : Holdings → Effect  -- the issuer's holdings become these
  leaves : Effect  -- the issuer's place is freed
  enters : (password : Bytes) → Effect  -- the issuer's entry gets this password
  writes : Bytes → Holdings → Effect  -- the first bytes of the output, and the issuer's holdings become these

-- the column "effect"
unfoldable pub effect : ℕ → UserCommand → Own → Effect
effect u (RAS password) o = keeps bare
effect u LAU o = leaves
effect u (CPW password new) o = enters new
effect u (GDK p i bits) o = gives 8 (enciphered (notarized (current i o) u p) (parity_of bits))
effect u (LDK p i f block) o =
    let opened = deciphered (pair_key (function_of f) (current i o) u p) block in keeps (with_key (function_of f) (as_key opened) (mine o))
effect u (GIV bits) o = gives 8 (enciphered (key_of (mine o).transmit) (parity_of bits))
effect u (LIV f block) o =
    let opened = deciphered (key_of (side_for (function_of f) (mine o))) block in keeps (with_vector (function_of f) (as_vector opened) (mine o))
effect u (EIV block) o = gives 8 (enciphered (key_of (mine o).transmit) block)
effect u (RDK p i f block) o =
    let opened = deciphered (pair_key (function_of f) (old i o) u p) block in gives 8 (enciphered (pair_key (function_of f) (current i o) u p) opened)
effect u (mode m d) o =
    let key = key_of (mode_side m (mine o)) in
    let vector = vector_of (mode_side m (mine o)) in
    writes (mode_text m key vector d) (after_mode m (as_vector (mode_vector m key vector d)) (mine o))
effect u (DAUT f d) o =
    let side = side_for (function_of f) (mine o) in gives 8 (fixity (key_of side) (vector_of side) d)

-- ---- all commands: those of users, the officer's and the host's

pub data Command : Type 0 where
  by : (issuer : ℕ) → UserCommand → Command
  EIK : (interchange : ℕ) (key : Bytes) → Command
  IPW : (user : ℕ) (password : Bytes) → Command
  RPW : Command
  logout : (user : ℕ) → Command

-- the column "refusals"; host logout is as LAU for the named user
unfoldable pub tests : Command → World → Bytes → List Test
tests (by u c) w out = refusals u c (length out) (shut_for u w) (own u w)
tests (EIK i k) w out = r6ᵉ i ∷ r7ᵉ i w.facility ∷ r14 k ∷ []
tests (IPW u p) w out = let o = own u w in r1 u ∷ r2 o ∷ r6 1 o ∷ r7 o ∷ r15 u w.table ∷ []
tests RPW w out = r2ᵗ w.table ∷ r7ʳ w.facility ∷ []
tests (logout u) w out = refusals u LAU (length out) (shut_for u w) (own u w)

-- EIK: current, even a missing one, becomes old; given key becomes current. Of name 1 it sets DUE where that name already had a current key; of another never
unfoldable pub keyed : ℕ → Bytes → Facility → Facility
keyed i k f = rekeyed i (record { 0 = k }) (of_own i (key_at 1 f.current_keys).present f.due) f

-- RPW clears DUE
abbrev pub undue : Facility → Facility
undue f = record { current_keys = f.current_keys; old_keys = f.old_keys; due = false; places = f.places }

-- the column "effect" of the officer's commands
abbrev pub key_entered : ℕ → Bytes → World → World
key_entered i k w = over (keyed i k w.facility) w.table

abbrev pub password_entered : ℕ → Bytes → World → World
password_entered u p w = over w.facility (enrolled u (sealed (key1 w) u p) w.table)

abbrev pub passwords_moved : World → World
passwords_moved w = over (undue w.facility) (moved (old_key1 w) (key1 w) w.table)
